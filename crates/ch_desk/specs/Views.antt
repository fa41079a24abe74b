-- What contracts see of a desk.
use Rattle.std.specs.Prelude.{◌≡◌, ◌≢◌, ◌<◌, ℕ, List}
use Rattle.ch_config.specs.declared.config.Config.{Config}
use Rattle.ch_history.specs.Entries.{ChanHistory, UserHistory}
use Rattle.ch_history.specs.Placement.{BelongsTo, IsLegalAt, UserBelongsTo, IsUserLegalAt}
use Rattle.ch_history.specs.UserLegal.{IsUserWellFormed}
use Rattle.ch_history.specs.WellFormed.{IsWellFormed}
use Rattle.ch_protocol.specs.Shards.{Shards}
use Rattle.ch_protocol.specs.declared.ask.Ask.{Ask}
use Rattle.ch_protocol.specs.declared.ask.Ask.TheVariants.{Chan, User}

-- the numbers that name the locks of a house, of each kind of shard; none where there are no locks
abbrev pub House : Type 0
House = List (List ℕ) × List (List ℕ)

-- the house whose shards these are, the number of the desk's caller, how many shards of each kind there are, and of each
-- shard the list of entries as the caller knows it
pub record DeskView : Type 0 where
  pub house : House
  pub caller : ℕ
  pub chan_shards : ℕ
  pub user_shards : ℕ
  pub chans : ℕ → ChanHistory
  pub users : ℕ → UserHistory

-- the lists alone
abbrev pub shards_of : DeskView → Shards
shards_of desk = record { chans = desk.chans; users = desk.users }

-- the desk has the shards of the configuration
pub record IsDeskOf (config : Config) (desk : DeskView) : Type 0 where
  pub chan_shards : desk.chan_shards ≡ config.chan_shards
  pub user_shards : desk.user_shards ≡ config.user_shards

-- the ask's call is well formed, its shard is there, and it belongs to it
abbrev pub MayAsk : DeskView → Ask → Type 0
MayAsk desk (Chan shard call) = IsWellFormed call × (shard < desk.chan_shards) × BelongsTo (shard, desk.chan_shards) call
MayAsk desk (User shard call) = IsUserWellFormed call × (shard < desk.user_shards) × UserBelongsTo (shard, desk.user_shards) call

-- every list is a legal history of its shard
pub record IsLegalDesk (desk : DeskView) : Type 0 where
  pub chans : (k : ℕ) → k < desk.chan_shards → IsLegalAt (k, desk.chan_shards) (desk.chans k)
  pub users : (k : ℕ) → k < desk.user_shards → IsUserLegalAt (k, desk.user_shards) (desk.users k)

-- it is the desk of the same caller at the same shards
pub record IsSameDesk (old new : DeskView) : Type 0 where
  pub house : new.house ≡ old.house
  pub caller : new.caller ≡ old.caller
  pub chan_shards : new.chan_shards ≡ old.chan_shards
  pub user_shards : new.user_shards ≡ old.user_shards

-- all but the list of the channel shard k is as it was
pub record StaysButChan (k : ℕ) (old new : DeskView) : Type 0 where
  pub same : IsSameDesk old new
  pub chans : (j : ℕ) → j ≢ k → new.chans j ≡ old.chans j
  pub users : (j : ℕ) → new.users j ≡ old.users j

-- all but the list of the user shard k is as it was
pub record StaysButUser (k : ℕ) (old new : DeskView) : Type 0 where
  pub same : IsSameDesk old new
  pub chans : (j : ℕ) → new.chans j ≡ old.chans j
  pub users : (j : ℕ) → j ≢ k → new.users j ≡ old.users j
