-- What contracts see of a house of shards, and of the passes of its callers.
use Rattle.std.specs.Prelude.{◌≡◌, ℕ, ◌<◌, ◌≤◌, List, [], length, map, Option, Some, None, IsSome, slice_index_or}
use Rattle.std.specs.List.{zip}
use Rattle.ch_base.specs.declared.channel.ChanCall.{ChanCall}
use Rattle.ch_base.specs.declared.channel.ChanAnswer.{ChanAnswer}
use Rattle.ch_base.specs.declared.limits.TheConstants.{MAX_CALLERS}
use Rattle.ch_base.specs.declared.user.UserCall.{UserCall}
use Rattle.ch_base.specs.declared.user.UserAnswer.{UserAnswer}
use Rattle.ch_config.specs.declared.limits.TheConstants.{MAX_SHARDS}
use Rattle.ch_history.specs.Entries.{ChanHistory, UserHistory}
use Rattle.ch_history.specs.Placement.{IsLegalAt, IsUserLegalAt}
use Rattle.ch_turn.specs.Callers.{CallersBelow}
use Rattle.ch_house.specs.Rows.{RowModel, RowPassesModel, place_of}
use Rattle.ch_house.specs.Rows as row

-- a house: its row of channel shards, and its row of user shards
pub record HouseModel : Type 0 where
  pub chans : RowModel
  pub users : RowModel

-- the passes of one caller: the house, the caller number, and of each shard the history as the caller knows it
pub record PassesModel : Type 0 where
  pub house : HouseModel
  pub caller : ℕ
  pub chans : List ChanHistory
  pub users : List UserHistory

-- the passes of all callers of a house, with None where they are taken
pub record PassesListModel : Type 0 where
  pub house : HouseModel
  pub slots : List (Option PassesModel)

-- how many channel shards there are
abbrev pub chan_count : HouseModel → ℕ
chan_count house = length house.chans.locks

-- how many user shards there are
abbrev pub user_count : HouseModel → ℕ
user_count house = length house.users.locks

-- the history of the channel shard k
abbrev pub seen : PassesModel → ℕ → ChanHistory
seen passes k = slice_index_or passes.chans k []

-- the history of the user shard k
abbrev pub seen_user : PassesModel → ℕ → UserHistory
seen_user passes k = slice_index_or passes.users k []

-- these are the places of all n shards of a kind, in order
abbrev pub AreAllPlaces : ℕ → List (ℕ × ℕ) → Type 0
AreAllPlaces n places = (k : ℕ) → k < n → slice_index_or places k (0, 0) ≡ (k, n)

-- there are 1 to `MAX_SHARDS` shards of each kind, each in the lock of its number, and all have the same callers
pub record IsHouse (house : HouseModel) : Type 0 where
  pub some : 1 ≤ chan_count house
  pub few : chan_count house ≤ MAX_SHARDS
  pub places : (k : ℕ) → k < chan_count house → place_of house.chans k ≡ (k, chan_count house)
  pub some_users : 1 ≤ user_count house
  pub few_users : user_count house ≤ MAX_SHARDS
  pub user_places : (k : ℕ) → k < user_count house → place_of house.users k ≡ (k, user_count house)
  pub callers : house.users.callers ≡ house.chans.callers

-- there is a history of each shard of the house, which is legal at its place and of the house's callers
pub record IsPasses (passes : PassesModel) : Type 0 where
  pub is_house : IsHouse passes.house
  pub small : passes.caller < MAX_CALLERS
  pub below : passes.caller < passes.house.chans.callers
  pub count : length passes.chans ≡ chan_count passes.house
  pub legal : (k : ℕ) → k < length passes.chans → IsLegalAt (k, length passes.chans) (seen passes k)
  pub known : (k : ℕ) → k < length passes.chans → CallersBelow passes.house.chans.callers (seen passes k)
  pub user_count_is : length passes.users ≡ user_count passes.house
  pub legal_users : (k : ℕ) → k < length passes.users → IsUserLegalAt (k, length passes.users) (seen_user passes k)
  pub known_users : (k : ℕ) → k < length passes.users → CallersBelow passes.house.chans.callers (seen_user passes k)

-- the passes of a caller of both rows
abbrev pub passes_of : RowPassesModel ChanCall ChanAnswer → RowPassesModel UserCall UserAnswer → PassesModel
passes_of chans users = record {
  house = record { chans = chans.row; users = users.row };
  caller = chans.caller;
  chans = chans.lists;
  users = users.lists;
}

-- the same, where both are there
abbrev pub passes_there : Option (RowPassesModel ChanCall ChanAnswer) × Option (RowPassesModel UserCall UserAnswer)
    → Option PassesModel
passes_there (Some chans, Some users) = Some (passes_of chans users)
passes_there _ = None

-- the passes of all callers of both rows
abbrev pub all_passes : List (Option (RowPassesModel ChanCall ChanAnswer)) → List (Option (RowPassesModel UserCall UserAnswer))
    → List (Option PassesModel)
all_passes chans users = map passes_there (zip chans users)

-- the passes of a caller that has seen nothing
abbrev pub fresh_passes : HouseModel → ℕ → PassesModel
fresh_passes house caller = passes_of (row.fresh_passes house.chans caller) (row.fresh_passes house.users caller)

-- the passes are of the house, and have the number i
abbrev pub ArePassesOf : HouseModel → ℕ → PassesModel → Type 0
ArePassesOf house i p = (p.house ≡ house) × (p.caller ≡ i)

-- nobody has passes of these
abbrev pub IsWhole : PassesListModel → Type 0
IsWhole passes = (i : ℕ) → i < passes.house.chans.callers → IsSome (slice_index_or passes.slots i None)
