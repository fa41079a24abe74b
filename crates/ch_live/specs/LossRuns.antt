-- Several calls that make the losses of one socket, one after another at one desk. Between them other callers may call at the
-- shards, and the same caller too.
use Rattle.std.specs.Prelude.{◌≡◌, ℕ, ⊤, List, [], ◌∷◌, ◌++◌, Result, IsOk}
use Rattle.std.specs.List.{flat_map}
use Rattle.ch_base.specs.declared.channel.ChanCall.TheVariants as chan
use Rattle.ch_base.specs.declared.memory.Memory.{Memory}
use Rattle.ch_base.specs.declared.user.UserCall.TheVariants as user
use Rattle.ch_desk.specs.Views.{DeskView, IsSameDesk}
use Rattle.ch_protocol.specs.Asks.{Asked}
use Rattle.ch_protocol.specs.declared.ask.Ask.{Ask}
use Rattle.ch_protocol.specs.declared.ask.Ask.TheVariants.{Chan, User}
use Rattle.ch_live.specs.Losses.{Loses}
use Rattle.ch_live.specs.declared.peer.Peer.{Peer}

-- one of the calls: its moment, the losses that it made, who the socket is then, its answer, and the desk before and after it
pub record LossCall : Type 0 where
  pub now : ℕ
  pub asked : List Asked
  pub peer : Peer
  pub result : Result ⊤ Memory
  pub desk : DeskView
  pub desk_new : DeskView

module _ {E : Type 0} where
  -- the list has more entries
  abbrev pub GrewTo : List E → List E → Type 0
  GrewTo old new = (more : List E) × (new ≡ old ++ more)

  -- the entry stands in the list, after everything of the earlier list
  abbrev pub StandsAfter : E → List E → List E → Type 0
  StandsAfter e earlier list = (since later : List E) × (list ≡ (earlier ++ since) ++ e ∷ later)

-- the same desk later on
pub record IsLater (old new : DeskView) : Type 0 where
  pub same : IsSameDesk old new
  pub chans : (k : ℕ) → GrewTo (old.chans k) (new.chans k)
  pub users : (k : ℕ) → GrewTo (old.users k) (new.users k)

-- these calls were made
abbrev pub LosesOver : List LossCall → Peer → Peer → DeskView → DeskView → Type 0
LosesOver [] old new desk desk_new = (new ≡ old) × IsLater desk desk_new
LosesOver (c ∷ calls) old new desk desk_new =
    IsLater desk c.desk × Loses c.now c.asked old c.peer c.desk c.desk_new c.result × LosesOver calls c.peer new c.desk_new desk_new

-- all losses that they made, in order
abbrev pub losses_in : List LossCall → List Asked
losses_in calls = flat_map (λ c. c.asked) calls

-- the last of them answered Ok
abbrev pub EndsOk : List LossCall → Type 0
EndsOk [] = ⊥
EndsOk (c ∷ []) = IsOk c.result
EndsOk (c ∷ d ∷ calls) = EndsOk (d ∷ calls)

-- the loss as it is made at another moment
abbrev pub at_moment : ℕ → Ask → Ask
at_moment at (Chan shard (chan.Lost socket now)) = Chan shard (chan.Lost socket at)
at_moment at (User shard (user.Lost socket now)) = User shard (user.Lost socket at)
at_moment at ask = ask
