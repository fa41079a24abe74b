-- The losses that a session still has to make: one on each shard that it uses.
use Rattle.std.specs.Prelude.{Some, None, Option, ◌≡◌, ℕ, zero, suc, ◌+◌, ◌-◌, ◌<◌, ◌≤◌, Bool, true, false, nat_lt, List, [], ◌∷◌, length, slice_index_or, MatchOption, if◌then◌else◌}
use Rattle.ch_base.specs.declared.channel.ChanCall.TheVariants as chan
use Rattle.ch_base.specs.declared.user.UserCall.TheVariants as user
use Rattle.ch_protocol.specs.declared.ask.Ask.{Ask}
use Rattle.ch_protocol.specs.declared.ask.Ask.TheVariants.{Chan, User}

-- the least place from this one on at which the row is true
abbrev pub IsNextUsed : List Bool → ℕ → Option ℕ → Type 0
IsNextUsed used from result =
    MatchOption result ((k : ℕ) → from ≤ k → k < length used → slice_index_or used k false ≡ false)
    (λ place. (from ≤ place) × (place < length used) × (slice_index_or used place false ≡ true)
    × ((k : ℕ) → from ≤ k → k < place → slice_index_or used k false ≡ false))

-- the call by which the socket is lost on the shard at this place of the row: so many channel shards, and then the user shards
abbrev pub loss_at : ℕ → ℕ → ℕ → ℕ → Ask
loss_at chans socket now place =
    if nat_lt place chans then Chan place (chan.Lost socket now) else User (place - chans) (user.Lost socket now)

-- the next loss is that at the least used place from this one on; there is none where no such place is used
abbrev pub IsNextLoss : List Bool → ℕ → (ℕ → Ask) → Option Ask → Type 0
IsNextLoss used from loss None = IsNextUsed used from None
IsNextLoss used from loss (Some ask) = (place : ℕ) × IsNextUsed used from (Some place) × (ask ≡ loss place)

-- the losses on the shards that are used, of so many places from this one on, ascending
abbrev pub losses_from : (ℕ → Bool) → (ℕ → Ask) → ℕ → ℕ → List Ask
losses_from uses loss zero place = []
losses_from uses loss (suc left) place =
    if uses place then loss place ∷ losses_from uses loss left (place + 1) else losses_from uses loss left (place + 1)
