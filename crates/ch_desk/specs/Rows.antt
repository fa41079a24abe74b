-- A row of seats: shards of one kind, each with the calls that caller 0 made on it.
use Rattle.std.specs.Prelude.{◌≡◌, ℕ, ◌≤◌, ◌<◌, List, length, map, slice_index_or}
use Rattle.ch_base.specs.Growth.{entry}
use Rattle.ch_base.specs.declared.entry.Entry.{Entry}
use Rattle.ch_config.specs.declared.limits.TheConstants.{MAX_SHARDS}
use Rattle.ch_desk.specs.declared.row.Answered.{Answered}
use Rattle.ch_desk.specs.declared.row.Seat.{Seat}

module _ {T C A : Type 0} where
  -- the history of the calls that were made at a seat
  abbrev pub history : Seat T C A → List (Entry C A)
  history seat = map (λ (c : Answered C A). entry 0 c.call.value c.answer.value) seat.calls.items

  module _ (place : T → ℕ × ℕ) (stands : T → List (Entry C A) → Type 0) where
    -- the seat's shard is at this place, and stands for the history of the calls
    pub record IsSeat (at : ℕ × ℕ) (seat : Seat T C A) : Type 0 where
      pub placed : place seat.shard ≡ at
      pub right : stands seat.shard (history seat)

    -- there are 1 to `MAX_SHARDS` seats, each at its place
    pub record IsRow (seats : List (Seat T C A)) : Type 0 where
      pub some : 1 ≤ length seats
      pub few : length seats ≤ MAX_SHARDS
      pub each : (k : ℕ) → k < length seats → (d : Seat T C A) → IsSeat (k, length seats) (slice_index_or seats k d)
