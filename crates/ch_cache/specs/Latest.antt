-- The latest event of each channel among those that are kept.
use Rattle.std.specs.Prelude.{ℕ, Bool, ◌&&◌, List, bytes_eq, nat_lt, Option, find, option_map}
use Rattle.ch_history.specs.declared.rows.Cached.{Cached}
use Rattle.ch_cache.specs.declared.latest_event.LatestEvent.{LatestEvent}

-- whether this is an event of the channel c
abbrev pub is_event_on : List ℕ → LatestEvent → Bool
is_event_on c e = bytes_eq e.channel c

-- whether the event hasn't ended by the moment
abbrev pub lasts : ℕ → LatestEvent → Bool
lasts at e = nat_lt at e.cached.ends

-- the event of the channel c that hasn't ended by the moment
abbrev pub found : List LatestEvent → List ℕ → ℕ → Option LatestEvent
found es c at = find (λ e. is_event_on c e && lasts at e) es

-- the event that is kept for the channel c at the moment, where there is one
abbrev pub latest_in : List LatestEvent → List ℕ → ℕ → Option Cached
latest_in es c at = option_map (λ e. e.cached) (found es c at)
