-- How many client events a connection may send: ten in a second.
use Rattle.std.specs.Prelude.{◌≡◌, ℕ, ◌+◌, ◌-◌, nat_lt, nat_le, Bool, ◌||◌, List, length, drop, slice_index}
use Rattle.ch_rate.specs.declared.limits.TheConstants.{LIMIT, WINDOW}

-- whether one more is allowed now, after those that were accepted at these moments, the oldest first: there are
-- fewer than `LIMIT`, or now is at least the first of the last `LIMIT` plus `WINDOW`
abbrev pub rate_allows : List ℕ → ℕ → Bool
rate_allows accepted now =
    nat_lt (length accepted) LIMIT || nat_le (slice_index accepted (length accepted - LIMIT) + WINDOW) now

-- the last ten moments, or all where there are fewer
abbrev pub last_ten : List ℕ → List ℕ
last_ten moments = drop (length moments - LIMIT) moments

-- the rate stands for these accepted moments
abbrev pub IsRateOf : List ℕ → List ℕ → Type 0
IsRateOf rate accepted = rate ≡ last_ten accepted
