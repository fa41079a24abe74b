-- The clock of a channel shard. Callers may hand in moments that differ: the greatest one so far counts, so that nothing
-- goes back in time for a caller that is behind.
use Rattle.std.specs.Prelude.{ℕ, max, [], ◌∷◌}
use Rattle.ch_base.specs.declared.channel.ChanCall.{ChanCall}
use Rattle.ch_base.specs.declared.channel.ChanCall.TheVariants.{Join, Leave, Lost, Publish, Say, Take, TakeHooks, Names, Look, Users}
use Rattle.ch_history.specs.Entries.{ChanHistory}

-- the moment that the call carries, in milliseconds; 0 where it carries none
abbrev pub moment_of : ChanCall → ℕ
moment_of (Join socket channel member at) = at
moment_of (Leave socket channel at) = at
moment_of (Lost socket at) = at
moment_of (Publish channel event body except at) = at
moment_of (Say socket channel event body at) = at
moment_of Take = 0
moment_of (TakeHooks at) = at
moment_of (Names prefix) = 0
moment_of (Look channel at) = at
moment_of (Users channel) = 0

-- the clock with one more call
abbrev pub clock_with : ℕ → ChanCall → ℕ
clock_with clock call = max clock (moment_of call)

-- the clock with more entries
abbrev pub clock_after : ℕ → ChanHistory → ℕ
clock_after clock [] = clock
clock_after clock (e ∷ later) = clock_after (clock_with clock e.call) later

-- the greatest moment of the calls, and 0 where none carries one
abbrev pub clock : ChanHistory → ℕ
clock h = clock_after 0 h
