-- What a link tells of itself, and what calls do to that.
use Rattle.std.specs.Prelude.{ℕ, ◌<◌, ◌≤◌, List, [], length, take, Option}
use Rattle.ch_io.specs.Counts.{Rose, NeverFall}
use Rattle.ch_io.specs.declared.counts.Counts.{Counts}
use Rattle.ch_io.specs.Known.{Takes, Adds}
use Rattle.ch_net.specs.declared.link.LinkGot.{LinkGot}
use Rattle.ch_net.specs.declared.link.LinkGot.TheVariants as got
use Rattle.ch_net.specs.declared.link.LinkWrote.{LinkWrote}
use Rattle.ch_net.specs.declared.link.LinkWrote.TheVariants as wrote

-- the bytes that are left in it, those that it gave and those that were written to it, where they are known; the counts
pub record LinkTold : Type 0 where
  pub left : Option (List ℕ)
  pub gave : Option (List ℕ)
  pub written : Option (List ℕ)
  pub counts : Counts

-- calls read these bytes and wrote those, each in order; no count fell
pub record LinkMoves (old new : LinkTold) (reads writes : List ℕ) : Type 0 where
  pub left : Takes old.left new.left reads
  pub gave : Adds old.gave new.gave reads
  pub written : Adds old.written new.written writes
  pub counts : NeverFall old.counts new.counts

-- ---- one call

-- the bytes that a read gave, by its answer and the buffer after it
abbrev pub given : LinkGot → List ℕ → List ℕ
given (got.Read n) buf = take n buf
given _ buf = []

-- a read gives at least one byte, and no more than the buffer holds
abbrev pub IsWithin : LinkGot → List ℕ → Type 0
IsWithin (got.Read n) buf = (0 < n) × (n ≤ length buf)
IsWithin _ buf = Unit {0}

-- the bytes that a write took
abbrev pub taken : LinkWrote → List ℕ → List ℕ
taken (wrote.Wrote n) bytes = take n bytes
taken _ bytes = []

-- a write takes at least one byte, and no more than there are
abbrev pub IsPart : LinkWrote → List ℕ → Type 0
IsPart (wrote.Wrote n) bytes = (0 < n) × (n ≤ length bytes)
IsPart _ bytes = Unit {0}

-- ---- the count that rose, where an answer needs one

abbrev pub GotHasCause : LinkGot → Counts → Counts → Type 0
GotHasCause (got.Read n) old new = Unit {0}
GotHasCause got.Ended old new = Rose old.ends new.ends
GotHasCause got.NotYet old new = Rose old.stalls new.stalls
GotHasCause got.Failed old new = Rose old.faults new.faults

abbrev pub WroteHasCause : LinkWrote → Counts → Counts → Type 0
WroteHasCause (wrote.Wrote n) old new = Unit {0}
WroteHasCause wrote.NotYet old new = Rose old.stalls new.stalls
WroteHasCause wrote.Failed old new = Rose old.faults new.faults
