-- How the calls of a version in memory go.
use Rattle.std.specs.Prelude.{ℕ, ◌-◌, ◌^◌, ◌==◌, List, Option, Some, None, max, get_or, cond}
use Rattle.std.specs.List.{list_any}
use Rattle.ch_io.specs.Counts.{raised}

-- how many bytes each call moves at most, which calls fail, and how many calls there were
pub record Plan : Type 0 where
  pub pieces : List ℕ
  pub failing : List ℕ
  pub calls : ℕ

-- one call more
abbrev pub after_call : Plan → Plan
after_call p = record { pieces = p.pieces; failing = p.failing; calls = raised p.calls 1 }

-- how many bytes the next call moves at most, at least one; none where it is to fail
abbrev pub next_size : Plan → Option ℕ
next_size p = cond (list_any (λ n. n == raised p.calls 1) p.failing) None (Some (max (get_or p.pieces p.calls (2 ^ 64 - 1)) 1))
