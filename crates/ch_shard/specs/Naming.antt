-- Names one after another.
use Rattle.std.specs.Prelude.{ℕ, List, Option, Some, None, find}
use Rattle.ch_subs.specs.Names.{is_above}

-- the name after this one, where there is one
abbrev pub following : List (List ℕ) → Option (List ℕ) → Option (List ℕ)
following ys None = None
following ys (Some c) = find (is_above (Some c)) ys
