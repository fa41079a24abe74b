-- The words of a command line.
use Rattle.std.specs.Prelude.{ℕ, List, [], map, drop, Result, Ok, Err, string_bytes}
use Rattle.std.specs.Vec.Iter.{into_iter_items}
use Rattle.std.specs.declared.alloc.Global.{Global}
use Rattle.std.specs.declared.string.String.{String}
use Rattle.std.specs.declared.vec.IntoIter.{IntoIter}

-- the bytes of the arguments behind the first one, which is the program's name
abbrev pub words_from : IntoIter (String Global) Global → List (List ℕ)
words_from args = map string_bytes (drop 1 (into_iter_items args))

-- the words; where the arguments can't be read as texts there are none
abbrev pub words_in : {E : Type 0} → Result (IntoIter (String Global) Global) E → List (List ℕ)
words_in (Ok args) = words_from args
words_in (Err _) = []
