-- What holds of several calls, one after another, that holds of each.
use Rattle.std.specs.Prelude.{◌≡◌, ℕ, ◌+◌, ◌≤◌, List, [], ◌++◌, Option}
use Rattle.ch_io.specs.Counts.{Rose, raised, NeverFall}
use Rattle.ch_io.specs.Known.{Takes, Adds}
use Rattle.ch_io.specs.declared.counts.Counts.{Counts}

-- a count that rose in one of several calls rose over all of them, no count falls over several calls, and rises add up
pub record CountsLaw : Type 0 where
  pub rose_before : (a b c : ℕ) → Rose a b → b ≤ c → Rose a c
  pub rose_after : (a b c : ℕ) → a ≤ b → Rose b c → Rose a c
  pub never_fall : (a b c : Counts) → NeverFall a b → NeverFall b c → NeverFall a c
  pub stay : (a : Counts) → NeverFall a a
  pub raises : (count more most : ℕ) → raised (raised count more) most ≡ raised count (more + most)

-- what several calls take from a known list, or add to it, is what each does, joined
pub record KnownLaw (A : Type 0) : Type 0 where
  pub takes : (a b c : Option (List A)) (xs ys : List A) → Takes a b xs → Takes b c ys → Takes a c (xs ++ ys)
  pub adds : (a b c : Option (List A)) (xs ys : List A) → Adds a b xs → Adds b c ys → Adds a c (xs ++ ys)
  pub takes_nothing : (a : Option (List A)) → Takes a a []
  pub adds_nothing : (a : Option (List A)) → Adds a a []
