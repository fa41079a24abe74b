-- What is told of a list of contents, where it is known: over memory it is, over a file or a socket it isn't.
use Rattle.std.specs.Prelude.{◌≡◌, List, [], ◌++◌, Option, Some, None}

module _ {A : Type 0} where
  -- a known list begins with these, and loses them
  abbrev pub Takes : Option (List A) → Option (List A) → List A → Type 0
  Takes None new xs = Unit {0}
  Takes (Some old) None xs = ⊥
  Takes (Some old) (Some new) xs = old ≡ xs ++ new

  -- a known list grows by these at its end
  abbrev pub Adds : Option (List A) → Option (List A) → List A → Type 0
  Adds None new xs = Unit {0}
  Adds (Some old) None xs = ⊥
  Adds (Some old) (Some new) xs = new ≡ old ++ xs

  -- a known list is empty
  abbrev pub IsNothing : Option (List A) → Type 0
  IsNothing None = Unit {0}
  IsNothing (Some xs) = xs ≡ []
