-- Lists of texts: their order by bytes, and the texts of a list each once.
use Rattle.std.specs.Prelude.{ℕ, Bool, List, [], ◌∷◌, bytes_eq, if◌then◌else◌}
use Rattle.std.specs.List.{list_any}
use Rattle.std.specs.Ordering.{is_lt, nat_cmp}
use Rattle.std.specs.Cmp.Lexicographic.{slice_cmp}

-- whether a comes before b, byte by byte
abbrev pub is_before : List ℕ → List ℕ → Bool
is_before a b = is_lt (slice_cmp nat_cmp a b)

-- whether the text is one of these
abbrev pub has_text : List (List ℕ) → List ℕ → Bool
has_text xs x = list_any (λ y. bytes_eq y x) xs

-- the texts of a list without those that come again later
abbrev pub each_once : List (List ℕ) → List (List ℕ)
each_once [] = []
each_once (x ∷ xs) = if has_text xs x then each_once xs else x ∷ each_once xs

-- an ascending list with one more text
abbrev pub place : List ℕ → List (List ℕ) → List (List ℕ)
place x [] = x ∷ []
place x (y ∷ ys) = if is_before x y then x ∷ y ∷ ys else y ∷ place x ys

-- the texts in ascending order
abbrev pub sorted : List (List ℕ) → List (List ℕ)
sorted [] = []
sorted (x ∷ xs) = place x (sorted xs)

-- the texts of a list, each once, ascending
abbrev pub ascending : List (List ℕ) → List (List ℕ)
ascending xs = sorted (each_once xs)
