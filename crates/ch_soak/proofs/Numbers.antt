-- Texts that are compared.
use Rattle.std.proofs.Common.{◌≡◌, ℕ, Bool, false, true, not, List, bytes_eq, refl}
use Rattle.std.proofs.lemmas.Slice.Eq.{bytes_eq-Decides}

-- texts that don't pass the test aren't equal
pub texts_differ : (xs ys : List ℕ) → bytes_eq xs ys ≡ false → xs ≡ ys → ⊥
texts_differ xs ys is e = absurd (let h : bytes_eq xs ys ≡ true = (bytes_eq-Decides xs ys).1 e in cc)

-- texts that pass it are
pub texts_equal : (xs ys : List ℕ) → false ≡ not (bytes_eq xs ys) → xs ≡ ys
texts_equal xs ys is = (bytes_eq-Decides xs ys).0 (is_true (bytes_eq xs ys) is)
  where
    is_true : (b : Bool) → false ≡ not b → b ≡ true
    is_true true h = refl
    is_true false h = absurd (cc)
