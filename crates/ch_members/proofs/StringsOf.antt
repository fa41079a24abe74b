-- The strings of an array, one value after another.
use Rattle.std.proofs.Common.{◌≡◌, ℕ, zero, suc, ◌+◌, List, [], ◌∷◌, ◌++◌, take, Some, subst, arith}
use Rattle.std.specs.Prelude.{slice_get}
use Rattle.ch_base.specs.JsonTree.{Tree}
use Rattle.ch_base.specs.ObjectMembers.{IsStringOf}
use Rattle.ch_members.specs.ArrayStrings.{AreStrings}

strings_push : (text : List ℕ) (vs : List Tree) (i : ℕ) (v : Tree) (x : List ℕ) (xs : List (List ℕ)) → slice_get vs i ≡ Some v → IsStringOf text v x → AreStrings text (take i vs) xs → AreStrings text (take (suc i) vs) (xs ++ x ∷ [])
strings_push text [] i v x xs e is h = absurd (cc)
strings_push text (w ∷ vs) zero v x [] e is h = let same : v ≡ w = cc in (subst (λ (y : Tree). IsStringOf text y x) same is, tt)
strings_push text (w ∷ vs) zero v x (y ∷ xs) e is h = absurd h
strings_push text (w ∷ vs) (suc i) v x [] e is h = absurd h
strings_push text (w ∷ vs) (suc i) v x (y ∷ xs) e is h = (h.0, strings_push text vs i v x xs e is h.1)

-- one more value
pub strings_more : (text : List ℕ) (vs : List Tree) (i : ℕ) (v : Tree) (x : List ℕ) (xs : List (List ℕ)) → slice_get vs i ≡ Some v → IsStringOf text v x → AreStrings text (take i vs) xs → AreStrings text (take (i + 1) vs) (xs ++ x ∷ [])
strings_more text vs i v x xs e is h = let up : suc i ≡ i + 1 = omega arith in subst (λ k. AreStrings text (take k vs) (xs ++ x ∷ [])) up (strings_push text vs i v x xs e is h)

pub string_at_place : (text : List ℕ) (vs : List Tree) (i : ℕ) (v : Tree) (xs : List (List ℕ)) → slice_get vs i ≡ Some v → AreStrings text vs xs → (x : List ℕ) × IsStringOf text v x
string_at_place text [] i v xs e h = absurd (cc)
string_at_place text (w ∷ vs) i v [] e h = absurd h
string_at_place text (w ∷ vs) zero v (x ∷ xs) e h = let same : w ≡ v = cc in (x, subst (λ (y : Tree). IsStringOf text y x) same h.0)
string_at_place text (w ∷ vs) (suc i) v (x ∷ xs) e h = string_at_place text vs i v xs e h.1
