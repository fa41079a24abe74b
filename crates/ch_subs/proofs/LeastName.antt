-- The least of ascending names above one is the next one in their list.
use Rattle.std.proofs.Common.{◌≡◌, ℕ, zero, suc, ◌<◌, Bool, true, false, cond, List, [], ◌∷◌, Some, None, Ordering, Less, Equal, Greater, find, length, slice_get, refl, ap, ◌∙◌, arith}
use Rattle.std.specs.List.{list_all}
use Rattle.std.specs.Ordering.{is_lt, is_eq}
use Rattle.std.proofs.lemmas.Cmp.{nat_list_cmp_total}
use Rattle.std.proofs.lemmas.Map.Text.{is_eq-slice_cmp}
use Rattle.ch_history.specs.Texts.{is_before}
use Rattle.ch_history.proofs.Lists.{both}
use Rattle.ch_history.proofs.Texts.{text_itself}
use Rattle.ch_history.proofs.Ascending.{compared, IsAscending}
use Rattle.ch_subs.specs.Names.{is_above}

-- The order of names

less_by : (o : Ordering) → is_lt o ≡ true → o ≡ Less
less_by Less is = refl
less_by Equal is = cc
less_by Greater is = cc

not_equal : (o : Ordering) → is_eq o ≡ true → is_lt o ≡ false
not_equal Less is = cc
not_equal Equal is = refl
not_equal Greater is = refl

before_itself : (x : List ℕ) → is_before x x ≡ false
before_itself x = not_equal (compared x x) (is_eq-slice_cmp x x ∙ text_itself x)

not_both : (x y : List ℕ) → is_before x y ≡ true → is_before y x ≡ false
not_both x y first =
    (elim (is_before y x) as (λ b. is_before y x ≡ b → b ≡ false) [
      | true ↦ (λ second.
          let again : is_before x x ≡ true = ap is_lt (nat_list_cmp_total.trans x y x (less_by (compared x y) first) (less_by (compared y x) second)) in
          let no : is_before x x ≡ false = before_itself x in cc)
      | false ↦ (λ second. refl)
    ]) refl

-- The next name

find_all : (p : List ℕ → Bool) (ys : List (List ℕ)) → list_all p ys ≡ true → find p ys ≡ slice_get ys 0
find_all p [] all = refl
find_all p (y ∷ ys) all = ap (λ b. cond b (Some y) (find p ys)) (both (p y) (list_all p ys) all).0

pub first_name : (ys : List (List ℕ)) → find (is_above None) ys ≡ slice_get ys 0
first_name [] = refl
first_name (y ∷ ys) = refl

passes_at : (p : List ℕ → Bool) (ys : List (List ℕ)) (k : ℕ) → k < length ys → list_all p ys ≡ true → (x : List ℕ) × (slice_get ys k ≡ Some x) × (p x ≡ true)
passes_at p [] k inside all = absurd (omega arith)
passes_at p (y ∷ ys) zero inside all = (y, refl, (both (p y) (list_all p ys) all).0)
passes_at p (y ∷ ys) (suc k) inside all = passes_at p ys k (omega arith) (both (p y) (list_all p ys) all).1

-- the least name above one in an ascending list is the one after it
pub name_after : (ys : List (List ℕ)) (k : ℕ) → IsAscending ys → k < length ys → find (is_above (slice_get ys k)) ys ≡ slice_get ys (suc k)
name_after [] k up inside = absurd (omega arith)
name_after (y ∷ ys) zero up inside = ap (λ b. cond b (Some y) (find (is_before y) ys)) (before_itself y) ∙ find_all (is_before y) ys up.0
name_after (y ∷ ys) (suc k) up inside =
    let at = passes_at (is_before y) ys k (omega arith) up.0 in
    let below : is_above (slice_get ys k) y ≡ false = ap (λ o. is_above o y) at.1 ∙ not_both y at.0 at.2 in
    ap (λ b. cond b (Some y) (find (is_above (slice_get ys k)) ys)) below ∙ name_after ys k up.1 (omega arith)
