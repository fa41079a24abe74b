-- Workers that end, one after another.
use Rattle.std.proofs.Common.{◌≡◌, ℕ, zero, suc, ◌+◌, ◌<◌, List, [], ◌∷◌, ◌++◌, length, get_or, set, Option, Some, None, sym, refl, ap, ◌∙◌, arith, length-set, length-append, get_or-set_other}
use Rattle.std.specs.Prelude.{slice_get}
use Rattle.std.proofs.lemmas.List.{get_or-set_same}
use Rattle.std.proofs.lemmas.Option.{same_Some}
use mathlib.Core.Logic.{dite}
use native.Mathlib.Decide.{ℕ_discrete}
use Rattle.ch_house.specs.Houses.{PassesListModel, PassesModel}
use Rattle.ch_worker.specs.Workers.{WorkerView}
use Rattle.ch_serve.proofs.Places.{left_next}
use Rattle.ch_serve.specs.GivenBack.{GivenBack}
use Rattle.ch_serve.specs.Served.{Seat}

module _ {X : Type 0} where
  pushed_at_end : (xs : List X) (x : X) (n : ℕ) → length xs ≡ n → slice_get (xs ++ x ∷ []) n ≡ Some x
  pushed_at_end [] x zero e = refl
  pushed_at_end [] x (suc n) e = absurd (omega arith)
  pushed_at_end (y ∷ ys) x zero e = absurd (omega arith)
  pushed_at_end (y ∷ ys) x (suc n) e = pushed_at_end ys x n (omega arith)

  pushed_keeps : (xs : List X) (x y : X) (i : ℕ) → slice_get xs i ≡ Some y → slice_get (xs ++ x ∷ []) i ≡ Some y
  pushed_keeps [] x y i at = absurd (cc)
  pushed_keeps (z ∷ zs) x y zero at = at
  pushed_keeps (z ∷ zs) x y (suc i) at = pushed_keeps zs x y i at

pub given_none : (threads : List Seat) (passes : PassesListModel) → GivenBack 0 threads passes passes []
given_none threads passes = record {
  house = refl;
  size = refl;
  count = refl;
  each = λ i t below at. absurd (omega arith);
  left = λ i above. refl;
}

pub given_more : (n : ℕ) (threads : List Seat) (old mid new : PassesListModel) (workers now : List WorkerView) (t : Seat) → n < length old.slots → GivenBack n threads old mid workers
    → slice_get threads n ≡ Some t → new ≡ record mid { slots = set mid.slots n (Some t.passes) } → now ≡ workers ++ t.worker ∷ [] → GivenBack (n + 1) threads old new now
given_more n threads old mid new workers now t within back at is more =
    let slots : new.slots ≡ set mid.slots n (Some t.passes) = ap (λ (l : PassesListModel). l.slots) is in
    record {
      house = ap (λ (l : PassesListModel). l.house) is ∙ back.house;
      size = ap length slots ∙ (length-set mid.slots n (Some t.passes) ∙ back.size);
      count = omega (arith, ap length more, length-append workers (t.worker ∷ []), back.count);
      each = λ i s below here. dite (ℕ_discrete i n)
          (λ e. let same : t ≡ s = same_Some t s (sym at ∙ (ap (slice_get threads) (sym e) ∙ here)) in (
            ap (λ (l : List (Option PassesModel)). get_or l i None) slots ∙ (ap (λ k. get_or (set mid.slots n (Some t.passes)) k None) e
                ∙ (get_or-set_same mid.slots n (Some t.passes) None (omega (arith, back.size)) ∙ ap (λ (z : Seat). Some z.passes) same)),
            ap (λ (l : List WorkerView). slice_get l i) more ∙ (ap (slice_get (workers ++ t.worker ∷ [])) e
                ∙ (pushed_at_end workers t.worker n back.count ∙ ap (λ (z : Seat). Some z.worker) same)),
          ))
          (λ ne. let before = back.each i s (omega arith) here in (
            ap (λ (l : List (Option PassesModel)). get_or l i None) slots ∙ (get_or-set_other mid.slots n i (Some t.passes) None ne ∙ before.0),
            ap (λ (l : List WorkerView). slice_get l i) more ∙ pushed_keeps workers t.worker s.worker i before.1,
          ));
      left = left_next old.slots mid.slots new.slots n (Some t.passes) slots back.left;
    }
