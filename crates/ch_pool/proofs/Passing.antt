-- The passes of a house, one more taken or given back.
use Rattle.std.proofs.Common.{◌≡◌, ℕ, zero, suc, ◌+◌, ◌<◌, ◌≤◌, List, [], ◌∷◌, ◌++◌, length, get_or, set, Option, Some, None, IsSome, sym, refl, ap, ◌∙◌, subst, arith, length-set, length-append, get_or-set_other}
use Rattle.std.specs.Prelude.{slice_get}
use Rattle.std.proofs.lemmas.List.{get_or-set_same}
use mathlib.Core.Logic.{dite}
use native.Mathlib.Decide.{ℕ_discrete, dec_lt}
use Rattle.ch_house.specs.Houses.{HouseModel, PassesModel, PassesListModel, ArePassesOf, IsWhole}
use Rattle.ch_house.proofs.Places.{each_push}
use Rattle.ch_pool.specs.AllPasses.{AreAllOf, IsEmptied}

abbrev pub Slots : Type 0
Slots = List (Option PassesModel)

past : (slots : Slots) (i : ℕ) → length slots ≤ i → get_or slots i None ≡ None
past [] i h = refl
past (x ∷ xs) zero h = absurd (omega arith)
past (x ∷ xs) (suc i) h = past xs i (omega arith)

-- what was pushed stands at the end
push_at_end : (xs : List PassesModel) (x : PassesModel) → slice_get (xs ++ x ∷ []) (length xs) ≡ Some x
push_at_end [] x = refl
push_at_end (y ∷ ys) x = push_at_end ys x

-- what stood in a list stands there once more is pushed
push_keeps : (xs : List PassesModel) (x y : PassesModel) (i : ℕ) → slice_get xs i ≡ Some y → slice_get (xs ++ x ∷ []) i ≡ Some y
push_keeps [] x y i at = absurd (cc)
push_keeps (z ∷ zs) x y zero at = at
push_keeps (z ∷ zs) x y (suc i) at = push_keeps zs x y i at

-- the passes of the callers below n are taken from a whole list
pub record Taking (house : HouseModel) (was : Slots) (n : ℕ) (now : PassesListModel) (taken : List PassesModel) : Type 0 where
  pub same_house : now.house ≡ house
  pub size : length now.slots ≡ length was
  pub count : length taken ≡ n
  pub each : (i : ℕ) (p : PassesModel) → slice_get taken i ≡ Some p → ArePassesOf house i p
  pub emptied : (i : ℕ) → i < n → get_or now.slots i None ≡ None
  pub left : (i : ℕ) → n ≤ i → get_or now.slots i None ≡ get_or was i None

pub take_none : (passes : PassesListModel) → Taking passes.house passes.slots 0 passes []
take_none passes = record {
  same_house = refl;
  size = refl;
  count = refl;
  each = λ i p at. absurd (cc);
  emptied = λ i h. absurd (omega arith);
  left = λ i h. refl;
}

pub take_one : (house : HouseModel) (was : Slots) (n : ℕ) (now next : PassesListModel) (taken more : List PassesModel) (p : PassesModel) → Taking house was n now taken → n < length was
    → next ≡ record now { slots = set now.slots n None } → more ≡ taken ++ p ∷ [] → ArePassesOf now.house n p → Taking house was (n + 1) next more
take_one house was n now next taken more p t within is more_is own =
    let slots = ap (λ (l : PassesListModel). l.slots) is in
    let here : n < length now.slots = omega (arith, t.size) in
    let own_house : ArePassesOf house n p = subst (λ (h : HouseModel). ArePassesOf h n p) t.same_house own in
    record {
      same_house = ap (λ (l : PassesListModel). l.house) is ∙ t.same_house;
      size = ap length slots ∙ (length-set now.slots n None ∙ t.size);
      count = omega (arith, ap length more_is, length-append taken (p ∷ []), t.count);
      each = λ i q at. each_push (ArePassesOf house) taken p t.each (subst (λ (k : ℕ). ArePassesOf house k p) (sym t.count) own_house) i q (ap (λ l. slice_get l i) (sym more_is) ∙ at);
      emptied = λ i h. ap (λ (l : Slots). get_or l i None) slots ∙ dite (ℕ_discrete i n)
          (λ e. ap (λ k. get_or (set now.slots n None) k None) e ∙ get_or-set_same now.slots n None None here)
          (λ ne. get_or-set_other now.slots n i None None ne ∙ t.emptied i (omega arith));
      left = λ i h. ap (λ (l : Slots). get_or l i None) slots ∙ (get_or-set_other now.slots n i None None (λ e. omega arith) ∙ t.left i (omega arith));
    }

-- once all are taken, none is there
pub all_taken : (house : HouseModel) (was : Slots) (now : PassesListModel) (taken : List PassesModel) → Taking house was (length was) now taken → length was ≡ house.chans.callers
    → IsEmptied now × AreAllOf house taken
all_taken house was now taken t callers = (
  (
    t.size ∙ (callers ∙ ap (λ (h : HouseModel). h.chans.callers) (sym t.same_house)),
    λ i. dite (dec_lt i (length was)) (λ h. t.emptied i h) (λ h. past now.slots i (omega (arith, t.size))),
  ),
  (t.count ∙ callers, t.each),
)

-- the passes from n on are given back
pub record Giving (house : HouseModel) (now : PassesListModel) (left : List PassesModel) : Type 0 where
  pub same_house : now.house ≡ house
  pub size : length now.slots ≡ house.chans.callers
  pub few : length left ≤ house.chans.callers
  pub each : (i : ℕ) (p : PassesModel) → slice_get left i ≡ Some p → ArePassesOf house i p
  pub none : (i : ℕ) → i < length left → get_or now.slots i None ≡ None
  pub there : (i : ℕ) → length left ≤ i → i < house.chans.callers → IsSome (get_or now.slots i None)

pub give_none : (passes : PassesListModel) (taken : List PassesModel) → AreAllOf passes.house taken → IsEmptied passes → Giving passes.house passes taken
give_none passes taken own emptied = record {
  same_house = refl;
  size = emptied.0;
  few = omega (arith, own.0);
  each = own.1;
  none = λ i h. emptied.1 i;
  there = λ i h k. absurd (omega (arith, own.0));
}

-- the next one to be given is that of its number
pub next_given : (house : HouseModel) (now : PassesListModel) (left rest : List PassesModel) (p : PassesModel) → Giving house now left → left ≡ rest ++ p ∷ []
    → ArePassesOf house (length rest) p × (get_or now.slots p.caller None ≡ None)
next_given house now left rest p g is =
    let own = g.each (length rest) p (ap (λ l. slice_get l (length rest)) is ∙ push_at_end rest p) in
    let within : length rest < length left = omega (arith, ap length is, length-append rest (p ∷ [])) in
    (own, ap (λ k. get_or now.slots k None) own.1 ∙ g.none (length rest) within)

pub give_one : (house : HouseModel) (now next : PassesListModel) (left rest : List PassesModel) (p : PassesModel) → Giving house now left → left ≡ rest ++ p ∷ []
    → next ≡ record now { slots = set now.slots p.caller (Some p) } → Giving house next rest
give_one house now next left rest p g is next_is =
    let own = (next_given house now left rest p g is).0 in
    let slots = ap (λ (l : PassesListModel). l.slots) next_is in
    let long : length left ≡ length rest + 1 = omega (arith, ap length is, length-append rest (p ∷ [])) in
    let within : p.caller < length now.slots = omega (arith, own.1, g.size, g.few) in
    record {
      same_house = ap (λ (l : PassesListModel). l.house) next_is ∙ g.same_house;
      size = ap length slots ∙ (length-set now.slots p.caller (Some p) ∙ g.size);
      few = omega (arith, g.few);
      each = λ i q at. g.each i q (ap (λ l. slice_get l i) is ∙ push_keeps rest p q i at);
      none = λ i h. ap (λ (l : Slots). get_or l i None) slots ∙ (get_or-set_other now.slots p.caller i (Some p) None (λ e. omega (arith, own.1)) ∙ g.none i (omega arith));
      there = λ i h k. subst (λ (l : Slots). IsSome (get_or l i None)) (sym slots) (dite (ℕ_discrete i p.caller)
          (λ e. subst (λ (o : Option PassesModel). IsSome o) (sym (ap (λ j. get_or (set now.slots p.caller (Some p)) j None) e ∙ get_or-set_same now.slots p.caller (Some p) None within)) refl)
          (λ ne. subst (λ (o : Option PassesModel). IsSome o) (sym (get_or-set_other now.slots p.caller i (Some p) None ne)) (g.there i (omega (arith, own.1)) k)));
    }

-- once all are given, each is there
pub all_given : (house : HouseModel) (now : PassesListModel) (left : List PassesModel) → Giving house now left → left ≡ [] → IsWhole now
all_given house now left g is = λ i h. g.there i (omega (arith, ap length is)) (omega (arith, ap (λ (x : HouseModel). x.chans.callers) g.same_house))
