-- Legal orders, step by step.
use Rattle.std.proofs.Common.{◌≡◌, ℕ, zero, suc, ◌<◌, ◌≤◌, List, [], ◌∷◌, ◌++◌, length, take, drop, Some, sym, refl, ap, ◌∙◌, subst, arith, append_assoc, append-nil}
use Rattle.std.specs.Prelude.{slice_get}
use Rattle.std.proofs.Math.Seq.{drop-append_seam, take-append_seam, take-length}
use Rattle.std.proofs.lemmas.List.{take-append-le, length-append}
use Rattle.std.proofs.lemmas.Option.{slice_get_within}
use Rattle.ch_intake.specs.declared.limits.TheConstants.{PLACES}
use Rattle.ch_intake.specs.declared.step.Step.{Step}
use Rattle.ch_intake.specs.declared.step.Step.TheVariants.{Push, Pop}
use Rattle.ch_intake.specs.Orders.{items_pushed, items_popped, items_waiting, MayFollow, IsLegal}
use Rattle.ch_intake.specs.OrderLaws.{ComeOutInOrder}
use Rattle.ch_intake.proofs.Places.{each_push, take_one_more, element_within}

module _ {C : Type 0} where
  pushed_append : (h g : List (Step C)) → items_pushed (h ++ g) ≡ items_pushed h ++ items_pushed g
  pushed_append [] g = refl
  pushed_append (Push caller item ∷ h) g = ap (λ l. item ∷ l) (pushed_append h g)
  pushed_append (Pop caller item ∷ h) g = pushed_append h g

  popped_append : (h g : List (Step C)) → items_popped (h ++ g) ≡ items_popped h ++ items_popped g
  popped_append [] g = refl
  popped_append (Push caller item ∷ h) g = popped_append h g
  popped_append (Pop caller item ∷ h) g = ap (λ l. item ∷ l) (popped_append h g)

  -- these items are in the queue after the steps
  abbrev pub Leaves : List (Step C) → List C → Type 0
  Leaves h items = items_pushed h ≡ items_popped h ++ items

  -- then they are those that wait
  pub waiting_are : (h : List (Step C)) (items : List C) → Leaves h items → items_waiting h ≡ items
  waiting_are h items leaves = ap (λ l. drop (length (items_popped h)) l) leaves ∙ drop-append_seam (items_popped h) items

  -- an item joins at the back
  pub leaves_push : (h : List (Step C)) (items : List C) (caller : ℕ) (x : C) → Leaves h items → Leaves (h ++ Push caller x ∷ []) (items ++ x ∷ [])
  leaves_push h items caller x leaves =
      let p : items_pushed (h ++ Push caller x ∷ []) ≡ items_pushed h ++ x ∷ [] = pushed_append h (Push caller x ∷ []) in
      let t : items_popped (h ++ Push caller x ∷ []) ≡ items_popped h = popped_append h (Push caller x ∷ []) ∙ append-nil (items_popped h) in
      p ∙ (ap (λ l. l ++ x ∷ []) leaves ∙ (append_assoc (items_popped h) items (x ∷ []) ∙ sym (ap (λ l. l ++ (items ++ x ∷ [])) t)))

  -- the item at the front leaves
  pub leaves_pop : (h : List (Step C)) (items : List C) (caller : ℕ) (x : C) → Leaves h (x ∷ items) → Leaves (h ++ Pop caller x ∷ []) items
  leaves_pop h items caller x leaves =
      let p : items_pushed (h ++ Pop caller x ∷ []) ≡ items_pushed h = pushed_append h (Pop caller x ∷ []) ∙ append-nil (items_pushed h) in
      let t : items_popped (h ++ Pop caller x ∷ []) ≡ items_popped h ++ x ∷ [] = popped_append h (Pop caller x ∷ []) in
      p ∙ (leaves ∙ (sym (append_assoc (items_popped h) (x ∷ []) items) ∙ sym (ap (λ l. l ++ items) t)))

  -- a legal order, and a step that may come after it
  pub legal_push : (h : List (Step C)) (s : Step C) → IsLegal h → MayFollow h s → IsLegal (h ++ s ∷ [])
  legal_push h s legal may = each_push (λ k y. MayFollow (take k (h ++ s ∷ [])) y) h s
      (λ k y at. let within = slice_get_within h k y at in
      subst (λ l. MayFollow l y) (sym (take-append-le k h (s ∷ []) (omega arith))) (legal k y at))
      (subst (λ l. MayFollow l s) (sym (take-append_seam h (s ∷ []))) may)

  -- what waits, at most `PLACES` items
  abbrev Holds : List (Step C) → Type 0
  Holds h = (items : List C) × Leaves h items × (length items ≤ PLACES)

  holds_pop : (h : List (Step C)) (items : List C) (caller : ℕ) (x : C) → Leaves h items → length items ≤ PLACES → slice_get items 0 ≡ Some x → Holds (h ++ Pop caller x ∷ [])
  holds_pop h [] caller x leaves few first = absurd (cc)
  holds_pop h (y ∷ items) caller x leaves few first =
      let same : y ≡ x = cc in (items, leaves_pop h items caller x (leaves ∙ ap (λ z. items_popped h ++ z ∷ items) same), omega arith)

  holds_step : (h : List (Step C)) (s : Step C) → Holds h → MayFollow h s → Holds (h ++ s ∷ [])
  holds_step h (Push caller x) (items, leaves, few) may =
      let room : length items < PLACES = subst (λ l. length l < PLACES) (waiting_are h items leaves) may in
      (items ++ x ∷ [], leaves_push h items caller x leaves, omega (arith, length-append items (x ∷ [])))
  holds_step h (Pop caller x) (items, leaves, few) may =
      holds_pop h items caller x leaves few (subst (λ l. slice_get l 0 ≡ Some x) (waiting_are h items leaves) may)

  holds_taken : (h : List (Step C)) → IsLegal h → (k : ℕ) → k ≤ length h → Holds (take k h)
  holds_taken h legal zero within = ([], refl, omega arith)
  holds_taken h legal (suc k) within =
      let here = element_within h k (omega arith) in
      subst Holds (sym (take_one_more h k here.0 here.1)) (holds_step (take k h) here.0 (holds_taken h legal k (omega arith)) (legal k here.0 here.1))

  -- in a legal order what was pushed is what was popped, and then the at most `PLACES` items that wait
  pub legal_in_order : (h : List (Step C)) → IsLegal h → ComeOutInOrder h
  legal_in_order h legal =
      let all : Holds h = subst Holds (take-length h) (holds_taken h legal (length h) (omega arith)) in
      let wait = waiting_are h all.0 all.1 in
      (all.1 ∙ ap (λ l. items_popped h ++ l) (sym wait), subst (λ l. length l ≤ PLACES) (sym wait) all.2)
