-- The clients in the order of their numbers.
use Rattle.std.proofs.Common.{◌≡◌, ◌≢◌, ◌≤◌, ◌<◌, ◌+◌, ℕ, zero, suc, true, false, cond, leb, ltb, eqb, List, [], ◌∷◌, length, slice_index_or, ap, sym, subst, refl, ◌∙◌, arith, inl, inr}
use Rattle.std.specs.Prelude.{◌⊎◌, Some, slice_get, slice_set}
use Rattle.std.specs.List.{insert, remove}
use Rattle.std.specs.List.Sorted.{IsPartitionPoint}
use Rattle.std.proofs.lemmas.List.{length-set, get_or-set_same, get_or-set_other}
use Rattle.std.proofs.lemmas.List.Edits.{get_or-remove_below, get_or-remove_above, length-remove}
use Rattle.std.proofs.lemmas.List.Sorted.{IsNonDecreasingBy-insert}
use Rattle.std.proofs.lemmas.Bool.{cases_eq, lt-leb, le-leb, leb-true, leb-false, ltb-true, ltb-false, eq-eqb, ne_eqb, cond-true, cond-false}
use Rattle.std.proofs.lemmas.Bool.Decides.{leb_tells}
use Rattle.std.proofs.lemmas.Option.{get_or_from_slice_get}
use Rattle.ch_base.specs.declared.frame.FrameFor.{FrameFor}
use Rattle.ch_clients.specs.Clients.{Client, placed, handed_to, with_frame, AreAscending}

-- ---- where a client stands

-- a client that takes its place stands behind the first so many, whose numbers aren't above its own
placed_at : (client : Client) (clients : List Client) (at : ℕ) → at ≤ length clients
    → ((k : ℕ) (d : Client) → k < at → (slice_index_or clients k d).number ≤ client.number)
    → ((k : ℕ) (d : Client) → at ≤ k → k < length clients → client.number < (slice_index_or clients k d).number)
    → placed client clients ≡ insert clients at client
placed_at client [] zero small low high = refl
placed_at client [] (suc at) small low high = elim small [ ]
placed_at client (c ∷ cs) zero small low high =
    cond-false (leb c.number client.number) (c ∷ placed client cs) (client ∷ c ∷ cs) (lt-leb c.number client.number (high 0 c (omega arith) (omega arith)))
placed_at client (c ∷ cs) (suc at) small low high =
    cond-true (leb c.number client.number) (c ∷ placed client cs) (client ∷ c ∷ cs) (le-leb c.number client.number (low 0 c (omega arith)))
    ∙ ap (λ xs. c ∷ xs) (placed_at client cs at (omega (arith, small)) (λ k d lt. low (suc k) d (omega (arith, lt))) (λ k d le lt. high (suc k) d (omega (arith, le)) (omega (arith, lt))))

-- where a binary search for it ends
pub placed_so : (client : Client) (clients : List Client) (at : ℕ) → AreAscending clients → at ≤ length clients
    → IsPartitionPoint (λ c. leb c.number client.number ≡ true) (λ c. leb c.number client.number ≡ false) clients at
    → AreAscending (insert clients at client) × (placed client clients ≡ insert clients at client)
placed_so client clients at ascending small point =
    let low = λ (k : ℕ) (d : Client) (lt : k < at). leb-true _ client.number (point.0 k d (omega arith) lt) in
    let high = λ (k : ℕ) (d : Client) (le : at ≤ k) (lt : k < length clients). leb-false _ client.number (point.1 k d le lt) in (
      IsNonDecreasingBy-insert (λ c. c.number) clients at client ascending small low (λ k d le lt. omega (arith, high k d le lt)),
      placed_at client clients at small low high,
    )

-- ---- to whom a frame is handed

-- none behind the first so many has a number that is above theirs
none_behind : (rest : List Client) (f : FrameFor) → ((k : ℕ) (d : Client) → k < length rest → f.socket < (slice_index_or rest k d).number) → handed_to rest f ≡ rest
none_behind [] f above = refl
none_behind (c ∷ cs) f above =
    cond-false (eqb c.number f.socket) _ _ (ne_eqb c.number f.socket (λ e. absurd (omega (arith, above 0 c (omega arith), e))))
    ∙ ap (λ xs. c ∷ xs) (none_behind cs f (λ k d lt. above (suc k) d (omega (arith, lt))))

-- the one that isn't below its number takes the frame, if it is for it
pub handed_at : (clients : List Client) (f : FrameFor) (at : ℕ) (here : Client) → AreAscending clients → slice_get clients at ≡ Some here
    → ((k : ℕ) (d : Client) → k < at → (slice_index_or clients k d).number < f.socket) → f.socket ≤ here.number
    → handed_to clients f ≡ slice_set clients at (cond (eqb here.number f.socket) (with_frame here f) here)
handed_at [] f zero here ascending there below above = absurd (let h = there in cc)
handed_at [] f (suc at) here ascending there below above = absurd (let h = there in cc)
handed_at (c ∷ cs) f zero here ascending there below above =
    let same : c ≡ here = cc in
    subst (λ h. f.socket ≤ h.number → handed_to (c ∷ cs) f ≡ cond (eqb h.number f.socket) (with_frame h f) h ∷ cs) same
    (λ le. elim (cases_eq c.number f.socket) [
      | inl e ↦ cond-true (eqb c.number f.socket) _ _ (eq-eqb c.number f.socket e)
          ∙ ap (λ x. x ∷ cs) (sym (cond-true (eqb c.number f.socket) (with_frame c f) c (eq-eqb c.number f.socket e)))
      | inr other ↦ cond-false (eqb c.number f.socket) _ _ (ne_eqb c.number f.socket other)
          ∙ ap (λ xs. c ∷ xs) (none_behind cs f (λ k d lt. omega (arith, le, other, ascending 0 (suc k) d (omega arith) (omega (arith, lt)))))
          ∙ ap (λ x. x ∷ cs) (sym (cond-false (eqb c.number f.socket) (with_frame c f) c (ne_eqb c.number f.socket other)))
    ]) above
handed_at (c ∷ cs) f (suc at) here ascending there below above =
    cond-false (eqb c.number f.socket) _ _ (ne_eqb c.number f.socket (λ e. absurd (omega (arith, below 0 c (omega arith), e))))
    ∙ ap (λ xs. c ∷ xs) (handed_at cs f at here (λ i j d le lt. ascending (suc i) (suc j) d (omega (arith, le)) (omega (arith, lt))) there (λ k d lt. below (suc k) d (omega (arith, lt))) above)

-- where none has the number, it is dropped
pub handed_nowhere : (clients : List Client) (f : FrameFor) → ((k : ℕ) (d : Client) → k < length clients → (slice_index_or clients k d).number ≢ f.socket)
    → handed_to clients f ≡ clients
handed_nowhere [] f none = refl
handed_nowhere (c ∷ cs) f none =
    cond-false (eqb c.number f.socket) _ _ (ne_eqb c.number f.socket (none 0 c (omega arith)))
    ∙ ap (λ xs. c ∷ xs) (handed_nowhere cs f (λ k d lt. none (suc k) d (omega (arith, lt))))

-- where a binary search for its number ends
pub handed_so : (clients : List Client) (f : FrameFor) (at : ℕ) (here : Client) → AreAscending clients → slice_get clients at ≡ Some here → at < length clients
    → IsPartitionPoint (λ c. ltb c.number f.socket ≡ true) (λ c. ltb c.number f.socket ≡ false) clients at
    → handed_to clients f ≡ slice_set clients at (cond (eqb here.number f.socket) (with_frame here f) here)
handed_so clients f at here ascending there lt point =
    handed_at clients f at here ascending there (λ k d less. ltb-true _ f.socket (point.0 k d (omega arith) less))
    (subst (λ c. f.socket ≤ c.number) (get_or_from_slice_get clients at here here there) (ltb-false _ f.socket (point.1 at here (omega arith) lt)))

pub handed_past : (clients : List Client) (f : FrameFor) (at : ℕ) → length clients ≤ at
    → IsPartitionPoint (λ c. ltb c.number f.socket ≡ true) (λ c. ltb c.number f.socket ≡ false) clients at
    → handed_to clients f ≡ clients
handed_past clients f at over point =
    handed_nowhere clients f (λ k d lt e. absurd (omega (arith, e, ltb-true _ f.socket (point.0 k d (omega arith) (omega (arith, lt, over))))))

pub same_number : (c : Client) (f : FrameFor) → (cond (eqb c.number f.socket) (with_frame c f) c).number ≡ c.number
same_number c f = elim (eqb c.number f.socket) as (λ b. (cond b (with_frame c f) c).number ≡ c.number) [ true ↦ refl | false ↦ refl ]

-- ---- a change at a place

-- the client at a place keeps its number, so the numbers stay
number_stays : (clients : List Client) (at : ℕ) (after : Client) (k : ℕ) (d : Client) → after.number ≡ (slice_index_or clients at d).number → k < length clients
    → (slice_index_or (slice_set clients at after) k d).number ≡ (slice_index_or clients k d).number
number_stays clients at after k d same lt =
    elim (cases_eq k at) [
      | inl e ↦ ap (λ j. (slice_index_or (slice_set clients at after) j d).number) e
          ∙ ap (λ c. c.number) (get_or-set_same clients at after d (subst (λ j. j < length clients) e lt))
          ∙ same ∙ ap (λ j. (slice_index_or clients j d).number) (sym e)
      | inr other ↦ ap (λ c. c.number) (get_or-set_other clients at k after d other)
    ]

pub set_ascends : (clients : List Client) (at : ℕ) (before after : Client) → slice_get clients at ≡ Some before → after.number ≡ before.number
    → AreAscending clients → AreAscending (slice_set clients at after)
set_ascends clients at before after there same ascending i j d le lt =
    let long = length-set clients at after in
    let kept = same ∙ ap (λ c. c.number) (sym (get_or_from_slice_get clients at before d there)) in
    let inside : j < length clients = omega (arith, lt, long) in
    let a = number_stays clients at after i d kept (omega (arith, le, inside)) in
    let b = number_stays clients at after j d kept inside in
    omega (arith, a, b, ascending i j d le inside)

order : (k i : ℕ) → (k < i) ⊎ (i ≤ k)
order k i = elim (leb_tells i k) [ inl a ↦ inr a.1 | inr b ↦ inl b.1 ]

pub remove_ascends : (clients : List Client) (at : ℕ) → at < length clients → AreAscending clients → AreAscending (remove clients at)
remove_ascends clients at lt ascending i j d le inside =
    let long = length-remove clients at lt in
    elim (order i at) [
      | inl a ↦ elim (order j at) [
        | inl b ↦ omega (arith, ap (λ c. c.number) (get_or-remove_below clients at d i a lt), ap (λ c. c.number) (get_or-remove_below clients at d j b lt), ascending i j d le (omega (arith, b, lt)))
        | inr b ↦ omega (arith, ap (λ c. c.number) (get_or-remove_below clients at d i a lt), ap (λ c. c.number) (get_or-remove_above clients at d j b lt), ascending i (j + 1) d (omega (arith, le)) (omega (arith, inside, long)))
      ]
      | inr a ↦ omega (arith, ap (λ c. c.number) (get_or-remove_above clients at d i a lt), ap (λ c. c.number) (get_or-remove_above clients at d j (omega (arith, a, le)) lt), ascending (i + 1) (j + 1) d (omega (arith, le)) (omega (arith, inside, long)))
    ]
