-- Lists of entries, and beginnings of one list.
use Rattle.std.proofs.Common.{◌≡◌, ◌≢◌, ◌⊎◌, inl, inr, ⊎_elim, ℕ, zero, suc, ◌<◌, List, [], ◌∷◌, ◌++◌, length, get_or, Result, Ok, Err, sym, refl, ap, ◌∙◌, subst, arith}
use Rattle.std.proofs.lemmas.List.{append-nil}
use Rattle.std.proofs.lemmas.List.Elements.{All-nil, All-cons, All-head, All-tail, All-push}
use Rattle.ch_base.specs.declared.entry.Entry.{Entry}
use Rattle.ch_base.specs.Growth.{own, entry, NotBy}
use Rattle.ch_turn.specs.Callers.{CallersBelow}

module _ {C A : Type 0} where
  pub not_by-append : (i : ℕ) (xs ys : List (Entry C A)) → NotBy i xs → NotBy i ys → NotBy i (xs ++ ys)
  not_by-append i [] ys h k = k
  not_by-append i (x ∷ xs) ys h k = (h.0, not_by-append i xs ys h.1 k)

  pub not_by-left : (i : ℕ) (xs ys : List (Entry C A)) → NotBy i (xs ++ ys) → NotBy i xs
  not_by-left i [] ys h = tt
  not_by-left i (x ∷ xs) ys h = (h.0, not_by-left i xs ys h.1)

  pub not_by-right : (i : ℕ) (xs ys : List (Entry C A)) → NotBy i (xs ++ ys) → NotBy i ys
  not_by-right i [] ys h = h
  not_by-right i (x ∷ xs) ys h = not_by-right i xs ys h.1

  pub not_by-at : (i : ℕ) (xs : List (Entry C A)) (k : ℕ) (d : Entry C A) → NotBy i xs → k < length xs → (get_or xs k d).caller ≢ i
  not_by-at i [] k d h l = absurd (omega arith)
  not_by-at i (x ∷ xs) zero d h l = h.0
  not_by-at i (x ∷ xs) (suc k) d h l = not_by-at i xs k d h.1 (omega arith)

  pub below-left : (callers : ℕ) (xs ys : List (Entry C A)) → CallersBelow callers (xs ++ ys) → CallersBelow callers xs
  below-left callers [] ys h = All-nil (λ e. e.caller < callers)
  below-left callers (x ∷ xs) ys h = let p : Entry C A → Type 0 = (λ e. e.caller < callers) in All-cons p x xs (All-head p x (xs ++ ys) h) (below-left callers xs ys (All-tail p x (xs ++ ys) h))

  -- a list of entries of the callers, and then the entry of a call of one of them
  pub below-own : {M : Type 0} (callers caller : ℕ) (call : C) (r : Result A M) (xs : List (Entry C A)) → caller < callers → CallersBelow callers xs → CallersBelow callers (xs ++ own caller call r)
  below-own callers caller call (Ok answer) xs l h = All-push (λ e. e.caller < callers) xs (entry caller call answer) h l
  below-own callers caller call (Err m) xs l h = subst (CallersBelow callers) (sym (append-nil xs)) h

module _ {E : Type 0} where
  abbrev tail_of : List E → List E
  tail_of [] = []
  tail_of (x ∷ xs) = xs

  abbrev head_or : E → List E → E
  head_or d [] = d
  head_or d (x ∷ xs) = x

  -- of two beginnings of one list, the shorter begins the longer
  pub two_fronts : (xs ys p q log : List E) → xs ++ p ≡ log → ys ++ q ≡ log
      → ((more : List E) × (xs ++ more ≡ ys) × (p ≡ more ++ q)) ⊎ ((more : List E) × (ys ++ more ≡ xs) × (q ≡ more ++ p))
  two_fronts [] ys p q log a b = inl (ys, refl, a ∙ sym b)
  two_fronts (x ∷ xs) [] p q log a b = inr (x ∷ xs, refl, b ∙ sym a)
  two_fronts (x ∷ xs) (y ∷ ys) p q log a b =
      let e : x ∷ xs ++ p ≡ y ∷ ys ++ q = a ∙ sym b in
      let same : x ≡ y = ap (head_or x) e in
      ⊎_elim (λ (h : (more : List E) × (xs ++ more ≡ ys) × (p ≡ more ++ q)). inl (h.0, (λ i. same i ∷ h.1 i), h.2))
      (λ (h : (more : List E) × (ys ++ more ≡ xs) × (q ≡ more ++ p)). inr (h.0, (λ i. sym same i ∷ h.1 i), h.2))
      (two_fronts xs ys p q (xs ++ p) refl (sym (ap tail_of e)))
