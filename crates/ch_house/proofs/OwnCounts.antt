-- The entries of one caller in a history, and how many all callers have.
use Rattle.std.proofs.Common.{◌≡◌, ◌≢◌, ⊎_elim, ℕ, zero, suc, ◌+◌, ◌<◌, ◌≤◌, ◌==◌, List, [], ◌∷◌, ◌++◌, length, true, false, Bool, refl, sym, ap, ◌∙◌, arith, append-nil}
use Rattle.std.specs.Prelude.{Result, Ok, Err, if◌then◌else◌}
use Rattle.std.proofs.lemmas.Bool.Decides.{eqb_tells}
use Rattle.std.proofs.lemmas.List.Elements.{filter-append, All-head, All-tail}
use Rattle.ch_base.specs.declared.entry.Entry.{Entry}
use Rattle.ch_base.specs.Growth.{own, NotBy, GrowsBy}
use Rattle.ch_turn.specs.Callers.{CallersBelow, GrowsByOthers}
use Rattle.ch_desk.specs.OwnEntries.{entries_by}
use Rattle.ch_house.specs.OwnEntries.{total_below}

eq_other : (a b : ℕ) → a ≢ b → (a == b) ≡ false
eq_other a b ne = ⊎_elim (λ (h : ((a == b) ≡ true) × (a ≡ b)). absurd (ne h.1)) (λ (h : ((a == b) ≡ false) × (a ≢ b)). h.0) (eqb_tells a b)

eq_same : (a : ℕ) → (a == a) ≡ true
eq_same a = ⊎_elim (λ (h : ((a == a) ≡ true) × (a ≡ a)). h.0) (λ (h : ((a == a) ≡ false) × (a ≢ a)). absurd (h.1 refl)) (eqb_tells a a)

module _ {C A : Type 0} where
  none_by : (w : ℕ) (es : List (Entry C A)) → NotBy w es → entries_by w es ≡ []
  none_by w [] h = refl
  none_by w (e ∷ es) h = rw (eq_other e.caller w h.0) (none_by w es h.1)

  own_by : {M : Type 0} (w : ℕ) (call : C) (r : Result A M) → entries_by w (own w call r) ≡ own w call r
  own_by w call (Ok a) = rw (eq_same w) refl
  own_by w call (Err m) = refl

  -- what comes of others adds nothing
  pub others_stay : (w : ℕ) (before after : List (Entry C A)) → GrowsByOthers w before after → entries_by w after ≡ entries_by w before
  others_stay w before after h =
      ap (entries_by w) (sym h.1) ∙ (filter-append (λ (e : Entry C A). e.caller == w) before h.0 ∙ (ap (λ es. entries_by w before ++ es) (none_by w h.0 h.2) ∙ append-nil (entries_by w before)))

  -- a call adds its own entry
  pub call_adds : {M : Type 0} (w : ℕ) (call : C) (r : Result A M) (before after : List (Entry C A)) → GrowsBy w call r before after → entries_by w after ≡ entries_by w before ++ own w call r
  call_adds w call r before after h =
      ap (entries_by w) h.2 ∙ (filter-append (λ (e : Entry C A). e.caller == w) (before ++ h.0) (own w call r)
      ∙ (λ i. others_stay w before (before ++ h.0) (h.0, refl, h.1) i ++ own_by w call r i))

-- sums

total_same : (n : ℕ) (f g : ℕ → ℕ) → ((w : ℕ) → w < n → f w ≡ g w) → total_below n f ≡ total_below n g
total_same zero f g same = refl
total_same (suc n) f g same = let rest = total_same n f g (λ w below. same w (omega arith)) in let last = same n (omega arith) in omega arith

total_zero : (n : ℕ) → total_below n (λ w. 0) ≡ 0
total_zero zero = refl
total_zero (suc n) = let rest = total_zero n in omega arith

total_add : (n : ℕ) (f g : ℕ → ℕ) → total_below n (λ w. f w + g w) ≡ total_below n f + total_below n g
total_add zero f g = refl
total_add (suc n) f g = let rest = total_add n f g in omega arith

-- whether w is the caller, as a number
abbrev mark : ℕ → ℕ → ℕ
mark c w = if c == w then 1 else 0

marks_few : (n c : ℕ) → (total_below n (mark c) ≤ 1) × (n ≤ c → total_below n (mark c) ≡ 0)
marks_few zero c = (omega arith, λ h. refl)
marks_few (suc n) c =
    let rest = marks_few n c in
    ⊎_elim (λ (h : ((c == n) ≡ true) × (c ≡ n)).
    let same = h.1 in
    let none = rest.1 (omega arith) in
    let one : mark c n ≡ 1 = rw h.0 refl in (omega arith, λ above. absurd (omega arith)))
    (λ (h : ((c == n) ≡ false) × (c ≢ n)).
    let zero_more : mark c n ≡ 0 = rw h.0 refl in
    let few = rest.0 in (omega arith, λ above. let none = rest.1 (omega arith) in omega arith))
    (eqb_tells c n)

module _ {C A : Type 0} where
  marked : (b : Bool) (e : Entry C A) (es : List (Entry C A)) → length (if b then (e ∷ es) else es) ≡ length es + (if b then 1 else 0)
  marked true e es = omega arith
  marked false e es = omega arith

below_other : (n c : ℕ) → c < suc n → c ≢ n → c < n
below_other n c below other = omega arith

-- of the numbers below n one is a caller below n
marks_one : (n c : ℕ) → c < n → total_below n (mark c) ≡ 1
marks_one zero c below = absurd (omega arith)
marks_one (suc n) c below =
    ⊎_elim (λ (h : ((c == n) ≡ true) × (c ≡ n)).
    let same = h.1 in
    let none = (marks_few n c).1 (omega arith) in
    let one : mark c n ≡ 1 = rw h.0 refl in let sum : total_below n (mark c) + mark c n ≡ 1 = omega arith in sum)
    (λ (h : ((c == n) ≡ false) × (c ≢ n)).
    let zero_more : mark c n ≡ 0 = rw h.0 refl in
    let under : c < n = below_other n c below h.1 in
    let rest = marks_one n c under in let sum : total_below n (mark c) + mark c n ≡ 1 = omega arith in sum)
    (eqb_tells c n)

module _ {C A : Type 0} where
  -- where all entries are of callers below n, they are all entries
  counts_all : (n : ℕ) (log : List (Entry C A)) → CallersBelow n log → total_below n (λ w. length (entries_by w log)) ≡ length log
  counts_all n [] known = total_zero n
  counts_all n (e ∷ log) known =
      let rest = counts_all n log (All-tail (λ (d : Entry C A). d.caller < n) e log known) in
      let parts = total_same n (λ w. length (entries_by w (e ∷ log))) (λ w. length (entries_by w log) + mark e.caller w) (λ w below. marked (e.caller == w) e (entries_by w log)) in
      let sum = total_add n (λ w. length (entries_by w log)) (mark e.caller) in
      let one = marks_one n e.caller (All-head (λ (d : Entry C A). d.caller < n) e log known) in omega arith

  pub just_all : (n : ℕ) (mine : ℕ → List (Entry C A)) (log : List (Entry C A)) → CallersBelow n log → ((w : ℕ) → w < n → GrowsByOthers w (mine w) log) → total_below n (λ w. length (entries_by w (mine w))) ≡ length log
  just_all n mine log known each =
      total_same n (λ w. length (entries_by w (mine w))) (λ w. length (entries_by w log)) (λ w below. ap length (sym (others_stay w (mine w) log (each w below)))) ∙ counts_all n log known
