-- A byte of a number, and what may follow it.
use Rattle.std.proofs.Common.{◌≡◌, ◌⊎◌, inl, inr, ℕ, List, [], ◌∷◌, ◌++◌, Bool, true, false, cond, ◌||◌, ◌==◌, refl, sym, subst, arith}
use Rattle.std.proofs.lemmas.Bool.{eqb-true}
use Rattle.ch_base.specs.Grammar.{Rule, ◌then◌, Maybe, Many}
use Rattle.ch_base.specs.JsonText.{is_digit, is_digit_1_to_9, is_e, is_sign, Digits, Exponent}
use Rattle.ch_json.specs.Scalars.{InNumber, minus, zero, whole, point, fraction, e, sign, exponent, NumberStep, more, stop, more_if, number_step, may_end, AfterWhole, AfterE, RestOfNumber, AfterNumberStep}
use Rattle.ch_json.proofs.Choice.{either_way, when_so, when_not}
use Rattle.ch_json.proofs.Strings.{One-cons, Byte-cons}

abbrev At : List ℕ → List ℕ → NumberStep → Type 0
At t r s = AfterNumberStep s t r

-- the number ended before the byte, or goes on as the step says
abbrev pub EndsOr : InNumber → ℕ → NumberStep → List ℕ → List ℕ → Type 0
EndsOr q b s t r = ((may_end q ≡ true) × (r ≡ b ∷ t)) ⊎ AfterNumberStep s t r

either_eq : (a b : Bool) → (a || b) ≡ true → (a ≡ true) ⊎ (b ≡ true)
either_eq true b h = inl refl
either_eq false b h = inr h

e_is : (b : ℕ) → is_e b ≡ true → (b ≡ 101) ⊎ (b ≡ 69)
e_is b h = elim (either_eq (b == 101) (b == 69) h) [ inl p ↦ inl (eqb-true b 101 p) | inr p ↦ inr (eqb-true b 69 p) ]

e_no_point : (b : ℕ) → is_e b ≡ true → (b == 46) ≡ false
e_no_point b h = elim (e_is b h) [ inl p ↦ rw p refl | inr p ↦ rw p refl ]

e_no_digit : (b : ℕ) → is_e b ≡ true → is_digit b ≡ false
e_no_digit b h = elim (e_is b h) [ inl p ↦ rw p refl | inr p ↦ rw p refl ]

digit_no_sign : (b : ℕ) → is_digit b ≡ true → is_sign b ≡ false
digit_no_sign b h = grind arith

digit1_no_zero : (b : ℕ) → is_digit_1_to_9 b ≡ true → (b == 48) ≡ false
digit1_no_zero b h = grind arith

Many-cons : (p : ℕ → Bool) (S : Rule) (b : ℕ) (t r : List ℕ) → (Many p then S) (b ∷ t) r → S (b ∷ t) r ⊎ ((p b ≡ true) × (Many p then S) t r)
Many-cons p S b t r (m, inl same, s) = inl (subst (λ k. S k r) same s)
Many-cons p S b t r (m, inr (is, more_), s) = inr (is, (m, more_, s))

exponent_on : (b : ℕ) (t r : List ℕ) → Maybe Exponent (b ∷ t) r → (r ≡ b ∷ t) ⊎ ((is_e b ≡ true) × AfterE t r)
exponent_on b t r (inl same) = inl (sym same)
exponent_on b t r (inr h) = inr (One-cons is_e AfterE b t r h)

after_whole_on : (b : ℕ) (t r : List ℕ) → AfterWhole (b ∷ t) r → (r ≡ b ∷ t) ⊎ (((b ≡ 46) × RestOfNumber point t r) ⊎ ((is_e b ≡ true) × AfterE t r))
after_whole_on b t r (m, inl same, h) = elim (exponent_on b t r (subst (λ k. Maybe Exponent k r) (sym same) h)) [ inl k ↦ inl k | inr k ↦ inr (inr k) ]
after_whole_on b t r (m, inr f, h) = let k = Byte-cons 46 Digits b t m f in inr (inl (k.0, (m, k.1, h)))

digit_no_point : (b : ℕ) → is_digit b ≡ true → (b == 46) ≡ false
digit_no_point b h = grind arith

-- ---- each step, both ways

pub number_on : (q : InNumber) (b : ℕ) (t r : List ℕ) → RestOfNumber q (b ∷ t) r → EndsOr q b (number_step q b) t r
unfolding number_step
number_on minus b t r (m, inl h, k) =
    let zero_is : b ≡ 48 = cc in
    let rest : m ≡ t = cc in
    inr (when_so (At t r) (b == 48) (more zero) _ (rw zero_is refl) (subst (λ x. AfterWhole x r) rest k))
number_on minus b t r (m, inr h, k) =
    let o = One-cons is_digit_1_to_9 (Many is_digit) b t m h in
    inr (when_not (At t r) (b == 48) (more zero) _ (digit1_no_zero b o.0) (when_so (At t r) (is_digit_1_to_9 b) (more whole) stop o.0 (m, o.1, k)))
number_on zero b t r h =
    elim (after_whole_on b t r h) [
      | inl k ↦ inl (refl, k)
      | inr k ↦ inr (elim k [
        | inl p ↦ when_so (At t r) (b == 46) (more point) _ (rw p.0 refl) p.1
        | inr p ↦ when_not (At t r) (b == 46) (more point) _ (e_no_point b p.0) (when_so (At t r) (is_e b) (more e) stop p.0 p.1)
      ])
    ]
number_on whole b t r h =
    elim (Many-cons is_digit AfterWhole b t r h) [
      | inr d ↦ inr (when_so (At t r) (is_digit b) (more whole) _ d.0 d.1)
      | inl k ↦ elim (after_whole_on b t r k) [
        | inl k2 ↦ inl (refl, k2)
        | inr k2 ↦ inr (elim k2 [
          | inl p ↦ when_not (At t r) (is_digit b) (more whole) _ (rw p.0 refl) (when_so (At t r) (b == 46) (more point) _ (rw p.0 refl) p.1)
          | inr p ↦ when_not (At t r) (is_digit b) (more whole) _ (e_no_digit b p.0)
              (when_not (At t r) (b == 46) (more point) _ (e_no_point b p.0) (when_so (At t r) (is_e b) (more e) stop p.0 p.1))
        ])
      ]
    ]
number_on point b t r (m, h, k) = let o = One-cons is_digit (Many is_digit) b t m h in inr (when_so (At t r) (is_digit b) (more fraction) stop o.0 (m, o.1, k))
number_on fraction b t r h =
    elim (Many-cons is_digit (Maybe Exponent) b t r h) [
      | inr d ↦ inr (when_so (At t r) (is_digit b) (more fraction) _ d.0 d.1)
      | inl k ↦ elim (exponent_on b t r k) [
        | inl k2 ↦ inl (refl, k2)
        | inr p ↦ inr (when_not (At t r) (is_digit b) (more fraction) _ (e_no_digit b p.0) (when_so (At t r) (is_e b) (more e) stop p.0 p.1))
      ]
    ]
number_on e b t r (m, inl same, k) =
    let o = One-cons is_digit (Many is_digit) b t r (subst (λ x. Digits x r) (sym same) k) in
    inr (when_not (At t r) (is_sign b) (more sign) _ (digit_no_sign b o.0) (when_so (At t r) (is_digit b) (more exponent) stop o.0 o.1))
number_on e b t r (m, inr (x, is, same), k) =
    let here : x ≡ b = cc in
    let rest : m ≡ t = cc in
    inr (when_so (At t r) (is_sign b) (more sign) _ (subst (λ y. is_sign y ≡ true) here is) (subst (λ y. Digits y r) rest k))
number_on sign b t r h = let o = One-cons is_digit (Many is_digit) b t r h in inr (when_so (At t r) (is_digit b) (more exponent) stop o.0 o.1)
number_on exponent b t r (inl h) = inl (refl, h)
number_on exponent b t r (inr h) = inr (when_so (At t r) (is_digit b) (more exponent) stop h.0 h.1)

exponent_back : (b : ℕ) (t r : List ℕ) → AfterNumberStep (more_if (is_e b) e) t r → Maybe Exponent (b ∷ t) r
exponent_back b t r h = either_way (At t r) (is_e b) (more e) stop (λ f k. inr (t, (b, f, refl), k)) (λ f k. absurd k) h

after_whole_back : (b : ℕ) (t r : List ℕ) → AfterNumberStep (cond (b == 46) (more point) (more_if (is_e b) e)) t r → AfterWhole (b ∷ t) r
after_whole_back b t r h =
    either_way (At t r) (b == 46) (more point) (more_if (is_e b) e) (λ f k. (k.0, inr (t, rw (eqb-true b 46 f) refl, k.1), k.2)) (λ f k. (b ∷ t, inl refl, exponent_back b t r k)) h

many_back : (p : ℕ → Bool) (S : Rule) (b : ℕ) (t r : List ℕ) → p b ≡ true → (Many p then S) t r → (Many p then S) (b ∷ t) r
many_back p S b t r is (m, h, k) = (m, inr (is, h), k)

many_none : (p : ℕ → Bool) (t : List ℕ) → Many p t t
many_none p [] = refl
many_none p (x ∷ t) = inl refl

pub number_back : (q : InNumber) (b : ℕ) (t r : List ℕ) → AfterNumberStep (number_step q b) t r → RestOfNumber q (b ∷ t) r
unfolding number_step
number_back minus b t r h =
    either_way (At t r) (b == 48) (more zero) _ (λ f k. (t, inl (rw (eqb-true b 48 f) refl), k))
    (λ f. either_way (At t r) (is_digit_1_to_9 b) (more whole) stop (λ g k. (k.0, inr (t, (b, g, refl), k.1), k.2)) (λ g k. absurd k)) h
number_back zero b t r h = after_whole_back b t r h
number_back whole b t r h =
    either_way (At t r) (is_digit b) (more whole) _ (λ f k. many_back is_digit AfterWhole b t r f k) (λ f k. (b ∷ t, inl refl, after_whole_back b t r k)) h
number_back point b t r h = either_way (At t r) (is_digit b) (more fraction) stop (λ f k. (k.0, (t, (b, f, refl), k.1), k.2)) (λ f k. absurd k) h
number_back fraction b t r h =
    either_way (At t r) (is_digit b) (more fraction) _ (λ f k. many_back is_digit (Maybe Exponent) b t r f k) (λ f k. (b ∷ t, inl refl, exponent_back b t r k)) h
number_back e b t r h =
    either_way (At t r) (is_sign b) (more sign) _ (λ f k. (t, inr (b, f, refl), k))
    (λ f. either_way (At t r) (is_digit b) (more exponent) stop (λ g k. (b ∷ t, inl refl, (t, (b, g, refl), k))) (λ g k. absurd k)) h
number_back sign b t r h = either_way (At t r) (is_digit b) (more exponent) stop (λ g k. (t, (b, g, refl), k)) (λ g k. absurd k) h
number_back exponent b t r h = either_way (At t r) (is_digit b) (more exponent) stop (λ g k. inr (g, k)) (λ g k. absurd k) h

-- ---- where a number may end

pub number_ends : (q : InNumber) (r : List ℕ) → may_end q ≡ true → RestOfNumber q r r
number_ends minus r h = absurd (cc)
number_ends zero r h = (r, inl refl, inl refl)
number_ends whole r h = (r, many_none is_digit r, (r, inl refl, inl refl))
number_ends point r h = absurd (cc)
number_ends fraction r h = (r, many_none is_digit r, inl refl)
number_ends e r h = absurd (cc)
number_ends sign r h = absurd (cc)
number_ends exponent r h = many_none is_digit r

-- the bytes that are enough for a number
abbrev pub number_end : InNumber → List ℕ
number_end minus = 48 ∷ []
number_end zero = []
number_end whole = []
number_end point = 48 ∷ []
number_end fraction = []
number_end e = 48 ∷ []
number_end sign = 48 ∷ []
number_end exponent = []

digits_end : (r : List ℕ) → Digits (48 ∷ r) r
digits_end r = (r, (48, refl, refl), many_none is_digit r)

pub number_completes : (q : InNumber) (r : List ℕ) → RestOfNumber q (number_end q ++ r) r
number_completes minus r = (r, inl refl, (r, inl refl, inl refl))
number_completes zero r = number_ends zero r refl
number_completes whole r = number_ends whole r refl
number_completes point r = (r, digits_end r, inl refl)
number_completes fraction r = number_ends fraction r refl
number_completes e r = (48 ∷ r, inl refl, digits_end r)
number_completes sign r = digits_end r
number_completes exponent r = number_ends exponent r refl

-- a number that the end of the text finishes
whole_at_end : (r : List ℕ) → AfterWhole [] r → r ≡ []
whole_at_end r (m, inl h, inl k) = cc
whole_at_end r (m, inl h, inr (j, (x, is, f), k)) = absurd (cc)
whole_at_end r (m, inr (j, h, g), k) = absurd (cc)

exponent_at_end : (r : List ℕ) → Maybe Exponent [] r → r ≡ []
exponent_at_end r (inl k) = sym k
exponent_at_end r (inr (j, (x, is, f), k)) = absurd (cc)

pub number_at_end : (q : InNumber) (r : List ℕ) → RestOfNumber q [] r → (may_end q ≡ true) × (r ≡ [])
number_at_end minus r (m, inl h, k) = absurd (cc)
number_at_end minus r (m, inr (j, (x, is, f), h), k) = absurd (cc)
number_at_end zero r h = (refl, whole_at_end r h)
number_at_end whole r (m, same, h) = (refl, whole_at_end r (subst (λ x. AfterWhole x r) same h))
number_at_end point r (m, (j, (x, is, f), h), k) = absurd (cc)
number_at_end fraction r (m, same, h) = (refl, exponent_at_end r (subst (λ x. Maybe Exponent x r) same h))
number_at_end e r (m, inl same, (j, (x, is, f), k)) = absurd (cc)
number_at_end e r (m, inr (x, is, f), k) = absurd (cc)
number_at_end sign r (j, (x, is, f), k) = absurd (cc)
number_at_end exponent r h = (refl, h)
