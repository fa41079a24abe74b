-- The values of hex digits, and of four of them.
use Rattle.std.proofs.Common.{◌≡◌, inl, inr, ℕ, ◌+◌, ◌-◌, ◌*◌, ◌<◌, ◌≤◌, Bool, true, false, not, ◌&&◌, ◌||◌, refl, subst, arith}
use Rattle.std.specs.Char.{digit_value, InScalarRange}
use Rattle.std.proofs.lemmas.Bool.{and_parts, cases_lt}
use Rattle.std.proofs.lemmas.Bool.Decides.{nat_tests}
use Rattle.ch_base.specs.JsonText.{is_hex, is_d, is_8_to_b, is_c_to_f, unit, pair, is_char, hex_value}

pub d_is_hex : (x : ℕ) → is_d x ≡ true → is_hex x ≡ true
d_is_hex x h = grind (arith, nat_tests)

pub hex_small : (x : ℕ) → is_hex x ≡ true → digit_value x < 16
hex_small x h = grind (arith, nat_tests)

d_value : (x : ℕ) → is_d x ≡ true → digit_value x ≡ 13
d_value x h = grind (arith, nat_tests)

d_from_value : (x : ℕ) → is_hex x ≡ true → digit_value x ≡ 13 → is_d x ≡ true
d_from_value x h e = grind (arith, nat_tests)

high_value : (x : ℕ) → is_8_to_b x ≡ true → (8 ≤ digit_value x) × (digit_value x < 12)
high_value x h = (grind (arith, nat_tests), grind (arith, nat_tests))

low_value : (x : ℕ) → is_c_to_f x ≡ true → (12 ≤ digit_value x) × (digit_value x < 16)
low_value x h = (grind (arith, nat_tests), grind (arith, nat_tests))

other_value : (x : ℕ) → is_hex x ≡ true → is_8_to_b x ≡ false → is_c_to_f x ≡ false → digit_value x < 8
other_value x h e f = grind (arith, nat_tests)

-- a unit that is no surrogate is the number of a character
pub unit_scalar : (a b c d : ℕ) → is_char (unit a b c d) ≡ true → InScalarRange (hex_value a b c d)
unit_scalar a b c d h =
    let p = and_parts _ _ h in
    let q = and_parts _ _ p.0 in
    let r = and_parts _ _ p.1 in
    let s = and_parts _ _ r.1 in
    let b_small = hex_small b r.0 in
    let c_small = hex_small c s.0 in
    let d_small = hex_small d s.1 in
    not_surrogate a b c d q.0 (hex_small a q.0) b_small c_small d_small (is_d a) refl (is_8_to_b b) refl (is_c_to_f b) refl r.0 q.1
  where
    not_surrogate : (a b c d : ℕ) → is_hex a ≡ true → digit_value a < 16 → digit_value b < 16 → digit_value c < 16 → digit_value d < 16 → (x : Bool) → is_d a ≡ x → (y : Bool) → is_8_to_b b ≡ y → (z : Bool) → is_c_to_f b ≡ z → is_hex b ≡ true
        → not (is_d a && (is_8_to_b b || is_c_to_f b)) ≡ true → InScalarRange (hex_value a b c d)
    not_surrogate a b c d hex sa sb sc sd true ea true eb z ez hb h = absurd (let k : not (true && (true || is_c_to_f b)) ≡ true = subst (λ y. not (true && (y || is_c_to_f b)) ≡ true) eb (subst (λ y. not (y && (is_8_to_b b || is_c_to_f b)) ≡ true) ea h) in cc k)
    not_surrogate a b c d hex sa sb sc sd true ea false eb true ez hb h = absurd (let k : not (true && (false || true)) ≡ true = subst (λ y. not (true && (false || y)) ≡ true) ez (subst (λ y. not (true && (y || is_c_to_f b)) ≡ true) eb (subst (λ y. not (y && (is_8_to_b b || is_c_to_f b)) ≡ true) ea h)) in cc k)
    not_surrogate a b c d hex sa sb sc sd true ea false eb false ez hb h = let da = d_value a ea in let db = other_value b hb eb ez in inl (omega arith)
    not_surrogate a b c d hex sa sb sc sd false ea y eb z ez hb h = apart a b c d sa sb sc sd (λ e. let k = d_from_value a hex e in cc (k, ea))
      where
        apart : (a b c d : ℕ) → digit_value a < 16 → digit_value b < 16 → digit_value c < 16 → digit_value d < 16 → (digit_value a ≡ 13 → ⊥) → InScalarRange (hex_value a b c d)
        apart a b c d sa sb sc sd ne = elim (cases_lt (digit_value a) 13) [ inl k ↦ inl (omega arith) | inr k ↦ inr (omega arith, omega arith) ]

-- a pair of surrogates is the number of a character
pub record IsPairOf (high low : ℕ) : Type 0 where
  pub high_from : 0xd800 ≤ high
  pub high_to : high < 0xdc00
  pub low_from : 0xdc00 ≤ low
  pub low_to : low < 0xe000

pub pair_values : (a b c d e f g h : ℕ) → is_char (pair a b c d e f g h) ≡ true → IsPairOf (hex_value a b c d) (hex_value e f g h)
pair_values a b c d e f g h is =
    let p = and_parts _ _ is in
    let ab = and_parts _ _ p.0 in
    let q = and_parts _ _ p.1 in
    let cd = and_parts _ _ q.0 in
    let r = and_parts _ _ q.1 in
    let ef = and_parts _ _ r.0 in
    let gh = and_parts _ _ r.1 in
    let va = d_value a ab.0 in
    let vb = high_value b ab.1 in
    let vc = hex_small c cd.0 in
    let vd = hex_small d cd.1 in
    let ve = d_value e ef.0 in
    let vf = low_value f ef.1 in
    let vg = hex_small g gh.0 in
    let vh = hex_small h gh.1 in
    record { high_from = omega arith; high_to = omega arith; low_from = omega arith; low_to = omega arith }

pub pair_scalar : (high low : ℕ) → IsPairOf high low → InScalarRange (0x10000 + (high - 0xd800) * 1024 + (low - 0xdc00))
pair_scalar high low h = inr (omega (arith, h.high_from, h.high_to, h.low_from, h.low_to), omega (arith, h.high_from, h.high_to, h.low_from, h.low_to))
