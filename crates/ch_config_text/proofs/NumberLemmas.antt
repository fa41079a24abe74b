-- numbers as they are written
use Rattle.std.proofs.Common.{◌≡◌, ◌<◌, ◌≤◌, ◌^◌, ℕ, List, length, get_or, true, false, not, ◌&&◌, ap, sym, ◌∙◌, arith, rules, bytes_eq, nat_le, nat_lt, ◌==◌, inl, inr, subst, Result, Ok}
use Rattle.std.specs.Prelude.{None, Some}
use Rattle.std.specs.Char.{is_ascii_digit}
use Rattle.std.specs.List.{list_all}
use Rattle.std.specs.Str.Parse.{digits_value, ParsesUnsigned}
use Rattle.std.specs.Result.{OkIff}
use Rattle.std.specs.Fmt.{decimal}
use Rattle.std.proofs.Math.Nat.{eq-zero-or-pos}
use Rattle.std.proofs.lemmas.Fmt.{decimal_digit, decimal_nonempty, first_decimal, decimal-digits_value, digits_decimal}
use Rattle.std.proofs.lemmas.Slice.Eq.{bytes_eq-Decides}
use Rattle.std.proofs.lemmas.Bool.{and_parts, and_from, and_left, and_right, leb-true, le-leb, lt-ltb, ltb-true, eq-eqb, ne_eqb, le-ltb, ltb-false, not_from_false, not-true, cases_Bool, false_from_ne_true, cond-false, cond-true}
use Rattle.std.proofs.lemmas.Str.Parse.{IsNumeralModel, numerals_by_value, parse_digits}
use Rattle.ch_config_text.specs.Numbers.{number_in, is_plain}

abbrev pub AreDigits : List ℕ → Type 0
AreDigits text = list_all is_ascii_digit text ≡ true

pub numerals : IsNumeralModel AreDigits (digits_value 10)
numerals = numerals_by_value AreDigits (search rules)

-- what the test says
pub record Plain (text : List ℕ) : Type 0 where
  pub filled : 0 < length text
  pub lone_zero : get_or text 0 0 ≡ 48 → length text ≡ 1
  pub digits : AreDigits text

pub plain_from_test : (text : List ℕ) → is_plain text ≡ true → Plain text
plain_from_test text is =
    let parts = and_parts (nat_lt 0 (length text) && not (nat_lt 1 (length text) && get_or text 0 0 == 48)) (list_all is_ascii_digit text) is in
    let front = and_parts (nat_lt 0 (length text)) (not (nat_lt 1 (length text) && get_or text 0 0 == 48)) parts.0 in
    let filled : 0 < length text = ltb-true 0 (length text) front.0 in
    record {
      filled = filled;
      lone_zero = λ zero. elim (cases_Bool (nat_lt 1 (length text))) [
        | inl longer ↦ absurd (
            let both : (nat_lt 1 (length text) && get_or text 0 0 == 48) ≡ true = and_from (nat_lt 1 (length text)) (get_or text 0 0 == 48) longer (eq-eqb (get_or text 0 0) 48 zero) in
            let neither : (nat_lt 1 (length text) && get_or text 0 0 == 48) ≡ false = not-true (nat_lt 1 (length text) && get_or text 0 0 == 48) front.1 in
            cc)
        | inr short ↦ (
            let below : length text ≤ 1 = ltb-false 1 (length text) short in
            omega arith)
      ];
      digits = parts.1;
    }

-- a number's decimal form passes it
pub decimal-is_plain : (n : ℕ) → n < 2 ^ 64 → is_plain (decimal n) ≡ true
decimal-is_plain n small =
    and_from (nat_lt 0 (length (decimal n)) && not (nat_lt 1 (length (decimal n)) && get_or (decimal n) 0 0 == 48)) (list_all is_ascii_digit (decimal n))
    (and_from (nat_lt 0 (length (decimal n))) (not (nat_lt 1 (length (decimal n)) && get_or (decimal n) 0 0 == 48))
    (lt-ltb 0 (length (decimal n)) (decimal_nonempty n small))
    (not_from_false (nat_lt 1 (length (decimal n)) && get_or (decimal n) 0 0 == 48) no_zero))
    (digits_decimal numerals n small)
  where
    no_zero : (nat_lt 1 (length (decimal n)) && get_or (decimal n) 0 0 == 48) ≡ false
    no_zero =
        elim (eq-zero-or-pos n) [
          | inl none ↦
              let one_digit : length (decimal n) ≡ 1 = ap length (decimal_digit n (omega arith)) in
              and_left (nat_lt 1 (length (decimal n))) (get_or (decimal n) 0 0 == 48) (le-ltb 1 (length (decimal n)) (omega arith))
          | inr positive ↦
              let first : 48 < get_or (decimal n) 0 0 = first_decimal n positive small in
              and_right (nat_lt 1 (length (decimal n))) (get_or (decimal n) 0 0 == 48) (ne_eqb (get_or (decimal n) 0 0) 48 (λ e. omega arith))
        ]

-- a text that is the decimal form of no number within the bounds gives none
pub number_in-none : (least most : ℕ) (text : List ℕ) → ((n : ℕ) → least ≤ n → n ≤ most → text ≡ decimal n → ⊥) → None ≡ number_in least most text
number_in-none least most text none =
    let n = digits_value 10 text in
    let fails : ((bytes_eq text (decimal n) && nat_le least n) && nat_le n most) ≡ false =
    false_from_ne_true ((bytes_eq text (decimal n) && nat_le least n) && nat_le n most) (λ is.
    let parts = and_parts (bytes_eq text (decimal n) && nat_le least n) (nat_le n most) is in
    let front = and_parts (bytes_eq text (decimal n)) (nat_le least n) parts.0 in
    none n (leb-true least n front.1) (leb-true n most parts.1) ((bytes_eq-Decides text (decimal n)).0 front.0)) in
    sym (cond-false ((bytes_eq text (decimal n) && nat_le least n) && nat_le n most) (Some n) None fails)

-- so does one that isn't plain
pub number_in-not_plain : (least most : ℕ) (text : List ℕ) → most < 2 ^ 64 → is_plain text ≡ false → None ≡ number_in least most text
number_in-not_plain least most text small is =
    number_in-none least most text (λ n low high same.
    let plain : is_plain text ≡ true = rw same (decimal-is_plain n (omega arith)) in
    absurd (cc))

-- what is read of a plain text is the number whose decimal form it is
pub parsed_number : {E : Type 0} → (text : List ℕ) (r : Result ℕ E) → is_plain text ≡ true → ParsesUnsigned 64 10 text r → (n : ℕ) → r ≡ Ok n → (digits_value 10 text ≡ n) × (text ≡ decimal n)
parsed_number {E} text r is parses n ok =
    let plain = plain_from_test text is in
    let value = parse_digits numerals 64 text r parses plain.digits in
    let at_ok : ((0 < length text) × (digits_value 10 text < 2 ^ 64)) × (n ≡ digits_value 10 text) =
    subst (λ (o : Result ℕ E). OkIff o ((0 < length text) × (digits_value 10 text < 2 ^ 64)) (digits_value 10 text)) ok value in
    (sym at_ok.1, sym (decimal-digits_value numerals text plain.digits plain.filled plain.lone_zero at_ok.0.1) ∙ ap decimal (sym at_ok.1))

-- within the bounds it is the number
pub number_in-read : {E : Type 0} → (least most : ℕ) (text : List ℕ) (r : Result ℕ E) → is_plain text ≡ true → ParsesUnsigned 64 10 text r → (n : ℕ) → r ≡ Ok n → least ≤ n → n ≤ most → Some n ≡ number_in least most text
number_in-read least most text r is parses n ok low high =
    let read = parsed_number text r is parses n ok in
    let same : bytes_eq text (decimal (digits_value 10 text)) ≡ true =
    (bytes_eq-Decides text (decimal (digits_value 10 text))).1 (read.1 ∙ ap decimal (sym read.0)) in
    let passes : ((bytes_eq text (decimal (digits_value 10 text)) && nat_le least (digits_value 10 text)) && nat_le (digits_value 10 text) most) ≡ true =
    and_from (bytes_eq text (decimal (digits_value 10 text)) && nat_le least (digits_value 10 text)) (nat_le (digits_value 10 text) most)
    (and_from (bytes_eq text (decimal (digits_value 10 text))) (nat_le least (digits_value 10 text)) same (le-leb least (digits_value 10 text) (omega (arith, read.0, low))))
    (le-leb (digits_value 10 text) most (omega (arith, read.0, high))) in
    ap Some (sym read.0) ∙ sym (cond-true ((bytes_eq text (decimal (digits_value 10 text)) && nat_le least (digits_value 10 text)) && nat_le (digits_value 10 text) most) (Some (digits_value 10 text)) None passes)
