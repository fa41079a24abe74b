-- the numbers in the parts of a socket id
use Rattle.std.proofs.Common.{◌≡◌, ◌<◌, ◌≤◌, ◌^◌, ℕ, List, length, get_or, true, false, cond, refl, ap, sym, ◌∙◌, arith, rules, bytes_eq, inl, inr}
use Rattle.std.specs.Prelude.{None, Some}
use Rattle.std.specs.Char.{is_ascii_digit}
use Rattle.std.specs.List.{list_all}
use Rattle.std.specs.Str.Parse.{digits_value}
use Rattle.std.specs.Fmt.{decimal}
use Rattle.std.proofs.Math.Nat.{eq-zero-or-pos}
use Rattle.std.proofs.lemmas.Fmt.{decimal_digit, first_decimal, decimal-digits_value}
use Rattle.std.proofs.lemmas.Slice.Eq.{bytes_eq-Decides}
use Rattle.std.proofs.lemmas.Bool.{and_parts, leb-true}
use Rattle.std.proofs.lemmas.Str.Parse.{IsNumeralModel, numerals_by_value, digits_value_short}
use Rattle.ch_names.specs.SocketIds.{is_part, written_number}

abbrev pub AreDigits : List ℕ → Type 0
AreDigits text = list_all is_ascii_digit text ≡ true

pub numerals : IsNumeralModel AreDigits (digits_value 10)
numerals = numerals_by_value AreDigits (search rules)

-- what a part is
pub record Part (text : List ℕ) : Type 0 where
  pub filled : 0 < length text
  pub short : length text ≤ 19
  pub digits : AreDigits text

pub part_from_test : (text : List ℕ) → is_part text ≡ true → Part text
part_from_test text is =
    let parts = and_parts _ _ is in
    let bounds = and_parts _ _ parts.0 in
    record { filled = leb-true _ _ bounds.0; short = leb-true _ _ bounds.1; digits = parts.1 }

-- its number fits 64 bits
pub part_number-lt : (text : List ℕ) → Part text → digits_value 10 text < 2 ^ 64
part_number-lt text part = omega (arith, digits_value_short numerals text 19 part.digits part.short)

-- with a zero in front of other digits it isn't a number's decimal form
pub written_number-zero_first : (text : List ℕ) → Part text → 1 < length text → get_or text 0 0 ≡ 48 → None ≡ written_number text
written_number-zero_first text part longer zero =
    elim (bytes_eq text (decimal (digits_value 10 text))) as (λ same. bytes_eq text (decimal (digits_value 10 text)) ≡ same → None ≡ cond same (Some (digits_value 10 text)) None) [
      | true ↦ λ same. absurd (go (digits_value 10 text) (part_number-lt text part) ((bytes_eq-Decides _ _).0 same))
      | false ↦ λ _. refl
    ] refl
  where
    go : (n : ℕ) → n < 2 ^ 64 → text ≡ decimal n → ⊥
    go n small same =
        elim (eq-zero-or-pos n) [
          | inl none ↦
              let one_digit : length text ≡ 1 = ap length (same ∙ decimal_digit n (omega arith)) in
              omega (arith, longer, one_digit)
          | inr positive ↦
              let first : 48 < get_or text 0 0 = rw same (first_decimal n positive small) in
              omega (arith, first, zero)
        ]

-- otherwise it is
pub written_number-plain : (text : List ℕ) → Part text → (get_or text 0 0 ≡ 48 → length text ≡ 1) → Some (digits_value 10 text) ≡ written_number text
written_number-plain text part plain =
    let same : bytes_eq text (decimal (digits_value 10 text)) ≡ true =
    (bytes_eq-Decides _ _).1 (sym (decimal-digits_value numerals text part.digits part.filled plain (part_number-lt text part))) in
    rw same refl
