-- Seconds of 1 to 15 digits.
use Rattle.std.proofs.Common.{◌≡◌, ◌<◌, ◌≤◌, ◌^◌, ℕ, List, length, true, arith, rules}
use Rattle.std.specs.Char.{is_ascii_digit}
use Rattle.std.specs.List.{list_all}
use Rattle.std.specs.Prelude.{Ok, Err}
use Rattle.std.specs.Str.Parse.{digits_value, ParsesUnsigned}
use Rattle.std.proofs.lemmas.Bool.{and_parts, leb-true}
use Rattle.std.proofs.lemmas.Str.Parse.{IsNumeralModel, numerals_by_value, digits_value_short, parse_gives}
use Rattle.ch_requests.specs.Authorization.{is_timestamp}

abbrev pub AreDigits : List ℕ → Type 0
AreDigits text = list_all is_ascii_digit text ≡ true

pub numerals : IsNumeralModel AreDigits (digits_value 10)
numerals = numerals_by_value AreDigits (search rules)

-- what a second is written as
pub record Second (value : List ℕ) : Type 0 where
  pub filled : 0 < length value
  pub short : length value ≤ 15
  pub digits : AreDigits value

pub second_from_test : (value : List ℕ) → is_timestamp value ≡ true → Second value
second_from_test value is =
    let parts = and_parts _ _ is in
    let bounds = and_parts _ _ parts.0 in
    record { filled = leb-true _ _ bounds.0; short = leb-true _ _ bounds.1; digits = parts.1 }

-- it fits 64 bits
pub second-lt : (value : List ℕ) → Second value → digits_value 10 value < 2 ^ 64
second-lt value second = omega (arith, digits_value_short numerals value 15 second.digits second.short)

-- so it is read as a number
pub no_error : {E : Type 0} (value : List ℕ) (e : E) → is_timestamp value ≡ true → ParsesUnsigned 64 10 value (Err e) → ⊥
no_error value e is parses =
    let second = second_from_test value is in
    let read : Err e ≡ Ok (digits_value 10 value) = parse_gives numerals 64 value (Err e) parses second.digits second.filled (second-lt value second) in
    cc
