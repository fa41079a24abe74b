-- The length of a body by its fields.
use Rattle.std.proofs.Common.{◌≡◌, ◌<◌, ◌≤◌, ◌+◌, ◌^◌, ◌==◌, ℕ, List, [], ◌∷◌, ◌++◌, length, take, get_or, Bool, true, false, cond, Some, None, refl, sym, subst, arith, rules}
use Rattle.std.specs.Prelude.{◌&&◌}
use Rattle.std.specs.Char.{is_ascii_digit, digit_value}
use Rattle.std.specs.List.{list_all}
use Rattle.std.specs.Str.Parse.{digits_value}
use Rattle.std.proofs.lemmas.Bool.{and_parts, leb-true}
use Rattle.std.proofs.lemmas.List.Folds.{list_all-append}
use Rattle.std.proofs.lemmas.Str.Parse.{IsNumeralModel, numerals_by_value, digits_value_short, digits_value-take-le, digit_at}
use Rattle.std.proofs.lemmas.Str.{digit_value_digit}
use Rattle.ch_requests.specs.Fields.{missing, bad, is, is_length, agree, length_by}
use Rattle.ch_http.specs.Lengths.{length_of, with_number, with_value}
use Rattle.ch_http.specs.declared.length.BodyLength.{BodyLength}
use Rattle.ch_http.specs.declared.length.BodyLength.TheVariants.{Missing, Bad, Is}

-- ---- the number of a value

abbrev AreDigits : List ℕ → Type 0
AreDigits value = list_all is_ascii_digit value ≡ true

numerals : IsNumeralModel AreDigits (digits_value 10)
numerals = numerals_by_value AreDigits (search rules)

-- what a value with a number is
pub record Digits (value : List ℕ) : Type 0 where
  pub filled : 1 ≤ length value
  pub short : length value ≤ 19
  pub digits : AreDigits value

pub digits_from_test : (value : List ℕ) → is_length value ≡ true → Digits value
digits_from_test value test =
    let parts = and_parts _ _ test in
    let bounds = and_parts _ _ parts.0 in
    record { filled = leb-true _ _ bounds.0; short = leb-true _ _ bounds.1; digits = parts.1 }

-- the number of the first digits is below 10^19
pub number-lt : (value : List ℕ) (i : ℕ) → Digits value → digits_value 10 (take i value) < 10 ^ 19
number-lt value i digits =
    let part = digits_value-take-le 10 value i (omega arith) in
    let all = digits_value_short numerals value 19 digits.digits digits.short in
    omega (arith, part, all)

-- each digit stands for its own number
pub digit_in : (value : List ℕ) (i : ℕ) → Digits value → i < length value → digit_value (get_or value i 0) + 48 ≡ get_or value i 0
digit_in value i digits within = digit_value_digit (get_or value i 0) (digit_at value i (numerals.to value digits.digits) within)

-- ---- one more value

known_missing : (length : BodyLength) → length_of length ≡ missing → length ≡ Missing
known_missing Missing means = refl
known_missing Bad means = cc
known_missing (Is n) means = cc

known_bad : (length : BodyLength) → length_of length ≡ bad → length ≡ Bad
known_bad Missing means = cc
known_bad Bad means = refl
known_bad (Is n) means = cc

known_is : (length : BodyLength) (n : ℕ) → length_of length ≡ is n → length ≡ Is n
known_is Missing n means = cc
known_is Bad n means = cc
known_is (Is m) n means = cc

first_value : (good : Bool) (n : ℕ) → length_of (with_number Missing (cond good (Some n) None)) ≡ cond ((good && true) && true) (is n) bad
first_value true n = refl
first_value false n = refl

one_more_value : (lengths numbers good : Bool) (m n : ℕ) (told : BodyLength) → length_of told ≡ cond (lengths && numbers) (is n) bad
    → length_of (with_number told (cond good (Some m) None))
    ≡ cond ((lengths && (good && true)) && (numbers && ((m == n) && true))) (is n) bad
one_more_value true true true m n told means = rw (known_is told n means) (by (m == n))
  where
    by : (same : Bool) → length_of (cond same (Is n) Bad) ≡ cond (same && true) (is n) bad
    by true = refl
    by false = refl
one_more_value true numbers false m n told means = refl
one_more_value true false true m n told means = rw (known_bad told means) refl
one_more_value false numbers true m n told means = rw (known_bad told means) refl
one_more_value false numbers false m n told means = refl

pub length_by-push : (values : List (List ℕ)) (value : List ℕ) (told : BodyLength) → length_of told ≡ length_by values
    → length_of (with_value told value) ≡ length_by (values ++ value ∷ [])
length_by-push [] value told means =
    subst (λ l. length_of (with_value l value) ≡ length_by (value ∷ [])) (sym (known_missing told means))
    (first_value (is_length value) (digits_value 10 value))
length_by-push (first ∷ values) value told means =
    rw (list_all-append is_length (first ∷ values) (value ∷ []), list_all-append (λ v. digits_value 10 v == digits_value 10 first) values (value ∷ []))
    (one_more_value (list_all is_length (first ∷ values)) (agree (first ∷ values)) (is_length value)
    (digits_value 10 value) (digits_value 10 first) told means)
