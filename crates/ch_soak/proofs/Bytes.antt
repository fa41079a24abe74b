-- Bytes of lines: none is a line end, and each is ASCII.
use Rattle.std.proofs.Common.{◌≡◌, ℕ, ◌+◌, ◌<◌, ◌≤◌, ◌^◌, ◌%◌, Bool, true, false, ◌&&◌, ◌||◌, nat_le, nat_lt, refl, List, [], ◌∷◌, ◌++◌, length, length-append, arith}
use Rattle.std.specs.Prelude.{◌==◌}
use Rattle.std.specs.Fmt.{decimal}
use Rattle.std.specs.List.{list_any, list_all}
use Rattle.std.specs.Str.{is_utf8}
use Rattle.std.proofs.lemmas.Bool.{leb-true, ltb-true, lt-ltb}
use Rattle.std.proofs.lemmas.Bool.Decides.{nat_tests}
use Rattle.std.proofs.lemmas.Fmt.{decimal_by_steps}
use Rattle.std.proofs.lemmas.List.Sums.{AllPass-from_list_all}
use Rattle.std.proofs.lemmas.Str.{IsUtf8-from_ascii, is_utf8-from_IsUtf8}
use Rattle.std.proofs.lemmas.Str.Ascii.{IsAscii-from_all}

abbrev pub is_plain : ℕ → Bool
is_plain b = nat_le 32 b && nat_lt b 128

abbrev pub is_digit : ℕ → Bool
is_digit b = nat_le 48 b && nat_lt b 58

-- ---- tests

pub and_both : (a b : Bool) → (a && b) ≡ true → (a ≡ true) × (b ≡ true)
and_both true b h = (refl, h)
and_both false b h = absurd (cc)

pub both_true : (a b : Bool) → a ≡ true → b ≡ true → (a && b) ≡ true
both_true true b x y = y
both_true false b x y = absurd (cc)

pub or_none : (a b : Bool) → a ≡ false → b ≡ false → (a || b) ≡ false
or_none true b x y = absurd (cc)
or_none false b x y = y

pub or_left : (a b : Bool) → (a || b) ≡ false → a ≡ false
or_left true b h = h
or_left false b h = refl

pub or_right : (a b : Bool) → (a || b) ≡ false → b ≡ false
or_right true b h = absurd (cc)
or_right false b h = h

pub differs : (a b : ℕ) → b < a → (a == b) ≡ false
differs a b less = grind (arith, nat_tests)

pub differs_below : (a b : ℕ) → a < b → (a == b) ≡ false
differs_below a b less = grind (arith, nat_tests)

pub at_least : (a b : ℕ) → a ≤ b → nat_le a b ≡ true
at_least a b le = grind (arith, nat_tests)

-- ---- lists

pub all_append : (p : ℕ → Bool) (xs ys : List ℕ) → list_all p xs ≡ true → list_all p ys ≡ true → list_all p (xs ++ ys) ≡ true
all_append p [] ys a b = b
all_append p (x ∷ xs) ys a b =
    let both = and_both (p x) (list_all p xs) a in both_true (p x) (list_all p (xs ++ ys)) both.0 (all_append p xs ys both.1 b)

pub all_also : (p q : ℕ → Bool) → ((b : ℕ) → p b ≡ true → q b ≡ true) → (xs : List ℕ) → list_all p xs ≡ true → list_all q xs ≡ true
all_also p q h [] a = refl
all_also p q h (x ∷ xs) a =
    let both = and_both (p x) (list_all p xs) a in both_true (q x) (list_all q xs) (h x both.0) (all_also p q h xs both.1)

pub no_byte : (c : ℕ) (p : ℕ → Bool) → ((b : ℕ) → p b ≡ true → (b == c) ≡ false) → (xs : List ℕ) → list_all p xs ≡ true → list_any (λ b. b == c) xs ≡ false
no_byte c p h [] a = refl
no_byte c p h (x ∷ xs) a =
    let both = and_both (p x) (list_all p xs) a in or_none (x == c) (list_any (λ b. b == c) xs) (h x both.0) (no_byte c p h xs both.1)

-- ---- digits

pub digit_least : (b : ℕ) → is_digit b ≡ true → 48 ≤ b
digit_least b h = leb-true 48 b (and_both (nat_le 48 b) (nat_lt b 58) h).0

pub digit_most : (b : ℕ) → is_digit b ≡ true → b < 58
digit_most b h = ltb-true b 58 (and_both (nat_le 48 b) (nat_lt b 58) h).1

digit_from : (b : ℕ) → 48 ≤ b → b < 58 → is_digit b ≡ true
digit_from b least most = both_true (nat_le 48 b) (nat_lt b 58) (at_least 48 b least) (lt-ltb b 58 most)

pub digits_are : (n : ℕ) → n < 2 ^ 64 → list_all is_digit (decimal n) ≡ true
digits_are n small =
    decimal_by_steps (λ n ds. list_all is_digit ds ≡ true)
    (λ n lt. both_true (is_digit (48 + n)) true (digit_from (48 + n) (omega arith) (omega (arith, lt))) refl)
    (λ n ds le before. all_append is_digit ds ((48 + n % 10) ∷ []) before
    (both_true (is_digit (48 + n % 10)) true (digit_from (48 + n % 10) (omega arith) (omega arith)) refl))
    n small

pub digit_is_plain : (b : ℕ) → is_digit b ≡ true → is_plain b ≡ true
digit_is_plain b h =
    both_true (nat_le 32 b) (nat_lt b 128) (at_least 32 b (omega (arith, digit_least b h))) (lt-ltb b 128 (omega (arith, digit_most b h)))

-- ---- plain texts of at most so many bytes

abbrev pub Plain : ℕ → List ℕ → Type 0
Plain k xs = (list_all is_plain xs ≡ true) × (length xs ≤ k)

pub Plain-append : (j k : ℕ) (xs ys : List ℕ) → Plain j xs → Plain k ys → Plain (j + k) (xs ++ ys)
Plain-append j k xs ys a b = (all_append is_plain xs ys a.0 b.0, omega (arith, a.1, b.1, length-append xs ys))

plain_most : (b : ℕ) → is_plain b ≡ true → b < 128
plain_most b h = ltb-true b 128 (and_both (nat_le 32 b) (nat_lt b 128) h).1

plain_least : (b : ℕ) → is_plain b ≡ true → 32 ≤ b
plain_least b h = leb-true 32 b (and_both (nat_le 32 b) (nat_lt b 128) h).0

pub plain_no_end : (xs : List ℕ) → list_all is_plain xs ≡ true → list_any (λ b. b == 10) xs ≡ false
plain_no_end xs a = no_byte 10 is_plain (λ b h. differs b 10 (omega (arith, plain_least b h))) xs a

pub plain_utf8 : (xs : List ℕ) → list_all is_plain xs ≡ true → is_utf8 xs ≡ true
plain_utf8 xs a =
    is_utf8-from_IsUtf8 xs (IsUtf8-from_ascii xs (IsAscii-from_all xs (λ k d lt. plain_most _ (AllPass-from_list_all is_plain xs a k d lt))))

pub digits_no_blank : (xs : List ℕ) → list_all is_digit xs ≡ true → list_any (λ b. b == 32) xs ≡ false
digits_no_blank xs a = no_byte 32 is_digit (λ b h. differs b 32 (omega (arith, digit_least b h))) xs a
