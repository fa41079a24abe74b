-- The quoted text is a JSON string that stands for the text.
use Rattle.std.proofs.Common.{◌≡◌, ℕ, zero, suc, ◌/◌, ◌%◌, ◌<◌, List, [], ◌∷◌, ◌++◌, append_assoc, Bool, true, false, not, cond, refl, sym, ap, ap₂, ◌∙◌, subst, arith}
use Rattle.std.specs.Prelude.{flat_map, ◌&&◌, ◌||◌, ◌==◌, nat_lt}
use Rattle.std.specs.Char.{digit_char, encode_utf8}
use Rattle.std.proofs.lemmas.Bool.{and_parts}
use Rattle.std.proofs.lemmas.Bool.Decides.{nat_tests}
use Rattle.std.proofs.lemmas.Str.{encode_ascii}
use Rattle.ch_base.specs.Escape.{escape_letter, escaped_byte, escaped, quoted}
use Rattle.ch_base.specs.JsonText.{is_hex, is_unescaped, is_short, Char, byte, short, unit, spelling, is_char, Chars, String, hex_value, short_value, char_bytes, Unescapes}

-- ---- one byte

same_number : (a b : ℕ) → (a == b) ≡ true → a ≡ b
same_number a b h = grind (arith, nat_tests)

other_number : (a b : ℕ) → (a == b) ≡ false → a ≡ b → ⊥
other_number a b h e = grind (arith, nat_tests)

below : (a b : ℕ) → nat_lt a b ≡ true → a < b
below a b h = grind (arith, nat_tests)

all_below : (ℕ → Bool) → ℕ → Bool
all_below p zero = true
all_below p (suc n) = p n && all_below p n

below_one : (p : ℕ → Bool) (n x : ℕ) → all_below p n ≡ true → x < n → p x ≡ true
unfolding all_below
below_one p zero x h lt = absurd (omega arith)
below_one p (suc n) x h lt = test (x == n) refl (below_one p n x (and_parts _ _ h).1)
  where
    test : (b : Bool) → b ≡ (x == n) → (x < n → p x ≡ true) → p x ≡ true
    test true e more = let same : x ≡ n = same_number x n (sym e) in subst (λ y. p y ≡ true) (sym same) (and_parts _ _ h).0
    test false e more = let apart : x ≡ n → ⊥ = other_number x n (sym e) in let lower : x < n = omega (arith, apart) in more lower

abbrev is_written : ℕ → Bool
is_written x = (hex_value 48 48 (digit_char (x / 16)) (digit_char (x % 16)) == x) && (is_hex (digit_char (x / 16)) && is_hex (digit_char (x % 16)))

abbrev is_lettered : ℕ → Bool
is_lettered x = not (nat_lt 0 (escape_letter x)) || (is_short (escape_letter x) && (short_value (escape_letter x) == x))

written : (x : ℕ) → x < 32 → is_written x ≡ true
unfolding all_below
written x lt = below_one is_written 32 x refl lt

lettered : (x : ℕ) → x < 93 → is_lettered x ≡ true
unfolding all_below
lettered x lt = below_one is_lettered 93 x refl lt

-- a character that stands for the byte, and is spelled as the byte is escaped
record Stands (x : ℕ) : Type 0 where
  char : Char
  spelled : escaped_byte x ≡ spelling char
  good : is_char char ≡ true
  means : char_bytes char ≡ x ∷ []

letter_low : (x : ℕ) → nat_lt 0 (escape_letter x) ≡ true → x < 93
letter_low x h = grind (arith, nat_tests)

plain_byte : (x : ℕ) → nat_lt 0 (escape_letter x) ≡ false → nat_lt x 32 ≡ false → is_unescaped x ≡ true
plain_byte x e f = grind (arith, nat_tests)

stands : (x : ℕ) → Stands x
unfolding escaped_byte
stands x = test (nat_lt 0 (escape_letter x)) refl (nat_lt x 32) refl
  where
    test : (a : Bool) → a ≡ nat_lt 0 (escape_letter x) → (b : Bool) → b ≡ nat_lt x 32 → Stands x
    test true e b f =
        let low : x < 93 = letter_low x (sym e) in
        let all : (not true || (is_short (escape_letter x) && (short_value (escape_letter x) == x))) ≡ true = subst (λ y. (not y || (is_short (escape_letter x) && (short_value (escape_letter x) == x))) ≡ true) (sym e) (lettered x low) in
        let both = and_parts (is_short (escape_letter x)) (short_value (escape_letter x) == x) all in
        let value : short_value (escape_letter x) ≡ x = same_number _ _ both.1 in
        record {
          char = short (escape_letter x);
          spelled = ap (λ y. cond y (92 ∷ escape_letter x ∷ []) (cond (nat_lt x 32) (92 ∷ 117 ∷ 48 ∷ 48 ∷ digit_char (x / 16) ∷ digit_char (x % 16) ∷ []) (x ∷ []))) (sym e);
          good = both.0;
          means = ap (λ (y : ℕ). y ∷ []) value;
        }
    test false e true f =
        let low : x < 32 = below x 32 (sym f) in
        let all = written x low in
        let value : hex_value 48 48 (digit_char (x / 16)) (digit_char (x % 16)) ≡ x = same_number _ _ (and_parts _ _ all).0 in
        let small : x < 128 = omega arith in
        record {
          char = unit 48 48 (digit_char (x / 16)) (digit_char (x % 16));
          spelled = ap₂ (λ y z. cond y (92 ∷ escape_letter x ∷ []) (cond z (92 ∷ 117 ∷ 48 ∷ 48 ∷ digit_char (x / 16) ∷ digit_char (x % 16) ∷ []) (x ∷ []))) (sym e) (sym f);
          good = (and_parts _ _ all).1;
          means = ap encode_utf8 value ∙ encode_ascii x small;
        }
    test false e false f = record {
      char = byte x;
      spelled = ap₂ (λ y z. cond y (92 ∷ escape_letter x ∷ []) (cond z (92 ∷ 117 ∷ 48 ∷ 48 ∷ digit_char (x / 16) ∷ digit_char (x % 16) ∷ []) (x ∷ []))) (sym e) (sym f);
      good = plain_byte x (sym e) (sym f);
      means = refl;
    }

-- ---- a text

chars_of : (xs r : List ℕ) → (cs : List Char) × Chars cs (escaped xs ++ 34 ∷ r) r × (flat_map char_bytes cs ≡ xs)
chars_of [] r = ([], refl, refl)
chars_of (x ∷ xs) r =
    let c = stands x in
    let more = chars_of xs r in
    (c.char ∷ more.0, (c.good, (escaped xs ++ 34 ∷ r, append_assoc (escaped_byte x) (escaped xs) (34 ∷ r) ∙ ap (λ (l : List ℕ). l ++ (escaped xs ++ 34 ∷ r)) c.spelled, more.1)), ap₂ (λ (a b : List ℕ). a ++ b) c.means more.2)

pub quoted_front : (xs r : List ℕ) → quoted xs ++ r ≡ 34 ∷ (escaped xs ++ 34 ∷ r)
unfolding quoted
quoted_front xs r = ap (λ (l : List ℕ). 34 ∷ l) (append_assoc (escaped xs) (34 ∷ []) r)

-- it is a string in front of anything
pub string_before : (xs r : List ℕ) → String (quoted xs ++ r) r
string_before xs r = let k = chars_of xs r in (k.0, (escaped xs ++ 34 ∷ r, quoted_front xs r, k.1))

pub quoted_unescapes : (xs : List ℕ) → Unescapes (quoted xs) xs
unfolding quoted
quoted_unescapes xs = let k = chars_of xs [] in (k.0, escaped xs ++ 34 ∷ [], refl, k.1, sym k.2)
