-- The grammar of RFC 8259, with at most `room` open brackets, and surrogate escapes in pairs only.
-- Each rule relates the text where a part begins to the text after it.
use Rattle.std.specs.Char.{digit_value, encode_utf8}
use Rattle.std.specs.Prelude.{flat_map, cond, ◌*◌, ◌-◌, ◌≡◌, ℕ, suc, zero, ◌+◌, List, [], ◌∷◌, ◌++◌, length, Bool, true, not, ◌&&◌, ◌||◌, ◌==◌, nat_le}
use Rattle.ch_base.specs.declared.limits.TheConstants.{MAX_DEPTH}
use Rattle.ch_base.specs.Grammar.{Rule, Byte, One, Word, ◌then◌, ◌or◌, Maybe, Many}
use Rattle.ch_base.specs.JsonTree.{Span, Plain, null, no, yes, number, string, Tree, plain, array, object, Items, no_items, item, Members, no_members, member}

-- ---- blanks (section 2)

abbrev pub is_blank : ℕ → Bool
is_blank x = (x == 32) || (x == 9) || (x == 10) || (x == 13)

abbrev pub Blanks : Rule
Blanks = Many is_blank

-- ---- numbers (section 6)

abbrev pub is_digit : ℕ → Bool
is_digit x = nat_le 48 x && nat_le x 57

abbrev pub is_digit_1_to_9 : ℕ → Bool
is_digit_1_to_9 x = nat_le 49 x && nat_le x 57

abbrev pub is_e : ℕ → Bool
is_e x = (x == 101) || (x == 69)

abbrev pub is_sign : ℕ → Bool
is_sign x = (x == 43) || (x == 45)

abbrev pub Digits : Rule
Digits = One is_digit then Many is_digit

abbrev pub Whole : Rule
Whole = Byte 48 or One is_digit_1_to_9 then Many is_digit

abbrev pub Fraction : Rule
Fraction = Byte 46 then Digits

abbrev pub Exponent : Rule
Exponent = One is_e then Maybe (One is_sign) then Digits

abbrev pub Number : Rule
Number = Maybe (Byte 45) then Whole then Maybe Fraction then Maybe Exponent

-- ---- strings (section 7)

abbrev pub is_hex : ℕ → Bool
is_hex x = (nat_le 48 x && nat_le x 57) || ((nat_le 65 x && nat_le x 70) || (nat_le 97 x && nat_le x 102))

-- the digit d: each surrogate's first
abbrev pub is_d : ℕ → Bool
is_d x = (x == 100) || (x == 68)

-- the digits 8 to b: a high surrogate's second
abbrev pub is_8_to_b : ℕ → Bool
is_8_to_b x = (x == 56) || (x == 57) || (x == 97) || (x == 98) || (x == 65) || (x == 66)

-- the digits c to f: a low surrogate's second
abbrev pub is_c_to_f : ℕ → Bool
is_c_to_f x = (nat_le 99 x && nat_le x 102) || (nat_le 67 x && nat_le x 70)

-- a byte that stands for itself: no control byte, no quote and no backslash
abbrev pub is_unescaped : ℕ → Bool
is_unescaped x = nat_le 32 x && (not (x == 34) && not (x == 92))

-- what may stand after a backslash, but for u
abbrev pub is_short : ℕ → Bool
is_short x = (x == 34) || (x == 92) || (x == 47) || (x == 98) || (x == 102) || (x == 110) || (x == 114) || (x == 116)

-- a character of a string
pub data Char : Type 0 where
  byte : ℕ → Char
  short : ℕ → Char
  unit : ℕ → ℕ → ℕ → ℕ → Char
  pair : ℕ → ℕ → ℕ → ℕ → ℕ → ℕ → ℕ → ℕ → Char

abbrev pub spelling : Char → List ℕ
spelling (byte x) = x ∷ []
spelling (short x) = 92 ∷ x ∷ []
spelling (unit a b c d) = 92 ∷ 117 ∷ a ∷ b ∷ c ∷ d ∷ []
spelling (pair a b c d e f g h) = 92 ∷ 117 ∷ a ∷ b ∷ c ∷ d ∷ 92 ∷ 117 ∷ e ∷ f ∷ g ∷ h ∷ []

abbrev pub is_char : Char → Bool
is_char (byte x) = is_unescaped x
is_char (short x) = is_short x
is_char (unit a b c d) = (is_hex a && not (is_d a && (is_8_to_b b || is_c_to_f b))) && (is_hex b && (is_hex c && is_hex d))
is_char (pair a b c d e f g h) = (is_d a && is_8_to_b b) && ((is_hex c && is_hex d) && ((is_d e && is_c_to_f f) && (is_hex g && is_hex h)))

-- these characters, up to the closing quote
abbrev pub Chars : List Char → Rule
Chars [] t r = t ≡ 34 ∷ r
Chars (c ∷ cs) t r = (is_char c ≡ true) × ((m : List ℕ) × (t ≡ spelling c ++ m) × Chars cs m r)

abbrev pub String : Rule
String t r = (cs : List Char) × ((m : List ℕ) × (t ≡ 34 ∷ m) × Chars cs m r)

-- ---- values (sections 3 to 5)

-- The part from t to r of a text of n bytes stands here.
abbrev pub IsSpanOf : ℕ → Span → Rule
IsSpanOf n s t r = (s.from + length t ≡ n) × (s.to + length r ≡ n)

abbrev pub PlainValue : Plain → Rule
PlainValue null = Word (110 ∷ 117 ∷ 108 ∷ 108 ∷ [])
PlainValue no = Word (102 ∷ 97 ∷ 108 ∷ 115 ∷ 101 ∷ [])
PlainValue yes = Word (116 ∷ 114 ∷ 117 ∷ 101 ∷ [])
PlainValue number = Number
PlainValue string = String

abbrev mutual
  -- a value of a text of n bytes, with room for so many more open brackets
  pub Value : ℕ → ℕ → Tree → Rule
  Value n room (plain p s) t r = IsSpanOf n s t r × PlainValue p t r
  Value n zero (array vs s) t r = ⊥
  Value n (suc room) (array vs s) t r = IsSpanOf n s t r × ((m : List ℕ) × (t ≡ 91 ∷ m) × Items_ n room vs m r)
  Value n zero (object ms s) t r = ⊥
  Value n (suc room) (object ms s) t r = IsSpanOf n s t r × ((m : List ℕ) × (t ≡ 123 ∷ m) × Members_ n room ms m r)

  -- the values of an array, with the closing bracket
  pub Items_ : ℕ → ℕ → Items → Rule
  Items_ n room no_items t r = (Blanks then Byte 93) t r
  Items_ n room (item v vs) t r = (m : List ℕ) × (k : List ℕ) × Blanks t m × Value n room v m k × MoreItems n room vs k r

  -- what follows a value in an array
  pub MoreItems : ℕ → ℕ → Items → Rule
  MoreItems n room no_items t r = (Blanks then Byte 93) t r
  MoreItems n room (item v vs) t r = (m : List ℕ) × (k : List ℕ) × (Blanks then Byte 44 then Blanks) t m × Value n room v m k × MoreItems n room vs k r

  -- the members of an object, with the closing bracket
  pub Members_ : ℕ → ℕ → Members → Rule
  Members_ n room no_members t r = (Blanks then Byte 125) t r
  Members_ n room (member key v ms) t r =
      (m : List ℕ) × (k : List ℕ) × (j : List ℕ) × (i : List ℕ) × Blanks t m × (IsSpanOf n key m k × String m k) × (Blanks then Byte 58 then Blanks) k j × Value n room v j i × MoreMembers n room ms i r

  pub MoreMembers : ℕ → ℕ → Members → Rule
  MoreMembers n room no_members t r = (Blanks then Byte 125) t r
  MoreMembers n room (member key v ms) t r =
      (m : List ℕ) × (k : List ℕ) × (j : List ℕ) × (i : List ℕ)
      × (Blanks then Byte 44 then Blanks) t m × (IsSpanOf n key m k × String m k) × (Blanks then Byte 58 then Blanks) k j × Value n room v j i × MoreMembers n room ms i r

-- a text with at most `limit` open brackets spells this tree: one value with blanks round it
abbrev pub SpellsWithin : ℕ → List ℕ → Tree → Type 0
SpellsWithin limit text v = (m : List ℕ) × (k : List ℕ) × Blanks text m × Value (length text) limit v m k × Blanks k []

abbrev pub Spells : List ℕ → Tree → Type 0
Spells text v = SpellsWithin MAX_DEPTH text v

-- ---- the unescaped bytes of a string (section 7)

abbrev pub hex_value : ℕ → ℕ → ℕ → ℕ → ℕ
hex_value a b c d = digit_value a * 4096 + digit_value b * 256 + digit_value c * 16 + digit_value d

abbrev pub short_value : ℕ → ℕ
short_value x = cond (x == 98) 8 (cond (x == 102) 12 (cond (x == 110) 10 (cond (x == 114) 13 (cond (x == 116) 9 x))))

-- what a character of a string stands for
abbrev pub char_bytes : Char → List ℕ
char_bytes (byte x) = x ∷ []
char_bytes (short x) = short_value x ∷ []
char_bytes (unit a b c d) = encode_utf8 (hex_value a b c d)
char_bytes (pair a b c d e f g h) = encode_utf8 (0x10000 + (hex_value a b c d - 0xd800) * 1024 + (hex_value e f g h - 0xdc00))

-- the bytes, quotes and all, are a string with this text
abbrev pub Unescapes : List ℕ → List ℕ → Type 0
Unescapes bytes text = (cs : List Char) × (t : List ℕ) × (bytes ≡ 34 ∷ t) × Chars cs t [] × (text ≡ flat_map char_bytes cs)

-- ---- texts by their values

-- the bytes are a JSON text
abbrev pub IsJsonText : List ℕ → Type 0
IsJsonText text = (v : Tree) × Spells text v

-- the bytes are one JSON string, from quote to quote
abbrev pub IsJsonString : List ℕ → Type 0
IsJsonString text = String text []
