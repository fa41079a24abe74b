-- What may follow inside a string and inside a number, a byte at a time. Only private clauses cite it.
use Rattle.std.specs.Prelude.{◌≡◌, ℕ, List, Bool, true, false, not, cond, ◌&&◌, ◌||◌, ◌==◌}
use Rattle.ch_base.specs.Grammar.{Rule, Byte, One, ◌then◌, ◌or◌, Maybe, Many}
use Rattle.ch_base.specs.JsonText.{is_digit, is_digit_1_to_9, is_e, is_sign, Digits, Whole, Fraction, Exponent, is_hex, is_d, is_8_to_b, is_c_to_f, is_unescaped, is_short, Char, Chars}

-- ---- strings

-- where the next byte of a string stands
pub data InString : Type 0 where
  chars : InString
  escape : InString
  digits4 : InString
  after_d : InString
  digits3 : InString
  digits2 : InString
  digits1 : InString
  high2 : InString
  high1 : InString
  low_backslash : InString
  low_u : InString
  low_first : InString
  low_second : InString

abbrev pub is_other_hex : ℕ → Bool
is_other_hex x = is_hex x && not (is_d x)

abbrev pub is_0_to_7 : ℕ → Bool
is_0_to_7 x = is_hex x && not (is_8_to_b x || is_c_to_f x)

-- a byte ends the string, goes on in it, or can't stand there
pub data StringStep : Type 0 where
  ends : StringStep
  on : InString → StringStep
  fault : StringStep

abbrev pub to_if : Bool → InString → StringStep
to_if ok next = cond ok (on next) fault

unfoldable pub string_step : InString → ℕ → StringStep
string_step chars b = cond (b == 34) ends (cond (b == 92) (on escape) (to_if (is_unescaped b) chars))
string_step escape b = cond (is_short b) (on chars) (to_if (b == 117) digits4)
string_step digits4 b = cond (is_d b) (on after_d) (to_if (is_other_hex b) digits3)
string_step after_d b = cond (is_8_to_b b) (on high2) (to_if (is_0_to_7 b) digits2)
string_step digits3 b = to_if (is_hex b) digits2
string_step digits2 b = to_if (is_hex b) digits1
string_step digits1 b = to_if (is_hex b) chars
string_step high2 b = to_if (is_hex b) high1
string_step high1 b = to_if (is_hex b) low_backslash
string_step low_backslash b = to_if (b == 92) low_u
string_step low_u b = to_if (b == 117) low_first
string_step low_first b = to_if (is_d b) low_second
string_step low_second b = to_if (is_c_to_f b) digits2

-- the rest of the string, with its quote
abbrev pub AnyChars : Rule
AnyChars t r = (cs : List Char) × Chars cs t r

abbrev pub Digits1 : Rule
Digits1 = One is_hex then AnyChars

abbrev pub Digits2 : Rule
Digits2 = One is_hex then Digits1

abbrev pub Digits3 : Rule
Digits3 = One is_hex then Digits2

abbrev pub LowSecond : Rule
LowSecond = One is_c_to_f then Digits2

abbrev pub LowFirst : Rule
LowFirst = One is_d then LowSecond

abbrev pub LowU : Rule
LowU = Byte 117 then LowFirst

abbrev pub LowBackslash : Rule
LowBackslash = Byte 92 then LowU

abbrev pub High1 : Rule
High1 = One is_hex then LowBackslash

abbrev pub High2 : Rule
High2 = One is_hex then High1

abbrev pub AfterD : Rule
AfterD = (One is_8_to_b then High2) or (One is_0_to_7 then Digits2)

abbrev pub Digits4 : Rule
Digits4 = (One is_d then AfterD) or (One is_other_hex then Digits3)

abbrev pub Escape : Rule
Escape = (One is_short then AnyChars) or (Byte 117 then Digits4)

abbrev pub RestOfString : InString → Rule
RestOfString chars = AnyChars
RestOfString escape = Escape
RestOfString digits4 = Digits4
RestOfString after_d = AfterD
RestOfString digits3 = Digits3
RestOfString digits2 = Digits2
RestOfString digits1 = Digits1
RestOfString high2 = High2
RestOfString high1 = High1
RestOfString low_backslash = LowBackslash
RestOfString low_u = LowU
RestOfString low_first = LowFirst
RestOfString low_second = LowSecond

abbrev pub AfterStringStep : StringStep → Rule
AfterStringStep ends t r = r ≡ t
AfterStringStep (on q) t r = RestOfString q t r
AfterStringStep fault t r = ⊥

-- ---- numbers

-- where the next byte of a number stands
pub data InNumber : Type 0 where
  minus : InNumber
  zero : InNumber
  whole : InNumber
  point : InNumber
  fraction : InNumber
  e : InNumber
  sign : InNumber
  exponent : InNumber

-- the number goes on with this byte, or the byte is none of its
pub data NumberStep : Type 0 where
  more : InNumber → NumberStep
  stop : NumberStep

abbrev pub more_if : Bool → InNumber → NumberStep
more_if ok next = cond ok (more next) stop

unfoldable pub number_step : InNumber → ℕ → NumberStep
number_step minus b = cond (b == 48) (more zero) (more_if (is_digit_1_to_9 b) whole)
number_step zero b = cond (b == 46) (more point) (more_if (is_e b) e)
number_step whole b = cond (is_digit b) (more whole) (cond (b == 46) (more point) (more_if (is_e b) e))
number_step point b = more_if (is_digit b) fraction
number_step fraction b = cond (is_digit b) (more fraction) (more_if (is_e b) e)
number_step e b = cond (is_sign b) (more sign) (more_if (is_digit b) exponent)
number_step sign b = more_if (is_digit b) exponent
number_step exponent b = more_if (is_digit b) exponent

-- a number may end here
abbrev pub may_end : InNumber → Bool
may_end minus = false
may_end zero = true
may_end whole = true
may_end point = false
may_end fraction = true
may_end e = false
may_end sign = false
may_end exponent = true

abbrev pub AfterWhole : Rule
AfterWhole = Maybe Fraction then Maybe Exponent

abbrev pub AfterE : Rule
AfterE = Maybe (One is_sign) then Digits

abbrev pub RestOfNumber : InNumber → Rule
RestOfNumber minus = Whole then AfterWhole
RestOfNumber zero = AfterWhole
RestOfNumber whole = Many is_digit then AfterWhole
RestOfNumber point = Digits then Maybe Exponent
RestOfNumber fraction = Many is_digit then Maybe Exponent
RestOfNumber e = AfterE
RestOfNumber sign = Digits
RestOfNumber exponent = Many is_digit

abbrev pub AfterNumberStep : NumberStep → Rule
AfterNumberStep (more q) t r = RestOfNumber q t r
AfterNumberStep stop t r = ⊥
