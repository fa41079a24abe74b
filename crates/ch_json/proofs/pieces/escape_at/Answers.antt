use Rattle.std.proofs.Common.{arith, sym, subst, ap, ap₂, ◌∙◌, ◌≡◌, ◌+◌, ◌-◌, ◌*◌, ◌<◌, ◌≤◌, ℕ, length, get_or, true, false, Option, Some}
use Rattle.std.specs.Option.{SomeIff}
use Rattle.std.specs.Char.{IsScalar, InScalarRange}
use Rattle.ch_base.specs.JsonText.{is_short, short_value}
use Rattle.ch_json.specs.Pieces.{AreHex}
use Rattle.ch_json.proofs.Digits.{IsPairOf, pair_scalar}
use Rattle.ch_json.proofs.Escapes.{escaped_at, letter_inside, short_letter, unit_inside, unit_hex, value_at, is_high, one_scalar, low_half, short_piece, unit_piece, pair_piece}
use Rattle.ch_json.proofs.pieces.escape_at.Goals as goal

some_value : (o : Option ℕ) (x v : ℕ) → o ≡ Some x → SomeIff o (IsScalar v) v → x ≡ v
some_value o x v e h = (subst (λ y. SomeIff y (IsScalar v) v) e h).1

pub bounds-bytes-at : goal.bounds-bytes-at
bounds-bytes-at c =
    let bs = c.args.string.now in
    let at = c.args.at in
    let same = c.as_bytes-bytes.ensures.value in
    let first = escaped_at bs at c.requires.rest.chars c.requires.backslash c.requires.rest.follow in
    let inside : at + 1 < length bs = letter_inside bs at c.requires.rest.chars first in
    omega (arith, ap length same)

pub short_char-requires : goal.short_char-requires
short_char-requires c =
    let bs = c.args.string.now in
    let at = c.args.at in
    let same = c.as_bytes-bytes.ensures.value in
    let first = escaped_at bs at c.requires.rest.chars c.requires.backslash c.requires.rest.follow in
    let ne = subst (λ l. get_or l (at + 1) 0 ≡ 117 → ⊥) same c.if-letter-ne117.true in
    subst (λ l. is_short (get_or l (at + 1) 0) ≡ true) (sym same) (short_letter bs at c.requires.rest.chars first ne)

pub returns-then-letter-ne117 : goal.returns-then-letter-ne117
returns-then-letter-ne117 c = λ cs h.
    let bs = c.args.string.now in
    let at = c.args.at in
    let same = c.as_bytes-bytes.ensures.value in
    let ne = subst (λ l. get_or l (at + 1) 0 ≡ 117 → ⊥) same c.if-letter-ne117.true in
    short_piece bs at cs c.short_char.result c.utf8.string (escaped_at bs at cs c.requires.backslash h) ne (c.short_char.ensures.value ∙ ap (λ l. short_value (get_or l (at + 1) 0)) same) c.short_char.ensures.ascii

pub hex_unit-unit-requires-clause-within : goal.hex_unit-unit-requires-clause-within
hex_unit-unit-requires-clause-within c =
    let bs = c.args.string.now in
    let at = c.args.at in
    let same = c.as_bytes-bytes.ensures.value in
    let first = escaped_at bs at c.requires.rest.chars c.requires.backslash c.requires.rest.follow in
    let is_u : get_or bs (at + 1) 0 ≡ 117 = subst (λ l. get_or l (at + 1) 0 ≡ 117) same c.if-letter-ne117.false in
    let inside : at + 6 ≤ length bs = unit_inside bs at c.requires.rest.chars first is_u in
    omega (arith, ap length same)

pub hex_unit-unit-requires-clause-hex : goal.hex_unit-unit-requires-clause-hex
hex_unit-unit-requires-clause-hex c =
    let bs = c.args.string.now in
    let at = c.args.at in
    let same = c.as_bytes-bytes.ensures.value in
    let first = escaped_at bs at c.requires.rest.chars c.requires.backslash c.requires.rest.follow in
    let is_u : get_or bs (at + 1) 0 ≡ 117 = subst (λ l. get_or l (at + 1) 0 ≡ 117) same c.if-letter-ne117.false in
    subst (λ l. AreHex l (at + 2)) (sym same) (unit_hex bs at c.requires.rest.chars first is_u)

pub is_high_surrogate-requires : goal.is_high_surrogate-requires
is_high_surrogate-requires c =
    let bs = c.args.string.now in
    let at = c.args.at in
    let same = c.as_bytes-bytes.ensures.value in
    let first = escaped_at bs at c.requires.rest.chars c.requires.backslash c.requires.rest.follow in
    let is_u : get_or bs (at + 1) 0 ≡ 117 = subst (λ l. get_or l (at + 1) 0 ≡ 117) same c.if-letter-ne117.false in
    let inside : at + 6 ≤ length bs = unit_inside bs at c.requires.rest.chars first is_u in
    omega (arith, ap length same)

pub unwrap-requires : goal.unwrap-requires
unwrap-requires c =
    let bs = c.args.string.now in
    let at = c.args.at in
    let same = c.as_bytes-bytes.ensures.value in
    let first = escaped_at bs at c.requires.rest.chars c.requires.backslash c.requires.rest.follow in
    let is_u : get_or bs (at + 1) 0 ≡ 117 = subst (λ l. get_or l (at + 1) 0 ≡ 117) same c.if-letter-ne117.false in
    let unit : value_at bs (at + 2) ≡ c.hex_unit-unit.result = sym (c.hex_unit-unit.ensures ∙ ap (λ l. value_at l (at + 2)) same) in
    let choice : is_high bs (at + 2) ≡ false = sym (c.is_high_surrogate.ensures ∙ ap (λ l. is_high l (at + 2)) same) ∙ c.if-not-is_high_surrogate.true in
    c.from_u32.ensures.succeeds (subst InScalarRange unit (one_scalar bs at c.requires.rest.chars first is_u choice))

pub returns-then-not-is_high_surrogate : goal.returns-then-not-is_high_surrogate
returns-then-not-is_high_surrogate c = λ cs h.
    let bs = c.args.string.now in
    let at = c.args.at in
    let same = c.as_bytes-bytes.ensures.value in
    let first = escaped_at bs at c.requires.rest.chars c.requires.backslash c.requires.rest.follow in
    let is_u : get_or bs (at + 1) 0 ≡ 117 = subst (λ l. get_or l (at + 1) 0 ≡ 117) same c.if-letter-ne117.false in
    let unit : value_at bs (at + 2) ≡ c.hex_unit-unit.result = sym (c.hex_unit-unit.ensures ∙ ap (λ l. value_at l (at + 2)) same) in
    let choice : is_high bs (at + 2) ≡ false = sym (c.is_high_surrogate.ensures ∙ ap (λ l. is_high l (at + 2)) same) ∙ c.if-not-is_high_surrogate.true in
    unit_piece bs at cs c.unwrap.result c.utf8.string (escaped_at bs at cs c.requires.backslash h) is_u choice (some_value _ _ _ c.unwrap.ensures c.from_u32.ensures.value ∙ sym unit)

pub hex_unit-low-requires-clause-within : goal.hex_unit-low-requires-clause-within
hex_unit-low-requires-clause-within c =
    let bs = c.args.string.now in
    let at = c.args.at in
    let same = c.as_bytes-bytes.ensures.value in
    let first = escaped_at bs at c.requires.rest.chars c.requires.backslash c.requires.rest.follow in
    let is_u : get_or bs (at + 1) 0 ≡ 117 = subst (λ l. get_or l (at + 1) 0 ≡ 117) same c.if-letter-ne117.false in
    let choice : is_high bs (at + 2) ≡ true = sym (c.is_high_surrogate.ensures ∙ ap (λ l. is_high l (at + 2)) same) ∙ c.if-not-is_high_surrogate.false in
    let half = low_half bs at c.requires.rest.chars first is_u choice in
    let inside : at + 12 ≤ length bs = half.inside in
    omega (arith, ap length same)

pub hex_unit-low-requires-clause-hex : goal.hex_unit-low-requires-clause-hex
hex_unit-low-requires-clause-hex c =
    let bs = c.args.string.now in
    let at = c.args.at in
    let same = c.as_bytes-bytes.ensures.value in
    let first = escaped_at bs at c.requires.rest.chars c.requires.backslash c.requires.rest.follow in
    let is_u : get_or bs (at + 1) 0 ≡ 117 = subst (λ l. get_or l (at + 1) 0 ≡ 117) same c.if-letter-ne117.false in
    let choice : is_high bs (at + 2) ≡ true = sym (c.is_high_surrogate.ensures ∙ ap (λ l. is_high l (at + 2)) same) ∙ c.if-not-is_high_surrogate.false in
    let half = low_half bs at c.requires.rest.chars first is_u choice in
    subst (λ l. AreHex l (at + 8)) (sym same) half.hex

pub overflow_sub-code : goal.overflow_sub-code
overflow_sub-code c =
    let bs = c.args.string.now in
    let at = c.args.at in
    let same = c.as_bytes-bytes.ensures.value in
    let first = escaped_at bs at c.requires.rest.chars c.requires.backslash c.requires.rest.follow in
    let is_u : get_or bs (at + 1) 0 ≡ 117 = subst (λ l. get_or l (at + 1) 0 ≡ 117) same c.if-letter-ne117.false in
    let unit : value_at bs (at + 2) ≡ c.hex_unit-unit.result = sym (c.hex_unit-unit.ensures ∙ ap (λ l. value_at l (at + 2)) same) in
    let choice : is_high bs (at + 2) ≡ true = sym (c.is_high_surrogate.ensures ∙ ap (λ l. is_high l (at + 2)) same) ∙ c.if-not-is_high_surrogate.false in
    let half = low_half bs at c.requires.rest.chars first is_u choice in
    let low : value_at bs (at + 8) ≡ c.hex_unit-low.result = sym (c.hex_unit-low.ensures ∙ ap (λ l. value_at l (at + 8)) same) in
    let numbers = subst (λ i. IsPairOf i c.hex_unit-low.result) unit (subst (λ i. IsPairOf (value_at bs (at + 2)) i) low half.numbers) in
    omega (arith, numbers.high_from, numbers.high_to, numbers.low_from, numbers.low_to)

pub overflow_mul-code : goal.overflow_mul-code
overflow_mul-code c =
    let bs = c.args.string.now in
    let at = c.args.at in
    let same = c.as_bytes-bytes.ensures.value in
    let first = escaped_at bs at c.requires.rest.chars c.requires.backslash c.requires.rest.follow in
    let is_u : get_or bs (at + 1) 0 ≡ 117 = subst (λ l. get_or l (at + 1) 0 ≡ 117) same c.if-letter-ne117.false in
    let unit : value_at bs (at + 2) ≡ c.hex_unit-unit.result = sym (c.hex_unit-unit.ensures ∙ ap (λ l. value_at l (at + 2)) same) in
    let choice : is_high bs (at + 2) ≡ true = sym (c.is_high_surrogate.ensures ∙ ap (λ l. is_high l (at + 2)) same) ∙ c.if-not-is_high_surrogate.false in
    let half = low_half bs at c.requires.rest.chars first is_u choice in
    let low : value_at bs (at + 8) ≡ c.hex_unit-low.result = sym (c.hex_unit-low.ensures ∙ ap (λ l. value_at l (at + 8)) same) in
    let numbers = subst (λ i. IsPairOf i c.hex_unit-low.result) unit (subst (λ i. IsPairOf (value_at bs (at + 2)) i) low half.numbers) in
    omega (arith, numbers.high_from, numbers.high_to, numbers.low_from, numbers.low_to)

pub overflow_add-code : goal.overflow_add-code
overflow_add-code c =
    let bs = c.args.string.now in
    let at = c.args.at in
    let same = c.as_bytes-bytes.ensures.value in
    let first = escaped_at bs at c.requires.rest.chars c.requires.backslash c.requires.rest.follow in
    let is_u : get_or bs (at + 1) 0 ≡ 117 = subst (λ l. get_or l (at + 1) 0 ≡ 117) same c.if-letter-ne117.false in
    let unit : value_at bs (at + 2) ≡ c.hex_unit-unit.result = sym (c.hex_unit-unit.ensures ∙ ap (λ l. value_at l (at + 2)) same) in
    let choice : is_high bs (at + 2) ≡ true = sym (c.is_high_surrogate.ensures ∙ ap (λ l. is_high l (at + 2)) same) ∙ c.if-not-is_high_surrogate.false in
    let half = low_half bs at c.requires.rest.chars first is_u choice in
    let low : value_at bs (at + 8) ≡ c.hex_unit-low.result = sym (c.hex_unit-low.ensures ∙ ap (λ l. value_at l (at + 8)) same) in
    let numbers = subst (λ i. IsPairOf i c.hex_unit-low.result) unit (subst (λ i. IsPairOf (value_at bs (at + 2)) i) low half.numbers) in
    omega (arith, numbers.high_from, numbers.high_to, numbers.low_from, numbers.low_to)

pub overflow_sub-code-2 : goal.overflow_sub-code-2
overflow_sub-code-2 c =
    let bs = c.args.string.now in
    let at = c.args.at in
    let same = c.as_bytes-bytes.ensures.value in
    let first = escaped_at bs at c.requires.rest.chars c.requires.backslash c.requires.rest.follow in
    let is_u : get_or bs (at + 1) 0 ≡ 117 = subst (λ l. get_or l (at + 1) 0 ≡ 117) same c.if-letter-ne117.false in
    let unit : value_at bs (at + 2) ≡ c.hex_unit-unit.result = sym (c.hex_unit-unit.ensures ∙ ap (λ l. value_at l (at + 2)) same) in
    let choice : is_high bs (at + 2) ≡ true = sym (c.is_high_surrogate.ensures ∙ ap (λ l. is_high l (at + 2)) same) ∙ c.if-not-is_high_surrogate.false in
    let half = low_half bs at c.requires.rest.chars first is_u choice in
    let low : value_at bs (at + 8) ≡ c.hex_unit-low.result = sym (c.hex_unit-low.ensures ∙ ap (λ l. value_at l (at + 8)) same) in
    let numbers = subst (λ i. IsPairOf i c.hex_unit-low.result) unit (subst (λ i. IsPairOf (value_at bs (at + 2)) i) low half.numbers) in
    omega (arith, numbers.high_from, numbers.high_to, numbers.low_from, numbers.low_to)

pub overflow_add-code-2 : goal.overflow_add-code-2
overflow_add-code-2 c =
    let bs = c.args.string.now in
    let at = c.args.at in
    let same = c.as_bytes-bytes.ensures.value in
    let first = escaped_at bs at c.requires.rest.chars c.requires.backslash c.requires.rest.follow in
    let is_u : get_or bs (at + 1) 0 ≡ 117 = subst (λ l. get_or l (at + 1) 0 ≡ 117) same c.if-letter-ne117.false in
    let unit : value_at bs (at + 2) ≡ c.hex_unit-unit.result = sym (c.hex_unit-unit.ensures ∙ ap (λ l. value_at l (at + 2)) same) in
    let choice : is_high bs (at + 2) ≡ true = sym (c.is_high_surrogate.ensures ∙ ap (λ l. is_high l (at + 2)) same) ∙ c.if-not-is_high_surrogate.false in
    let half = low_half bs at c.requires.rest.chars first is_u choice in
    let low : value_at bs (at + 8) ≡ c.hex_unit-low.result = sym (c.hex_unit-low.ensures ∙ ap (λ l. value_at l (at + 8)) same) in
    let numbers = subst (λ i. IsPairOf i c.hex_unit-low.result) unit (subst (λ i. IsPairOf (value_at bs (at + 2)) i) low half.numbers) in
    omega (arith, numbers.high_from, numbers.high_to, numbers.low_from, numbers.low_to)

pub unwrap-requires-2 : goal.unwrap-requires-2
unwrap-requires-2 c =
    let bs = c.args.string.now in
    let at = c.args.at in
    let same = c.as_bytes-bytes.ensures.value in
    let first = escaped_at bs at c.requires.rest.chars c.requires.backslash c.requires.rest.follow in
    let is_u : get_or bs (at + 1) 0 ≡ 117 = subst (λ l. get_or l (at + 1) 0 ≡ 117) same c.if-letter-ne117.false in
    let unit : value_at bs (at + 2) ≡ c.hex_unit-unit.result = sym (c.hex_unit-unit.ensures ∙ ap (λ l. value_at l (at + 2)) same) in
    let choice : is_high bs (at + 2) ≡ true = sym (c.is_high_surrogate.ensures ∙ ap (λ l. is_high l (at + 2)) same) ∙ c.if-not-is_high_surrogate.false in
    let half = low_half bs at c.requires.rest.chars first is_u choice in
    let low : value_at bs (at + 8) ≡ c.hex_unit-low.result = sym (c.hex_unit-low.ensures ∙ ap (λ l. value_at l (at + 8)) same) in
    let numbers = subst (λ i. IsPairOf i c.hex_unit-low.result) unit (subst (λ i. IsPairOf (value_at bs (at + 2)) i) low half.numbers) in
    c.from_u32-2.ensures.succeeds (pair_scalar c.hex_unit-unit.result c.hex_unit-low.result numbers)

pub returns : goal.returns
returns c = λ cs h.
    let bs = c.args.string.now in
    let at = c.args.at in
    let same = c.as_bytes-bytes.ensures.value in
    let first = escaped_at bs at c.requires.rest.chars c.requires.backslash c.requires.rest.follow in
    let is_u : get_or bs (at + 1) 0 ≡ 117 = subst (λ l. get_or l (at + 1) 0 ≡ 117) same c.if-letter-ne117.false in
    let unit : value_at bs (at + 2) ≡ c.hex_unit-unit.result = sym (c.hex_unit-unit.ensures ∙ ap (λ l. value_at l (at + 2)) same) in
    let choice : is_high bs (at + 2) ≡ true = sym (c.is_high_surrogate.ensures ∙ ap (λ l. is_high l (at + 2)) same) ∙ c.if-not-is_high_surrogate.false in
    let low : value_at bs (at + 8) ≡ c.hex_unit-low.result = sym (c.hex_unit-low.ensures ∙ ap (λ l. value_at l (at + 8)) same) in
    let code : c.unwrap-2.result ≡ 0x10000 + (value_at bs (at + 2) - 0xd800) * 1024 + (value_at bs (at + 8) - 0xdc00) =
    some_value _ _ _ c.unwrap-2.ensures c.from_u32-2.ensures.value ∙ sym (ap₂ (λ i j. 0x10000 + (i - 0xd800) * 1024 + (j - 0xdc00)) unit low) in
    pair_piece bs at cs c.unwrap-2.result c.utf8.string (escaped_at bs at cs c.requires.backslash h) is_u choice code
