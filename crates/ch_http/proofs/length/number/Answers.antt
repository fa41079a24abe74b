use Rattle.std.proofs.Common.{◌≡◌, ◌+◌, ◌*◌, take, arith}
use Rattle.std.specs.Str.Parse.{digits_value}
use Rattle.std.proofs.lemmas.Int.Digits.{digits_value_more}
use Rattle.ch_http.proofs.LengthLemmas.{digits_from_test, number-lt, digit_in}
use Rattle.ch_http.proofs.length.number.Goals as goal

pub overflow_mul-number : goal.overflow_mul-number
overflow_mul-number c =
    let value = c.args.digits.now in
    let i = c.digits.digit-index in
    let below = number-lt value (i + 1) (digits_from_test value c.requires) in
    let more = digits_value_more 10 value i c.digits-test.true in
    omega (arith, below, more, c.digits.invariant)

pub overflow_add-number : goal.overflow_add-number
overflow_add-number c =
    let value = c.args.digits.now in
    let i = c.digits.digit-index in
    let digits = digits_from_test value c.requires in
    let below = number-lt value (i + 1) digits in
    let more = digits_value_more 10 value i c.digits-test.true in
    let digit = digit_in value i digits c.digits-test.true in
    omega (arith, below, more, digit, c.digits.invariant, c.from.ensures)

pub digits-preserved : goal.digits-preserved
digits-preserved c =
    let value = c.args.digits.now in
    let i = c.digits.digit-index in
    let more = digits_value_more 10 value i c.digits-test.true in
    let digit = digit_in value i (digits_from_test value c.requires) c.digits-test.true in
    let next : c.digits.number * 10 + c.from.result ≡ digits_value 10 (take (i + 1) value) =
    omega (arith, more, digit, c.digits.invariant, c.from.ensures) in
    next
