-- The states of `specs/Scalars.antt` that the code's enums stand for.
use Rattle.ch_json.specs.Scalars as spec
use Rattle.ch_json.specs.declared.string_state.InString.{InString}
use Rattle.ch_json.specs.declared.string_state.InString.TheVariants.{Chars, Escape, Digits4, AfterD, Digits3, Digits2, Digits1, High2, High1, LowBackslash, LowU, LowFirst, LowSecond}
use Rattle.ch_json.specs.declared.string_state.StringStep.{StringStep}
use Rattle.ch_json.specs.declared.string_state.StringStep.TheVariants.{Ends, On, Fault}
use Rattle.ch_json.specs.declared.number_state.InNumber.{InNumber}
use Rattle.ch_json.specs.declared.number_state.InNumber.TheVariants.{Minus, Zero, Whole, Point, Fraction, E, Sign, Exponent}
use Rattle.ch_json.specs.declared.number_state.NumberStep.{NumberStep}
use Rattle.ch_json.specs.declared.number_state.NumberStep.TheVariants.{More, Stop}

abbrev pub in_string_of : InString → spec.InString
in_string_of Chars = spec.chars
in_string_of Escape = spec.escape
in_string_of Digits4 = spec.digits4
in_string_of AfterD = spec.after_d
in_string_of Digits3 = spec.digits3
in_string_of Digits2 = spec.digits2
in_string_of Digits1 = spec.digits1
in_string_of High2 = spec.high2
in_string_of High1 = spec.high1
in_string_of LowBackslash = spec.low_backslash
in_string_of LowU = spec.low_u
in_string_of LowFirst = spec.low_first
in_string_of LowSecond = spec.low_second

abbrev pub string_step_of : StringStep → spec.StringStep
string_step_of Ends = spec.ends
string_step_of (On q) = spec.on (in_string_of q)
string_step_of Fault = spec.fault

abbrev pub in_number_of : InNumber → spec.InNumber
in_number_of Minus = spec.minus
in_number_of Zero = spec.zero
in_number_of Whole = spec.whole
in_number_of Point = spec.point
in_number_of Fraction = spec.fraction
in_number_of E = spec.e
in_number_of Sign = spec.sign
in_number_of Exponent = spec.exponent

abbrev pub number_step_of : NumberStep → spec.NumberStep
number_step_of (More q) = spec.more (in_number_of q)
number_step_of Stop = spec.stop
