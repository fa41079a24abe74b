-- The examples compute.
use Rattle.std.proofs.Common.{refl}
use Rattle.ch_rate.specs.QuietExamples.{QuietExamples}
use Rattle.ch_rate.specs.RateExamples.{RateExamples}

pub rate_examples : RateExamples
rate_examples = record {
  none_before = refl;
  nine_before = refl;
  ten_before = refl;
  too_soon = refl;
  a_second_later = refl;
  tenth_last_counts = refl;
  first_does_not = refl;
  kept = refl;
}

pub quiet_examples : QuietExamples
quiet_examples = record {
  quiet = refl;
  two_minutes = refl;
  ping_is_out = refl;
  nothing_is_out = refl;
  one_ping = refl;
  no_answer = refl;
  answered = refl;
}
