-- The examples compute.
use Rattle.std.proofs.Common.{refl}
use Rattle.std.specs.Fmt.{digits}
use Rattle.hex.specs.Hex.{encode_with}
use Rattle.httparse.specs.Grammar.{trim_ows}
use Rattle.md5.specs.Md5 as md
use Rattle.sha2.specs.Sha256.{sha256, digest_bytes, hash_after, compress, rounds, schedule, first_words}
use Rattle.ch_base.specs.Escape.{escaped_byte, quoted}
use Rattle.ch_sig.specs.Hmac.{hmac}
use Rattle.ch_requests.specs.AuthorizationExamples.{AuthorizationExamples}
use Rattle.ch_requests.specs.Examples.{Routes, Looks, Bodies}
use Rattle.ch_requests.specs.PlanExamples.{EventPlans, QueryPlans}

pub routes : Routes
routes = record {
  events = refl;
  channels = refl;
  channel = refl;
  no_name = refl;
  users = refl;
  terminate = refl;
  other_app = refl;
  no_path = refl;
  absolute = refl;
}

pub looks : Looks
unfolding trim_ows
looks = record {
  any_case = refl;
  not_a_part = refl;
  none = refl;
  one = refl;
  same = refl;
  differing = refl;
  listed = refl;
  coded = refl;
  twice = refl;
  once = refl;
}

pub bodies : Bodies
unfolding digits escaped_byte quoted
bodies = record {
  nothing = refl;
  counts = refl;
  ascending = refl;
  one_channel = refl;
  cached = refl;
  not_cached = refl;
  users = refl;
  refused = refl;
}

pub authorization_examples : AuthorizationExamples
unfolding hmac encode_with sha256 digest_bytes hash_after compress rounds schedule first_words md.md5 md.digest_bytes md.hash_after md.compress md.rounds md.block_words
authorization_examples = record {
  post = refl;
  ten_minutes_late = refl;
  ten_minutes_early = refl;
  too_late = refl;
  too_early = refl;
  other_body = refl;
  get = refl;
  other_signature = refl;
  upper_case = refl;
  twice = refl;
  no_time = refl;
  sixteen_digits = refl;
  sign = refl;
}

pub event_plans : EventPlans
unfolding digits
event_plans = record {
  one = refl;
  two = refl;
  told = refl;
  excepted = refl;
  of_a_stranger = refl;
  for_a_user = refl;
  longest = refl;
  too_long = refl;
  fault = refl;
  fault_of_a_batch = refl;
}

pub query_plans : QueryPlans
query_plans = record {
  channels = refl;
  users_of_all = refl;
  users_of_presence = refl;
  channel = refl;
  cached = refl;
  never_cached = refl;
  unknown_of_all = refl;
  bad_channel = refl;
  users_of_one = refl;
  nobody_is_there = refl;
  ends = refl;
  unauthorized = refl;
}
