-- The examples compute.
use Rattle.std.proofs.Common.{refl}
use Rattle.std.specs.Char.{encode_utf8}
use Rattle.std.specs.Fmt.{digits}
use Rattle.std.specs.Str.{is_utf8, chars}
use Rattle.std.specs.Str.Lossy.{utf8_lossy, utf8_valid_len}
use Rattle.form_urlencoded.specs.Form.{raw_pairs, split}
use Rattle.hex.specs.Hex.{encode_with}
use Rattle.percent_encoding.specs.Percent.{percent_decode}
use Rattle.sha2.specs.Sha256.{sha256, digest_bytes, hash_after, compress, rounds, schedule, first_words}
use Rattle.ch_base.specs.Escape.{escaped_byte, quoted}
use Rattle.ch_sig.specs.Hmac.{hmac}
use Rattle.ch_base.specs.ErrorTexts.{error_text}
use Rattle.ch_protocol.specs.Examples.{Frames}
use Rattle.ch_protocol.specs.TargetExamples.{TargetExamples}
use Rattle.ch_protocol.specs.SessionExamples.{Subscribes, SayExamples, SignsIn, Authorized, Outcomes, Settled}

pub frames : Frames
unfolding digits escaped_byte error_text quoted
frames = record {
  opened = refl;
  error = refl;
  unknown_error = refl;
  ping = refl;
  pong = refl;
  succeeded = refl;
  present = refl;
  added = refl;
  removed = refl;
  event = refl;
  client_event = refl;
  miss = refl;
  signed_in = refl;
  online = refl;
  offline = refl;
  kill = refl;
}

pub target_examples : TargetExamples
unfolding raw_pairs split utf8_lossy utf8_valid_len percent_decode is_utf8 chars encode_utf8
target_examples = record {
  opens = refl;
  of_a_browser = refl;
  encoded_name = refl;
  first_counts = refl;
  empty = refl;
  other_path = refl;
  no_key = refl;
  more_parts = refl;
  other_key = refl;
  no_query = refl;
  other_case = refl;
  letter = refl;
  no_version = refl;
  older = refl;
  leading_zero = refl;
}

pub subscribes : Subscribes
unfolding digits hmac encode_with sha256 digest_bytes
subscribes = record {
  public = refl;
  no_auth = refl;
  wrong_auth = refl;
  nobody = refl;
  own_channel = refl;
  own_channel_of_another = refl;
  own_channel_signed_in = refl;
  the_last = refl;
  too_many = refl;
  own_one_more = refl;
  ends = refl;
  own_one_stays = refl;
}

pub says : SayExamples
says = record {
  ping = refl;
  pong = refl;
  no_message = refl;
  private = refl;
  public = refl;
  encrypted = refl;
  too_soon = refl;
  a_second_later = refl;
  refused_ones_dont_count = refl;
}

pub signs_in : SignsIn
unfolding digits hmac encode_with sha256 digest_bytes
signs_in = record {
  nobody = refl;
  again = refl;
  wrong_auth = refl;
}

pub authorized : Authorized
unfolding digits hmac encode_with sha256 digest_bytes hash_after compress rounds schedule first_words
authorized = record {
  private = refl;
  upper_case = refl;
  user = refl;
}

pub outcomes : Outcomes
outcomes = record {
  joined = refl;
  already = refl;
  not_on = refl;
  crowded = refl;
  signed_in = refl;
  watching = refl;
  no_memory = refl;
  no_memory_later = refl;
}

pub settled : Settled
settled = record {
  subscriptions = refl;
  user = refl;
  no_user = refl;
  events = refl;
}
