-- The examples compute.
use Rattle.std.proofs.Common.{refl}
use Rattle.std.specs.Str.{is_utf8, chars}
use Rattle.std.specs.Char.{encode_utf8}
use Rattle.std.specs.Fmt.{digits}
use Rattle.hex.specs.Hex.{decode_pairs}
use Rattle.ch_base.specs.Escape.{escaped_byte, quoted}
use Rattle.ch_base.specs.ErrorTexts.{error_text}
use Rattle.ch_transcript.specs.Examples.{Lines, OnePublish, Excepted}
use Rattle.ch_transcript.specs.RoundExamples.{Killed, Ticks, Others}

pub lines : Lines
unfolding is_utf8 chars encode_utf8 digits decode_pairs
lines = record {
  empty = refl;
  comment = refl;
  no_command = refl;
  leading_zero = refl;
  carriage_return = refl;
  target = refl;
  empty_target = refl;
  no_target = refl;
  said = refl;
  nothing_said = refl;
  joined = refl;
  no_channel = refl;
  posted = refl;
  gotten = refl;
  no_query = refl;
  other_method = refl;
  question = refl;
  bytes = refl;
  no_bytes = refl;
  odd = refl;
  excepted = refl;
  hooks = refl;
  two_words = refl;
}

pub one_publish : OnePublish
unfolding digits escaped_byte quoted error_text
one_publish = refl

pub excepted : Excepted
unfolding digits escaped_byte quoted
excepted = refl

pub killed : Killed
unfolding digits escaped_byte quoted error_text
killed = record {
  text = refl;
  sockets = refl;
}

pub ticks : Ticks
unfolding digits escaped_byte quoted error_text
ticks = record {
  early = refl;
  ping = refl;
  is_out = refl;
  waits = refl;
  ends = refl;
  is_ended = refl;
}

pub others : Others
unfolding digits escaped_byte quoted error_text
others = record {
  opened = refl;
  is_open = refl;
  refused = refl;
  refused_counts = refl;
  tail = refl;
  no_shard = refl;
}
