-- The examples, and the built-in text, compute.
use Rattle.std.proofs.Common.{refl}
use Rattle.std.specs.Str.{is_utf8, chars}
use Rattle.std.specs.Char.{encode_utf8}
use Rattle.std.specs.Fmt.{digits}
use Rattle.std.specs.Float.Numeral.{scan_numeral}
use Rattle.json.specs.Json.{value, members}
use Rattle.json.specs.Lex.{punctuate, lex}
use Rattle.json.specs.Text.{content}
use Rattle.json.specs.Word.{word, after_number}
use Rattle.serde_json.specs.Read.{number_of}
use Rattle.ch_config_text.specs.ConfigExamples.{Faults, Places, WholeTexts}
use Rattle.fast_float.specs.Text.{scan}
use Rattle.ch_config_text.specs.BuiltIn.{SpellsBuiltIn}

pub spells_built_in : SpellsBuiltIn
unfolding chars encode_utf8 is_utf8 value members lex punctuate content word after_number number_of scan
spells_built_in = refl

pub whole_texts : WholeTexts
unfolding is_utf8 chars encode_utf8 digits scan_numeral value punctuate lex content word after_number number_of
whole_texts = record {
  built_in = refl;
  any_order = refl;
  unknown_member = refl;
  all_fields = refl;
}

pub faults : Faults
unfolding is_utf8 chars encode_utf8 digits scan_numeral value punctuate lex content word after_number number_of
faults = record {
  nothing = refl;
  empty = refl;
  array = refl;
  two_texts = refl;
  no_utf8 = refl;
  first_named = refl;
  empty_word = refl;
  other_letter = refl;
  last_counts = refl;
  empty_secret = refl;
  null = refl;
  no_shard = refl;
  many_shards = refl;
  many_workers = refl;
  text_for_a_number = refl;
  sign = refl;
  no_port = refl;
  other_scheme = refl;
}

pub places : Places
unfolding digits
places = record {
  address = refl;
  last_port = refl;
  port_too_large = refl;
  port_zero = refl;
  octet_too_large = refl;
  leading_zero = refl;
  three_octets = refl;
  name = refl;
  target = refl;
  no_port = refl;
  no_path = refl;
  no_host = refl;
  blank = refl;
}
