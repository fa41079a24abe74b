-- The examples of names hold, each by computing.
use Rattle.std.proofs.Common.{refl}
use Rattle.ch_history.specs.NameExamples.{KindExamples, NameExamples, PlaceExamples}

pub kind_examples : KindExamples
kind_examples = record {
  public = refl;
  private = refl;
  presence = refl;
  encrypted = refl;
  cache = refl;
  private_cache = refl;
  presence_cache = refl;
  encrypted_cache = refl;
  upper_case = refl;
  no_dash = refl;
}

pub name_examples : NameExamples
name_examples = record { alphabet = refl; empty = refl; blank = refl; user_channel = refl }

pub place_examples : PlaceExamples
place_examples = record { empty = refl; a = refl; foobar = refl; of_a = refl; of_foobar = refl }
