-- The examples compute.
use Rattle.std.proofs.Common.{refl}
use Rattle.std.specs.Fmt.{digits}
use Rattle.ch_names.specs.SocketIdExamples.{SocketIdExamples}

pub socket_id_examples : SocketIdExamples
unfolding digits
socket_id_examples = record {
  of_this_server = refl;
  no_socket_yet = refl;
  of_another_server = refl;
  leading_zero = refl;
  zero_before_the_number = refl;
  three_parts = refl;
  one_part = refl;
  nothing_before = refl;
  nothing_behind = refl;
  empty = refl;
  sign = refl;
  letter = refl;
  nineteen_digits = refl;
  twenty_digits = refl;
}
