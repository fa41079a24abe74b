-- Texts as socket ids, on a server that started at the second 1.
use Rattle.std.specs.Prelude.{◌≡◌, ℕ, List, [], codes}
use Rattle.ch_names.specs.SocketIds.{socket_id_of}
use Rattle.ch_names.specs.declared.socket_id.SocketId.{SocketId}
use Rattle.ch_names.specs.declared.socket_id.SocketId.TheVariants.{Bad, Stranger, Here}

abbrev pub says : List ℕ → SocketId
says id = socket_id_of 1 id

pub record SocketIdExamples : Type 0 where
  pub of_this_server : says (codes "1.2") ≡ Here 2
  pub no_socket_yet : says (codes "1.0") ≡ Here 0
  pub of_another_server : says (codes "2.5") ≡ Stranger
  pub leading_zero : says (codes "01.5") ≡ Stranger
  pub zero_before_the_number : says (codes "1.05") ≡ Stranger
  pub three_parts : says (codes "1.2.3") ≡ Bad
  pub one_part : says (codes "12") ≡ Bad
  pub nothing_before : says (codes ".1") ≡ Bad
  pub nothing_behind : says (codes "1.") ≡ Bad
  pub empty : says [] ≡ Bad
  pub sign : says (codes "+1.2") ≡ Bad
  pub letter : says (codes "1.a") ≡ Bad
  pub nineteen_digits : says (codes "1.9999999999999999999") ≡ Here 9999999999999999999
  pub twenty_digits : says (codes "1.10000000000000000000") ≡ Bad
