-- The handshakes compute.
use Rattle.std.proofs.Common.{refl}
use Rattle.std.specs.Fmt.{digits}
use Rattle.base64.specs.Decode.{groups_error, groups_bytes, scan_steps}
use Rattle.base64.specs.Rfc4648.{encode_symbols}
use Rattle.httparse.specs.Grammar.{trim_ows}
use Rattle.sha1.specs.Sha1.{first_words, schedule, rounds, compress, hash_after, digest_bytes, sha1}
use Rattle.ch_base.specs.Escape.{escaped_byte, quoted}
use Rattle.ch_requests.specs.Examples.{Handshakes}

pub handshakes : Handshakes
unfolding digits escaped_byte quoted trim_ows groups_error groups_bytes scan_steps encode_symbols first_words schedule rounds compress hash_after digest_bytes sha1
handshakes = record {
  value = refl;
  accepted = refl;
  older = refl;
  not_connected = refl;
  no_key = refl;
  two_keys = refl;
  short_key = refl;
  not_padded = refl;
  key_before_version = refl;
  other_version = refl;
  no_version = refl;
  two_versions = refl;
  version_told = refl;
}
