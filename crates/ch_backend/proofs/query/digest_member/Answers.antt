use Rattle.ch_backend.proofs.HexTexts.{hex_is_utf8}
use Rattle.ch_backend.proofs.query.digest_member.Goals as goal

pub text_of-digest-requires : goal.text_of-digest-requires
text_of-digest-requires c = rw c.md5_hex-digest.ensures (hex_is_utf8 _)
