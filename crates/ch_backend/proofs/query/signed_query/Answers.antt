use Rattle.ch_backend.proofs.HexTexts.{hex_is_utf8}
use Rattle.ch_backend.proofs.query.signed_query.Goals as goal

pub text_of-signature-requires : goal.text_of-signature-requires
text_of-signature-requires c = rw c.request_sig-signature.ensures (hex_is_utf8 _)
