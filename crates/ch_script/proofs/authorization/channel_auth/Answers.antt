use Rattle.ch_script.proofs.HexTexts.{hex_is_utf8}
use Rattle.ch_script.proofs.authorization.channel_auth.Goals as goal

pub authorization-requires : goal.authorization-requires
authorization-requires c = rw c.socket_sig-signature.ensures (hex_is_utf8 _ _)
