use Rattle.std.proofs.Common.{arith}
use Rattle.std.proofs.lemmas.List.{drop-replicate}
use Rattle.std.proofs.lemmas.Grind.{common_steps}
use Rattle.ch_sig.proofs.hmac.key_block.Goals as goal

pub returns-else-secret-gt-BLOCK : goal.returns-else-secret-gt-BLOCK
returns-else-secret-gt-BLOCK c =
    rw (c.copy_from_slice-else-secret-gt-BLOCK.ensures.after, drop-replicate) (grind (arith, common_steps))
