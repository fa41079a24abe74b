use Rattle.std.proofs.Common.{refl}
use Rattle.ch_serve.proofs.posting.sending_of.Goals as goal

pub returns-in_ok-batcher-in-Some : goal.returns-in_ok-batcher-in-Some
returns-in_ok-batcher-in-Some g c = rw c.in-Some.is (_, refl, c.in_ok-batcher-in-Some.ensures)
