use Rattle.std.proofs.Common.{◌*◌}
use Rattle.ch_batch.proofs.Pieces.{piece_cut}
use Rattle.ch_batch.proofs.making.piece.Goals as goal

pub returns : goal.returns
returns c = piece_cut c.args.events.now (c.args.k * 50) c.min-to.result c.min-to.ensures
