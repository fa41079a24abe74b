use Rattle.std.proofs.Common.{◌∙◌, sym}
use Rattle.ch_backend.proofs.Composed.{composed_is}
use Rattle.ch_backend.proofs.request.composed.Goals as goal

pub returns : goal.returns
returns c = c.in_ok-text.ensures.ok ∙ sym (composed_is c.args.method.now c.args.path.now c.args.query.now c.args.length.now c.args.body.now)
