use Rattle.std.proofs.Common.{◌∙◌, codes}
use Rattle.std.specs.Fmt.{decimal}
use Rattle.ch_soak.proofs.Pieces.{joined}
use Rattle.ch_soak.proofs.generator.sign_in_command.Goals as goal

pub returns : goal.returns
returns c = c.in_ok-text.ensures.ok ∙ joined (codes "signin ") (decimal c.args.draws.now.socket) (codes " {\"id\":\"u") (decimal c.args.draws.now.user) (codes "\",\"watchlist\":[\"u0\",\"u1\"]}")
