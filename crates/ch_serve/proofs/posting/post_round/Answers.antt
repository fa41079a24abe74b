use Rattle.ch_house.specs.DeskViews.{view_of}
use Rattle.ch_serve.proofs.Gathering.{gathers_round}
use Rattle.ch_serve.proofs.posting.post_round.Goals as goal

pub returns : goal.returns
returns g c =
    let gathered = c.gather-gathered.ensures in
    gathers_round gathered.0 (view_of c.args.desk.now) (view_of c.gather-gathered.new.desk) c.args.sending.now.batcher.state c.gather-gathered.new.self.state c.step-step.new.self.state
    c.now-now.result c.gather-gathered.result c.step-step.result c.gathers_chain.ensures gathered.1 gathered.2 c.step-step.ensures.state
