use Rattle.std.proofs.Common.{subst}
use Rattle.ch_live.specs.Connections.{Connected}
use Rattle.ch_live.specs.Listening.{HearsMessage}
use Rattle.ch_live.proofs.connection.Connection.heed.Goals as goal

pub returns-clause-heard : goal.returns-clause-heard
returns-clause-heard g c =
    let a = c.args in
    let new : Connected = record { session = c.hear_message-code.new.session; backlog = c.hear_message-code.new.backlog } in
    let P : Connected → Type 0 = λ x. HearsMessage a.config.now a.now a.message x new (g.D.Desk.view a.desk.now) (g.D.Desk.view c.hear_message-code.new.desk) c.hear_message-code.result in
    (c.hear_message-code.result, c.end_if.ensures.by, subst P c.self.view_is c.hear_message-code.ensures.heard)
