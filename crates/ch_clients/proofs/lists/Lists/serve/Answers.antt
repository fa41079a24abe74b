use Rattle.ch_clients.proofs.Fates.{may_go_on, had_turn}
use Rattle.ch_clients.specs.Serving.{Setting}
use Rattle.ch_clients.proofs.lists.Lists.serve.Goals as goal

pub go_on-requires-clause-may : goal.go_on-requires-clause-may
go_on-requires-clause-may g c =
    let s : Setting = record { config = c.args.server.now.config; start = c.args.server.now.start; now = c.args.now; messages = g.L.Link.messages } in
    may_go_on s c.args.self.now.connected c.turn-step.new.self (g.D.Desk.view c.args.desk.now) (g.D.Desk.view c.turn-step.new.desk) c.args.place c.turn-step.result
    c.requires.place c.requires.may c.turn-step.ensures.turn

pub returns-clause-turn : goal.returns-clause-turn
returns-clause-turn g c =
    let s : Setting = record { config = c.args.server.now.config; start = c.args.server.now.start; now = c.args.now; messages = g.L.Link.messages } in
    had_turn s c.args.self.now.connected c.turn-step.new.self c.go_on.new.self.connected c.args.self.now.leaving c.go_on.new.self.leaving
    (g.D.Desk.view c.args.desk.now) (g.D.Desk.view c.turn-step.new.desk) c.args.place c.turn-step.result c.go_on.result c.requires.place c.turn-step.ensures.turn c.go_on.ensures.becomes
