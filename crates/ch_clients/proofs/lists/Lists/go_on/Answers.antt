use Rattle.std.proofs.Common.{sym, subst, refl}
use Rattle.ch_clients.proofs.Fates.{stays_so, stays_may}
use Rattle.ch_clients.specs.Serving.{Stays}
use Rattle.ch_clients.specs.Steps.{Becomes, MayGoOn}
use Rattle.ch_clients.proofs.lists.Lists.go_on.Goals as goal

pub returns-in-Stays-clause-becomes : goal.returns-in-Stays-clause-becomes
returns-in-Stays-clause-becomes g c = λ client there. (
  Stays client,
  subst (λ st. Becomes (record { config = c.args.server.now.config; start = c.args.server.now.start; now = c.args.now; messages = g.L.Link.messages }) client st c.in-Stays.part (Stays client))
      (sym c.in-Stays.is) (refl, refl),
  stays_so c.args.self.now.connected c.args.self.now.leaving c.args.place client c.requires.place there,
)

pub returns-in-Stays-clause-may : goal.returns-in-Stays-clause-may
returns-in-Stays-clause-may g c =
    stays_may c.args.server.now.config c.args.self.now.connected c.args.place c.in-Stays.part c.requires.place
    (subst (λ st. MayGoOn c.args.server.now.config c.args.place st c.args.self.now.connected) c.in-Stays.is c.requires.may)
