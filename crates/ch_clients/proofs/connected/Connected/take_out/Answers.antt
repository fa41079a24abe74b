use Rattle.std.proofs.Common.{◌≡◌, ◌<◌, length, sym, subst, arith}
use Rattle.std.specs.Prelude.{Some, slice_get}
use Rattle.ch_clients.specs.Clients.{AreAscending}
use Rattle.ch_clients.proofs.Placing.{is_there}
use Rattle.ch_clients.proofs.Rows.{remove_ascends}
use Rattle.ch_clients.proofs.connected.Connected.take_out.Goals as goal

pub invariant_of-self : goal.invariant_of-self
invariant_of-self g c = (
  omega (arith, c.remove.ensures.capacity, c.self.invariant.0),
  subst AreAscending (sym c.remove.ensures.items)
      (remove_ascends c.self.inside.rows.items c.args.place (subst (λ xs. c.args.place < length xs) (sym c.self.view_is) c.requires) c.self.invariant.1),
)

pub returns-clause-client : goal.returns-clause-client
returns-clause-client g c =
    subst (λ xs. slice_get xs c.args.place ≡ Some c.remove.result) c.self.view_is
    (is_there c.self.inside.rows.items c.args.self.now c.args.place c.remove.result c.self.view_is c.requires c.remove.ensures.value)

pub returns-clause-ascending : goal.returns-clause-ascending
returns-clause-ascending g c = subst AreAscending c.self.view_is c.self.invariant.1
