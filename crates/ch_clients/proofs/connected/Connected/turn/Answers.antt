use Rattle.std.proofs.Common.{◌≡◌, ap, subst}
use Rattle.std.specs.Prelude.{Some, slice_get, slice_set}
use Rattle.ch_clients.proofs.Placing.{is_there}
use Rattle.ch_clients.proofs.Rows.{set_ascends}
use Rattle.ch_clients.proofs.connected.Connected.turn.Goals as goal
use Rattle.ch_clients.proofs.connected.Connected.turn.Given.{Over}

before_is : (g : Over) (c : goal.After-self-1 g) → slice_get c.self.inside.rows.items c.args.place ≡ Some c.index_mut.result.now
before_is g c = is_there c.self.inside.rows.items c.args.self.now c.args.place c.index_mut.result.now c.self.view_is c.requires.place c.index_mut.ensures.value

pub invariant_of-self : goal.invariant_of-self
invariant_of-self g c = (
  c.self.invariant.0,
  set_ascends c.self.inside.rows.items c.args.place c.index_mut.result.now c.turn.new.self (before_is g c) c.turn.ensures.turn.number c.self.invariant.1,
)

pub returns-clause-turn : goal.returns-clause-turn
returns-clause-turn g c = record {
  before = c.index_mut.result.now;
  after = c.turn.new.self;
  there = subst (λ xs. slice_get xs c.args.place ≡ Some c.index_mut.result.now) c.self.view_is (before_is g c);
  set = ap (λ xs. slice_set xs c.args.place c.turn.new.self) c.self.view_is;
  steps = c.turn.ensures.turn;
  follows = c.turn.ensures.follows;
}
