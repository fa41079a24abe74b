use Rattle.std.proofs.lemmas.List.Elements.{All-rest}
use Rattle.ch_history.specs.Limits.{IsSocket}
use Rattle.ch_net.proofs.Sockets.{head_is}
use Rattle.ch_net.proofs.mem_arrivals.MemArrivalsArrivals.next.Goals as goal

pub invariant_of-self : goal.invariant_of-self
invariant_of-self g c = All-rest (λ x. IsSocket x.number) _ _ _ c.in-Some.ensures.items c.self.invariant

pub returns-in-Some-clause-number : goal.returns-in-Some-clause-number
returns-in-Some-clause-number g c = head_is (λ x. IsSocket x.number) _ _ _ c.in-Some.ensures.items c.self.invariant
