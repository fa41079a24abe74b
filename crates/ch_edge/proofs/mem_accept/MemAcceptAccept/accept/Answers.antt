use Rattle.std.proofs.lemmas.List.Elements.{All-rest}
use Rattle.ch_edge.specs.Ends.{IsNewLink}
use Rattle.ch_edge.proofs.NewLinks.{first_is}
use Rattle.ch_edge.proofs.mem_accept.MemAcceptAccept.accept.Goals as goal

pub invariant_of-self-in-Some : goal.invariant_of-self-in-Some
invariant_of-self-in-Some g c = All-rest (λ link. IsNewLink (g.L.Link.told link)) _ _ _ c.in-Some.ensures.items c.self.invariant

pub returns-in-Some-clause-new : goal.returns-in-Some-clause-new
returns-in-Some-clause-new g c = first_is (λ link. IsNewLink (g.L.Link.told link)) _ _ _ c.in-Some.ensures.items c.self.invariant
