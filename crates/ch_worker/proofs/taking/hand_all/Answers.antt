use Rattle.std.proofs.Common.{List, ap, sym, refl, ◌∙◌}
use Rattle.ch_base.specs.declared.frame.FrameFor.{FrameFor}
use Rattle.ch_clients.specs.Clients.{ClientsView, all_handed}
use Rattle.ch_worker.proofs.taking.hand_all.Goals as goal

pub loop-frame-preserved : goal.loop-frame-preserved
loop-frame-preserved g c =
    let l = c.loop-frame in
    l.invariant
    ∙ ap (λ (fs : List FrameFor). let w : ClientsView = record l.clients { connected = all_handed l.clients.connected fs } in w) c.in-Some.ensures.front
    ∙ ap (λ (x : ClientsView). let w : ClientsView = record x { connected = all_handed x.connected c.take_front.new.self } in w) (sym c.hand.ensures)

pub returns-clause-clients : goal.returns-clause-clients
returns-clause-clients g c =
    let l = c.loop-frame in
    sym (l.invariant
    ∙ ap (λ (fs : List FrameFor). let w : ClientsView = record l.clients { connected = all_handed l.clients.connected fs } in w)
    (c.in_default.ensures.none.0 refl))
