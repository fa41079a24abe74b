use Rattle.std.proofs.Common.{rules, ◌≡◌, ◌∷◌, ap, sym, ◌∙◌}
use Rattle.atomic_table.specs.Table.{rest}
use Rattle.ch_turn.specs.declared.table.Stage.TheVariants.{Waits}
use Rattle.ch_turn.specs.declared.table.Slot.TheVariants.{Value}
use Rattle.ch_turn.proofs.CallSteps.{draw_keeps, look_keeps}
use Rattle.ch_turn.proofs.call.acquire.Goals as goal

pub fetch_add-ticket-requires : goal.fetch_add-ticket-requires
fetch_add-ticket-requires g c = (search rules, search rules, draw_keeps g.T.Served.place g.T.Served.legal g.T.Served.stands _ _ _ _ _ c.requires.rests c.requires.calls)

pub load-requires : goal.load-requires
load-requires g c = let waits : c.loop.seat.me.0.stage ≡ Waits c.fetch_add-ticket.result = ap (λ m. m.0.stage) c.loop.invariant.2 ∙ ap (λ v. v.stage) c.fetch_add-ticket.ensures.2.1 in
    (search rules, search rules, look_keeps g.T.Served.place g.T.Served.legal g.T.Served.stands _ _ _ _ _ c.fetch_add-ticket.result waits)

pub exchange-requires : goal.exchange-requires
exchange-requires g c =
    let waits : c.loop.seat.me.0.stage ≡ Waits c.fetch_add-ticket.result = ap (λ m. m.0.stage) c.loop.invariant.2 ∙ ap (λ v. v.stage) c.fetch_add-ticket.ensures.2.1 in
    let came = (c.load.ensures.2 c.fetch_add-ticket.result waits).0 c.if-load-ticket.true in
    (search rules, (Value came.0, came.1 ∙ ap (λ slots. (0, Value came.0) ∷ rest slots) (sym came.1)))
