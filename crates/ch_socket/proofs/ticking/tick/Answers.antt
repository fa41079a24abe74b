use Rattle.std.proofs.Common.{◌∙◌, ap, ◌++◌, sym}
use Rattle.ch_rate.specs.Quiet.{quiet_after}
use Rattle.ch_session.specs.Kept.{Kept}
use Rattle.ch_socket.proofs.HearSteps.{ready_quiet, ticks_part}
use Rattle.ch_socket.proofs.NoLosses.{no_losses}
use Rattle.ch_socket.proofs.Outputs.{turn_onto}
use Rattle.ch_socket.proofs.ticking.tick.Goals as goal

pub returns-in_err-goes_on-clause-calls : goal.returns-in_err-goes_on-clause-calls
returns-in_err-goes_on-clause-calls g c =
    let desk = g.D.Desk.view c.args.desk.now in (
      c.tick-due.new.self,
      c.tick-due.ensures.same ∙ ap (λ q. record c.args.session { quiet = q }) (sym (ap (λ (k : Kept). k.quiet) c.tick-due.ensures.same)),
      no_losses c.args.at c.tick-due.new.self desk (c.calls_chain.ensures.none desk),
    )

pub returns-clause-ticks : goal.returns-clause-ticks
returns-clause-ticks g c = λ s shards socket lists alone.
    let a = c.args in
    let new = g.D.Desk.view c.finish.new.desk in
    let empty = c.new-lines.result.items in
    let lines = c.put_due.new.out.items in
    let part = ticks_part a.number a.at a.session c.tick-due.new.self s shards (g.D.Desk.view a.desk.now) c.tick-due.result c.in_ok-goes_on.goes_on empty lines c.tick-due.ensures.due c.tick-due.ensures.same c.tick-due.ensures.stands
    (λ t. c.in_ok-goes_on.ensures c.tick-due.new.self (g.D.Desk.view a.desk.now) t shards) socket lists in
    turn_onto a.number c.in_ok-left.left new a.out.now.items empty lines c.extend_from_slice.new.self.items _
    c.new-lines.ensures.items (c.in_ok-extend_from_slice.ensures.items ∙ ap (λ z. a.out.now.items ++ z) c.as_slice.ensures.value)
    (c.in_ok-left.ensures.turn empty lines _ part alone)

pub returns-clause-ready : goal.returns-clause-ready
returns-clause-ready g c =
    c.in_ok-left.ensures.ready c.args.config.now
    (ready_quiet c.args.config.now c.args.number c.args.session c.tick-due.new.self (quiet_after c.args.session.quiet c.args.at) c.tick-due.ensures.same c.requires.ready)
