use Rattle.std.proofs.Common.{◌∙◌, ap, ◌++◌, subst}
use Rattle.std.specs.Prelude.{IfOk}
use Rattle.ch_socket.specs.Turns.{HearsAs}
use Rattle.ch_socket.proofs.HearSteps.{hears_part, hears_whole, ready_heard}
use Rattle.ch_socket.proofs.NoLosses.{no_losses}
use Rattle.ch_socket.proofs.Outputs.{heard_onto}
use Rattle.ch_socket.proofs.hearing.hear.Goals as goal

pub returns-in_err-goes_on-clause-calls : goal.returns-in_err-goes_on-clause-calls
returns-in_err-goes_on-clause-calls g c =
    let h = c.hear-response.ensures.hears in
    let mid = g.D.Desk.view c.hear-response.new.desk in
    record {
      asked = h.0;
      response = c.hear-response.result;
      heard = c.hear-response.new.session;
      between = mid;
      hears = h.1;
      loses = no_losses c.args.at c.hear-response.new.session mid (c.calls_chain.ensures.none mid);
    }

pub returns-clause-hears : goal.returns-clause-hears
returns-clause-hears g c = λ s shards socket lists alone.
    let a = c.args in
    let h = c.hear-response.ensures.hears in
    let old = g.D.Desk.view a.desk.now in
    let mid = g.D.Desk.view c.hear-response.new.desk in
    let new = g.D.Desk.view c.finish.new.desk in
    let empty = c.new-lines.result.items in
    let lines = c.put_response.new.out.items in
    let before = c.calls_alone.ensures.before c.finish.ensures.calls.0 mid new c.finish.ensures.calls.2.calls alone in
    let part = hears_part c.calls_alone.ensures.calls a.config.now a.number a.at a.text.now s shards h.0 a.session c.hear-response.new.session old mid c.hear-response.result c.in_ok-goes_on.goes_on
    empty lines h.1 c.in_ok-goes_on.ensures socket lists before in
    let whole = hears_whole a.config.now a.number a.at a.text.now s shards c.in_ok-goes_on.goes_on c.hear-response.new.session mid new empty lines c.finish.result part
    (c.finish.ensures.turn empty lines _ part.2 alone) in
    heard_onto a.config.now a.number a.at a.text.now s shards c.in_ok-left.left new a.out.now.items empty lines c.extend_from_slice.new.self.items
    c.new-lines.ensures.items (c.in_ok-extend_from_slice.ensures.items ∙ ap (λ z. a.out.now.items ++ z) c.as_slice.ensures.value)
    (subst (λ r. IfOk r (λ left. HearsAs a.config.now a.number a.at a.text.now s shards left new empty lines)) c.in_ok-left.was whole)

pub returns-clause-ready : goal.returns-clause-ready
returns-clause-ready g c =
    let a = c.args in
    let h = c.hear-response.ensures.hears in
    c.in_ok-left.ensures.ready a.config.now
    (ready_heard a.config.now a.number a.at a.text.now h.0 a.session c.hear-response.new.session (g.D.Desk.view a.desk.now) (g.D.Desk.view c.hear-response.new.desk) c.hear-response.result h.1
    c.hear-response.ensures.over c.requires.ready)
