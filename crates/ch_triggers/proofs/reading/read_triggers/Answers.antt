use Rattle.std.proofs.Common.{List}
use Rattle.std.specs.Prelude.{Option, IfSome}
use Rattle.ch_members.specs.Readings.{Gives}
use Rattle.ch_members.proofs.Gives.{on_ok}
use Rattle.ch_requests.specs.Fit.{AreFit}
use Rattle.ch_requests.specs.Triggers.{TellsEvent, TellsBatch, ReadsBody}
use Rattle.ch_requests.specs.declared.trigger.Trigger.{Trigger}
use Rattle.ch_triggers.specs.Bodies.{IsOnly}
use Rattle.ch_triggers.proofs.BodiesOf.{reads_event, reads_batch, reads_nothing}
use Rattle.ch_triggers.proofs.FitOf.{body_fit, triggers_fit}
use Rattle.ch_triggers.proofs.reading.read_triggers.Goals as goal

pub returns-in-Events-clause-read : goal.returns-in-Events-clause-read
returns-in-Events-clause-read c =
    let body = c.args.body.now in
    on_ok (Gives (IsOnly (TellsEvent body))) (ReadsBody c.args.route.now body) c.only_event.result (reads_event c.args.route.now body c.in-Events.is) c.only_event.ensures

pub returns-in-Events-clause-fit : goal.returns-in-Events-clause-fit
returns-in-Events-clause-fit c =
    let body = c.args.body.now in
    on_ok (Gives (IsOnly (TellsEvent body))) (λ (o : Option (List Trigger)). IfSome o AreFit) c.only_event.result (λ o h. body_fit c.args.route.now body o (reads_event c.args.route.now body c.in-Events.is o h)) c.only_event.ensures

pub returns-in-BatchEvents-clause-read : goal.returns-in-BatchEvents-clause-read
returns-in-BatchEvents-clause-read c =
    let body = c.args.body.now in
    on_ok (Gives (TellsBatch body)) (ReadsBody c.args.route.now body) c.batch_in_body.result (reads_batch c.args.route.now body c.in-BatchEvents.is) c.batch_in_body.ensures

pub returns-in-BatchEvents-clause-fit : goal.returns-in-BatchEvents-clause-fit
returns-in-BatchEvents-clause-fit c =
    let body = c.args.body.now in
    on_ok (Gives (TellsBatch body)) (λ (o : Option (List Trigger)). IfSome o AreFit) c.batch_in_body.result (λ o h. body_fit c.args.route.now body o (reads_batch c.args.route.now body c.in-BatchEvents.is o h)) c.batch_in_body.ensures

pub returns-in_default-clause-read : goal.returns-in_default-clause-read
returns-in_default-clause-read c = reads_nothing c.args.route.now c.args.body.now c.new.result c.in_default.not-Events c.in_default.not-BatchEvents c.new.ensures

pub returns-in_default-clause-fit : goal.returns-in_default-clause-fit
returns-in_default-clause-fit c =
    triggers_fit c.args.route.now c.args.body.now c.new.result (reads_nothing c.args.route.now c.args.body.now c.new.result c.in_default.not-Events c.in_default.not-BatchEvents c.new.ensures)
