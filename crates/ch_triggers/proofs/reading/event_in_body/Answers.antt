use Rattle.std.proofs.Common.{List, ℕ, subst}
use Rattle.std.specs.Prelude.{IfOk}
use Rattle.ch_members.specs.Readings.{Gives}
use Rattle.ch_requests.specs.Triggers.{TellsEvent}
use Rattle.ch_triggers.proofs.reading.event_in_body.Goals as goal

pub returns-in-Ok : goal.returns-in-Ok
returns-in-Ok c = subst (λ (y : List ℕ). IfOk c.event_in_text.result (Gives (TellsEvent y))) c.in-Ok.ensures.cases.0 c.event_in_text.ensures

pub returns-in-Err : goal.returns-in-Err
returns-in-Err c = λ t k. c.in-Err.ensures.cases.0 k.0
