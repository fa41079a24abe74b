use Rattle.std.proofs.Common.{List, ℕ, subst}
use Rattle.std.specs.Prelude.{IfOk}
use Rattle.ch_members.specs.Readings.{Gives}
use Rattle.ch_requests.specs.Triggers.{TellsBatch}
use Rattle.ch_triggers.proofs.reading.batch_in_body.Goals as goal

pub returns-in-Ok : goal.returns-in-Ok
returns-in-Ok c = subst (λ (y : List ℕ). IfOk c.batch_in_text.result (Gives (TellsBatch y))) c.in-Ok.ensures.cases.0 c.batch_in_text.ensures

pub returns-in-Err : goal.returns-in-Err
returns-in-Err c = λ t k. c.in-Err.ensures.cases.0 k.0
