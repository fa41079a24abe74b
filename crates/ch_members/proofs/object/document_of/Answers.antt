use Rattle.std.proofs.Common.{subst}
use Rattle.std.specs.Prelude.{IsOk}
use Rattle.ch_members.proofs.object.document_of.Goals as goal

pub returns-in-Err-Syntax : goal.returns-in-Err-Syntax
returns-in-Err-Syntax c = λ v spells.
    let read = subst IsOk c.in-Err-Syntax.is (c.read.ensures.spelled v spells (λ memory. absurd (cc))) in absurd (cc)

pub returns-in-Err-Deep : goal.returns-in-Err-Deep
returns-in-Err-Deep c = λ v spells.
    let read = subst IsOk c.in-Err-Deep.is (c.read.ensures.spelled v spells (λ memory. absurd (cc))) in absurd (cc)
