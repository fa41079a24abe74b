use Rattle.ch_desk.proofs.OwnEntries.{user_made, user_unmade}
use Rattle.ch_desk.proofs.making.make_user.Goals as goal

pub returns-in-Ok-clause-calls : goal.returns-in-Ok-clause-calls
returns-in-Ok-clause-calls g c =
    let x = c.in-Ok.ensures in
    user_made (g.D.Desk.view c.args.desk.now) (g.D.Desk.view c.user.new.self) c.args.shard c.args.call.now c.in-Ok.answer
    x.grows x.elsewhere c.requires

pub returns-in-Err-clause-calls : goal.returns-in-Err-clause-calls
returns-in-Err-clause-calls g c =
    let x = c.in-Err.ensures in
    user_unmade (g.D.Desk.view c.args.desk.now) (g.D.Desk.view c.user.new.self) c.args.shard c.args.call.now c.in-Err._memory
    x.grows x.elsewhere c.requires
