use Rattle.std.proofs.Common.{arith}
use Rattle.ch_outbox.proofs.Rooms.{all_have}
use Rattle.ch_outbox.proofs.outbox.Outbox.reserve_for.Goals as goal

pub returns-clause-room : goal.returns-clause-room
returns-clause-room c =
    let end = c.loop-owner-test.false in
    all_have c.loop-owner.self c.args.made.now c.requires (λ w small. c.loop-owner.invariant.room w (omega (arith, small, end)))
