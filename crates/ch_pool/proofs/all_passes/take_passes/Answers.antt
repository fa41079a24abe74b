use Rattle.std.proofs.Common.{◌<◌, length, arith}
use Rattle.ch_pool.proofs.Passing.{take_one}
use Rattle.ch_pool.proofs.all_passes.take_passes.Goals as goal

pub loop-caller-preserved : goal.loop-caller-preserved
loop-caller-preserved c =
    let within : c.loop-caller.caller < length c.args.passes.now.slots = omega (arith, c.requires.count, c.loop-caller-test.true) in
    take_one c.args.passes.now.house c.args.passes.now.slots c.loop-caller.caller c.loop-caller.passes c.take.new.self c.loop-caller.taken.items c.push.new.self.items c.in-Some.one
    c.loop-caller.invariant within c.take.ensures.rest c.in_ok-push.ensures.items c.in-Some.ensures.own
