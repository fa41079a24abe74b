use Rattle.std.proofs.Common.{◌+◌, refl}
use Rattle.ch_serve.specs.Accepting.{door}
use Rattle.ch_serve.proofs.Arriving.{waits_next}
use Rattle.ch_serve.proofs.accepting.AcceptingThread.accept_one.Goals as goal

pub returns-in-Ok-clause-came : goal.returns-in-Ok-clause-came
returns-in-Ok-clause-came g c =
    waits_next c.args.self.now.pass.caller _ (door c.args.self.now.pass c.args.self.now.numbered) (door c.push.new.pass (c.args.self.now.numbered + 1)) c.in-Ok.ensures.pushed refl refl
