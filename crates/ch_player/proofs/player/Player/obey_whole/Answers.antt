use Rattle.std.proofs.Common.{◌+◌, subst, length}
use Rattle.ch_config.specs.declared.config.Config.{Config}
use Rattle.ch_transcript.specs.Rounds.{rounds}
use Rattle.ch_player.specs.Playing.{RunsOn}
use Rattle.ch_player.proofs.Played.{refused_whole, obeys_whole}
use Rattle.ch_player.proofs.player.Player.obey_whole.Goals as goal

pub returns-in-Err-clause-obeys : goal.returns-in-Err-clause-obeys
returns-in-Err-clause-obeys c = λ p is.
    refused_whole c.in-Err.fault c.args.self.now.config p c.args.at c.args.command.now (c.in-Err.ensures.obeys p is)

pub returns-in-Ok-finish-clause-obeys : goal.returns-in-Ok-finish-clause-obeys
returns-in-Ok-finish-clause-obeys c = λ p is.
    let h = c.in-Ok.ensures.obeys p is in
    let q = h.played.next in
    let P : Config → Type 0 = λ z. RunsOn c.finish.new.self c.obey.new.out.items c.finish.new.out.items q (rounds (length q.sockets + 1) z q.at q.sockets q.shards) in
    obeys_whole c.args.self.now.config p c.args.at c.args.command.now c.obey.new.self c.finish.new.self c.args.out.now.items c.obey.new.out.items c.finish.new.out.items h
    (subst P c.in-Ok.ensures.over (c.in-Ok-finish.ensures.runs q h.next))
