use Rattle.std.proofs.Common.{length, refl}
use Rattle.ch_transcript.specs.Gathering.{gathers}
use Rattle.ch_player.proofs.HooksTaken.{is_gathered}
use Rattle.ch_player.proofs.player.Player.hooks.Goals as goal

pub returns-in-Ok-clause-gathers : goal.returns-in-Ok-clause-gathers
returns-in-Ok-clause-gathers c = λ p is.
    let does = c.in-Ok.ensures.gathers p.shards is.shards c.alone.ensures in
    let all = is_gathered c.args.self.now.config p c.args.at (length c.args.self.now.bench.shards) c.args.self.now.batcher.state c.gather_hooks-done.new.batcher.state
    c.gather_hooks-done.new.bench c.args.out.now.items c.gather_hooks-done.new.out.items is.webhooks c.args.self.now.shards.chan_shards does in
    record {
      played = gathers c.args.self.now.config p c.args.at;
      is = refl;
      text = all.text;
      next = record { at = is.at; seats = is.seats; shards = does.at_shards; webhooks = all.state };
    }

pub invariant_of-self-clause-shards : goal.invariant_of-self-clause-shards
invariant_of-self-clause-shards c = c.gather_hooks-done.ensures.shards c.args.self.now.config c.args.self.now.shards
