use Rattle.std.proofs.Common.{subst, arith}
use Rattle.ch_shard.specs.Stands.{Stands}
use Rattle.ch_transcript.specs.Printing.{tail_line}
use Rattle.ch_player.proofs.Played.{tail_is}
use Rattle.ch_player.proofs.player.Player.tail.Goals as goal

pub returns-clause-tails : goal.returns-clause-tails
returns-clause-tails c = λ p is.
    let inside = c.if-shard-self.false in
    record {
      played = record { text = tail_line (p.shards.chans c.args.shard); next = p };
      is = tail_is c.args.self.now.config p c.args.shard (omega (arith, inside));
      text = c.in_ok-put_tail.ensures.ok (p.shards.chans c.args.shard) (subst (Stands c.shard.result.now) (is.shards.chans c.args.shard (omega (arith, inside, c.args.self.now.shards.chan_shards))) c.shard.ensures);
      next = is;
    }
