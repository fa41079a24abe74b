use Rattle.std.proofs.Common.{◌<◌, length, ◌∙◌, ap, arith}
use Rattle.ch_base.specs.declared.channel.ChanCall.TheVariants.{Take}
use Rattle.ch_desk.specs.Bench.{seen}
use Rattle.ch_history.specs.Frames.{waiting}
use Rattle.ch_history.specs.Alone.{with_call}
use Rattle.ch_player.proofs.Tellings.{SameSessions-then}
use Rattle.ch_player.proofs.Roundings.{Tells-shard, done-next, left-next}
use Rattle.ch_player.proofs.rounds.tell_chans.Goals as goal

pub loop-k-preserved : goal.loop-k-preserved
loop-k-preserved c =
    let old = c.args.bench.now in
    let k = c.loop-k.k in
    let so_far = c.loop-k.invariant in
    let taken = c.in_ok-frames.ensures in
    record {
      sessions = SameSessions-then _ _ _ so_far.sessions c.in_ok-tell_all.ensures.sessions;
      shards = taken.shards ∙ so_far.shards;
      users = taken.users ∙ so_far.users;
      told = λ sockets shards are at.
          let first = so_far.told sockets shards are at in
          let below : k < length old.shards = omega (arith, c.loop-k-test.true, c.requires) in
          let is = taken.taken.frames_are ∙ ap (λ h. waiting h 0) (so_far.left k (omega arith) ∙ at.chans k below) in
          Tells-shard c.tell_all.new.seats.items c.args.out.now.items c.loop-k.out.items c.tell_all.new.out.items sockets (λ j. waiting (shards.chans j) 0) k c.in_ok-frames.frames is
          first.text (c.in_ok-tell_all.ensures.tells _ first.seats);
      done = done-next (λ h. with_call h Take) (seen old) (seen c.loop-k.bench) (seen c.take_chan.new.bench) k taken.elsewhere so_far.left taken.taken.taken so_far.done;
      left = left-next (λ h. with_call h Take) (seen old) (seen c.loop-k.bench) (seen c.take_chan.new.bench) k taken.elsewhere so_far.left;
    }
