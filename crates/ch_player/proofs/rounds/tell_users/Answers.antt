use Rattle.std.proofs.Common.{◌<◌, length, ◌∙◌, ap, arith}
use Rattle.ch_base.specs.declared.user.UserCall.TheVariants.{Take}
use Rattle.ch_desk.specs.Bench.{seen_user}
use Rattle.ch_history.specs.UserFrames.{user_waiting}
use Rattle.ch_history.specs.Alone.{with_user_call}
use Rattle.ch_player.proofs.Tellings.{SameSessions-then}
use Rattle.ch_player.proofs.Roundings.{Tells-shard, done-next, left-next}
use Rattle.ch_player.proofs.rounds.tell_users.Goals as goal

pub loop-k-preserved : goal.loop-k-preserved
loop-k-preserved c =
    let old = c.args.bench.now in
    let k = c.loop-k.k in
    let so_far = c.loop-k.invariant in
    let taken = c.in_ok-frames.ensures in
    record {
      sessions = SameSessions-then _ _ _ so_far.sessions c.in_ok-tell_all.ensures.sessions;
      users = taken.users ∙ so_far.users;
      shards = taken.shards ∙ so_far.shards;
      told = λ sockets shards are at.
          let first = so_far.told sockets shards are at in
          let below : k < length old.users = omega (arith, c.loop-k-test.true, c.requires) in
          let is = taken.taken.frames_are ∙ ap (λ h. user_waiting h 0) (so_far.left k (omega arith) ∙ at.users k below) in
          Tells-shard c.tell_all.new.seats.items c.args.out.now.items c.loop-k.out.items c.tell_all.new.out.items sockets (λ j. user_waiting (shards.users j) 0) k c.in_ok-frames.frames is
          first.text (c.in_ok-tell_all.ensures.tells _ first.seats);
      done = done-next (λ h. with_user_call h Take) (seen_user old) (seen_user c.loop-k.bench) (seen_user c.take_user.new.bench) k taken.elsewhere so_far.left taken.taken.taken so_far.done;
      left = left-next (λ h. with_user_call h Take) (seen_user old) (seen_user c.loop-k.bench) (seen_user c.take_user.new.bench) k taken.elsewhere so_far.left;
    }
