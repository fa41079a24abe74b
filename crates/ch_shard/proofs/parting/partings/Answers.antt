use Rattle.std.proofs.Common.{◌∙◌, ◌++◌, ap}
use Rattle.ch_history.specs.Subscriptions.{channels_in}
use Rattle.ch_shard.specs.Parting.{leave_frames, leave_hooks}
use Rattle.ch_shard.proofs.Lists.{flat_map-next}
use Rattle.ch_shard.proofs.parting.partings.Goals as goal

pub loop-i-preserved : goal.loop-i-preserved
loop-i-preserved c =
    let subs = c.args.subs.now in
    let socket = c.args.socket in
    let cs = channels_in subs socket in
    let d = c.channel-channel.result.now in
    record {
      frames = c.in_ok-part.ensures.frames
          ∙ ap (λ fs. fs ++ leave_frames subs d socket) c.loop-i.invariant.frames
          ∙ flat_map-next (λ e. leave_frames subs e socket) cs c.loop-i.i d c.channel-channel.ensures;
      hooks = c.in_ok-part.ensures.hooks
          ∙ ap (λ gs. gs ++ leave_hooks subs d socket) c.loop-i.invariant.hooks
          ∙ flat_map-next (λ e. leave_hooks subs e socket) cs c.loop-i.i d c.channel-channel.ensures;
    }
