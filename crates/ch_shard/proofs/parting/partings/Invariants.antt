use Rattle.std.proofs.Common.{◌≡◌, flat_map, take}
use Rattle.ch_history.specs.Subscriptions.{channels_in}
use Rattle.ch_shard.specs.Parting.{leave_frames, leave_hooks}
use Rattle.ch_shard.proofs.parting.partings.Given as goal

abbrev pub invariant-loop-i : goal.invariant-loop-i
invariant-loop-i l = record {
  frames : l.made.frames.items ≡ flat_map (λ c. leave_frames l.subs c l.socket) (take l.i (channels_in l.subs l.socket));
  hooks : l.made.hooks.items ≡ flat_map (λ c. leave_hooks l.subs c l.socket) (take l.i (channels_in l.subs l.socket));
}
