use Rattle.std.proofs.Common.{◌≡◌, ◌≤◌, ◌++◌, reverse, vec_len}
use Rattle.ch_hooklog.specs.Noting.{held_by, logged_by}
use Rattle.ch_hooklog.proofs.hook_log.note_all.Given as goal

abbrev pub invariant-loop-hook : goal.invariant-loop-hook
invariant-loop-hook l = record {
  room : vec_len l.hooks ≤ l.log.spare;
  hooks : l.log.hooks ++ logged_by l.now (reverse l.hooks.items) l.log.held ≡ l.initial.log.hooks ++ logged_by l.now (reverse l.initial.hooks.items) l.initial.log.held;
  held : held_by l.now (reverse l.hooks.items) l.log.held ≡ held_by l.now (reverse l.initial.hooks.items) l.initial.log.held;
}

abbrev pub decreases-loop-hook : goal.decreases-loop-hook
decreases-loop-hook l = vec_len l.hooks
