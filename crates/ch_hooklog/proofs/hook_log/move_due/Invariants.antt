use Rattle.std.proofs.Common.{◌≡◌, ◌+◌, ◌≤◌, ◌++◌, All, drop, take, length, vec_len, vec_capacity}
use Rattle.std.specs.VecDeque.{deque_len, deque_capacity}
use Rattle.ch_history.specs.Held.{due, not_due, vacated_events}
use Rattle.ch_hooklog.proofs.Held.{IsSince}
use Rattle.ch_hooklog.proofs.hook_log.move_due.Given as goal

abbrev pub invariant-loop : goal.invariant-loop
invariant-loop l = record {
  counted : l.counter ≤ l.end;
  held : l.held.items ≡ drop l.counter l.initial.held.items ++ not_due l.now (take l.counter l.initial.held.items);
  held_len : deque_len l.held ≤ deque_len l.initial.held;
  held_room : deque_capacity l.held ≡ deque_capacity l.initial.held;
  hooks : l.hooks.items ≡ l.initial.hooks.items ++ vacated_events (due l.now (take l.counter l.initial.held.items));
  len : vec_len l.hooks ≡ vec_len l.initial.hooks + length (due l.now (take l.counter l.initial.held.items));
  room : vec_capacity l.hooks ≡ vec_capacity l.initial.hooks;
  oldest : All (IsSince l.oldest) (not_due l.now (take l.counter l.initial.held.items));
}
