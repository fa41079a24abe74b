use Rattle.std.proofs.Common.{◌≡◌, map, take}
use Rattle.ch_net.specs.Lines.{message_of}
use Rattle.ch_net.proofs.messages.messages.Given as goal

abbrev pub invariant-loop-line : goal.invariant-loop-line
invariant-loop-line l = l.messages.items ≡ map (λ line. message_of line.now) (take l.line-index l.lines)
