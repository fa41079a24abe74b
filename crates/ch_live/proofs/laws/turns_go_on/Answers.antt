use Rattle.ch_live.proofs.TurnLaws.{frames_are_sent, messages_are_heard, turns_move}
use Rattle.ch_live.proofs.laws.turns_go_on.Goals as goal

pub returns : goal.returns
returns c = record { sent = frames_are_sent; heard = messages_are_heard; moved = turns_move }
