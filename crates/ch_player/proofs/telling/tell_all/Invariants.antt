use Rattle.std.proofs.Common.{List, length}
use Rattle.ch_transcript.specs.Progress.{Socket}
use Rattle.ch_transcript.specs.Rounds.{tells_all}
use Rattle.ch_player.specs.Seats.{AreSeats, SameSessions}
use Rattle.ch_player.proofs.Tellings.{TellsOn}
use Rattle.ch_player.proofs.telling.tell_all.Given as goal

abbrev pub invariant-loop-item : goal.invariant-loop-item
invariant-loop-item l = record {
  sessions : SameSessions l.fn.seats.items l.seats.items;
  told : (sockets : List Socket) → AreSeats l.fn.seats.items sockets → TellsOn l.seats.items l.fn.out.items l.out.items (tells_all sockets l.fn.frames) l.frames;
}

abbrev pub decreases-loop-item : goal.decreases-loop-item
decreases-loop-item l = length l.frames
