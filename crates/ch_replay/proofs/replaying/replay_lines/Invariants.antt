use Rattle.std.proofs.Common.{◌≡◌, ◌≤◌, ◌+◌, length}
use Rattle.ch_player.specs.Playing.{IsSoundPlayer, config_of}
use Rattle.ch_replay.proofs.Running.{Runs}
use Rattle.ch_replay.proofs.replaying.replay_lines.Given as goal

abbrev pub invariant-lines : goal.invariant-lines
invariant-lines g l = record {
  runs : Runs l.fn.config (g.S.Source.left l.fn.source) (g.S.Source.left l.source) (g.K.Sink.told l.fn.sink) (g.K.Sink.told l.sink) (g.S.Source.limit l.source) l.number l.player l.reader;
  sound : IsSoundPlayer l.player;
  over : config_of l.player ≡ l.fn.config;
  read : g.S.Source.faults l.fn.source ≤ g.S.Source.faults l.source;
  wrote : g.K.Sink.faults l.fn.sink ≤ g.K.Sink.faults l.sink;
}

abbrev pub decreases-lines : goal.decreases-lines
decreases-lines g l = g.S.Source.limit l.source + length l.reader
