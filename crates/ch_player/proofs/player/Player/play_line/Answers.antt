use Rattle.std.proofs.Common.{sym, append-nil}
use Rattle.std.specs.Prelude.{Some, None}
use Rattle.ch_transcript.specs.Progress.{quietly}
use Rattle.ch_transcript.specs.declared.commands.Line.TheVariants.{Skipped, Timed, Bad}
use Rattle.ch_player.specs.Playing.{PlaysLine}
use Rattle.ch_player.proofs.Played.{answer_map, line_is, skipped_is, bad_is}
use Rattle.ch_player.proofs.player.Player.play_line.Goals as goal

pub returns-in-Skipped-clause-plays : goal.returns-in-Skipped-clause-plays
returns-in-Skipped-clause-plays c = λ p is. record {
  played = quietly p;
  is = line_is c.args.self.now.config p c.args.line.now Skipped c.in-Skipped.is (Some (quietly p)) (skipped_is c.args.self.now.config p);
  text = sym (append-nil c.args.out.now.items);
  next = is;
}

pub returns-in-Timed-clause-plays : goal.returns-in-Timed-clause-plays
returns-in-Timed-clause-plays c = λ p is.
    answer_map c.obey_at.result c.obey_at.new.self c.args.out.now.items c.obey_at.new.out.items _ (PlaysLine c.args.self.now.config p c.args.line.now)
    (line_is c.args.self.now.config p c.args.line.now (Timed c.in-Timed.at c.in-Timed.command) c.in-Timed.is) (c.obey_at.ensures.obeys p is)

pub returns-in-Bad-clause-plays : goal.returns-in-Bad-clause-plays
returns-in-Bad-clause-plays c = λ p is. line_is c.args.self.now.config p c.args.line.now Bad c.in-Bad.is None (bad_is c.args.self.now.config p)
