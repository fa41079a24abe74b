use Rattle.std.proofs.Common.{refl, arith, subst}
use Rattle.ch_transcript.specs.Outcomes.{at_moment}
use Rattle.ch_transcript.specs.declared.commands.Line.TheVariants.{Timed}
use Rattle.ch_player.specs.Playing.{PlaysLine}
use Rattle.ch_player.proofs.Played.{Plays_or, answer_map, timed_none, timed_is}
use Rattle.ch_player.proofs.player.Player.obey_at.Goals as goal

pub returns-then-at-self-clause-obeys : goal.returns-then-at-self-clause-obeys
returns-then-at-self-clause-obeys c = λ p is.
    timed_none c.args.self.now.config p c.args.at c.args.command.now (omega (arith, is.at, c.if-at-self.true))

pub returns-in-Ok-clause-obeys : goal.returns-in-Ok-clause-obeys
returns-in-Ok-clause-obeys c = λ p is.
    subst (λ r. Plays_or r c.obey_whole.new.self c.args.out.now.items c.obey_whole.new.out.items (PlaysLine c.args.self.now.config p (Timed c.args.at c.args.command.now))) c.in-Ok.is
    (answer_map c.obey_whole.result c.obey_whole.new.self c.args.out.now.items c.obey_whole.new.out.items _ (PlaysLine c.args.self.now.config p (Timed c.args.at c.args.command.now))
    (timed_is c.args.self.now.config p c.args.at c.args.command.now (omega (arith, is.at, c.if-at-self.false)))
    (c.obey_whole.ensures.obeys (at_moment c.args.at p) (record { at = refl; seats = is.seats; shards = is.shards; webhooks = is.webhooks })))

pub returns-in-Err-clause-obeys : goal.returns-in-Err-clause-obeys
returns-in-Err-clause-obeys c = λ p is.
    subst (λ r. Plays_or r c.obey_whole.new.self c.args.out.now.items c.obey_whole.new.out.items (PlaysLine c.args.self.now.config p (Timed c.args.at c.args.command.now))) c.in-Err.is
    (answer_map c.obey_whole.result c.obey_whole.new.self c.args.out.now.items c.obey_whole.new.out.items _ (PlaysLine c.args.self.now.config p (Timed c.args.at c.args.command.now))
    (timed_is c.args.self.now.config p c.args.at c.args.command.now (omega (arith, is.at, c.if-at-self.false)))
    (c.obey_whole.ensures.obeys (at_moment c.args.at p) (record { at = refl; seats = is.seats; shards = is.shards; webhooks = is.webhooks })))
