use Rattle.std.proofs.Common.{◌++◌, ◌∙◌, ap, subst, refl}
use Rattle.ch_base.specs.declared.channel.ChanCall.{ChanCall}
use Rattle.ch_history.specs.Placement.{shard_of}
use Rattle.ch_transcript.specs.Printing.{sent_line}
use Rattle.ch_transcript.specs.Obeying.{publishes}
use Rattle.ch_player.specs.Steps.{Asked}
use Rattle.ch_player.proofs.Played.{on_ok}
use Rattle.ch_player.proofs.player.Player.make_publish.Goals as goal

pub returns-clause-publishes : goal.returns-clause-publishes
returns-clause-publishes c = λ p is.
    let k = shard_of c.args.channel.now c.args.self.now.config.chan_shards in
    let P : ChanCall → Type 0 = λ z. Asked k z c.ask_publish.new.bench p.shards c.in_ok-answer.answer in
    let asked = subst P c.in_ok-call.ensures (c.in_ok-answer.ensures.asked p.shards is.shards) in
    on_ok c.put_sent.result (λ text. record {
      played = publishes c.args.self.now.config p c.args.at c.args.channel.now c.args.event.now c.args.body.now c.args.except;
      is = refl;
      text = text ∙ ap (λ a. c.args.out.now.items ++ sent_line a) asked.answered;
      next = record { at = is.at; seats = is.seats; shards = asked.at_shards; webhooks = is.webhooks };
    }) c.put_sent.ensures.ok
