use Rattle.std.proofs.Common.{◌∙◌, ap}
use Rattle.ch_transcript.specs.Joining.{join_text}
use Rattle.ch_player.specs.Steps.{Obeys}
use Rattle.ch_player.proofs.Played.{answer_map, obeys_open, obeys_say, obeys_join, obeys_sign_in, obeys_lose, obeys_tick, obeys_publish, obeys_tail, obeys_hooks, obeys_api, obeys_http}
use Rattle.ch_player.proofs.player.Player.obey.Goals as goal

pub returns-in-Open-clause-obeys : goal.returns-in-Open-clause-obeys
returns-in-Open-clause-obeys c = λ p is.
    answer_map c.open.result c.open.new.self c.args.out.now.items c.open.new.out.items _ (Obeys c.args.self.now.config p c.args.at c.args.command.now)
    (obeys_open c.args.self.now.config p c.args.at c.args.command.now c.in-Open.target c.in-Open.is) (c.open.ensures.opens p is)

pub returns-in-Say-clause-obeys : goal.returns-in-Say-clause-obeys
returns-in-Say-clause-obeys c = λ p is.
    answer_map c.hear.result c.hear.new.self c.args.out.now.items c.hear.new.out.items _ (Obeys c.args.self.now.config p c.args.at c.args.command.now)
    (obeys_say c.args.self.now.config p c.args.at c.args.command.now c.in-Say.number c.in-Say.text c.in-Say.is) (c.hear.ensures.hears p is)

pub returns-in-Lose-clause-obeys : goal.returns-in-Lose-clause-obeys
returns-in-Lose-clause-obeys c = λ p is.
    answer_map c.lose.result c.lose.new.self c.args.out.now.items c.args.out.now.items _ (Obeys c.args.self.now.config p c.args.at c.args.command.now)
    (obeys_lose c.args.self.now.config p c.args.at c.args.command.now c.in-Lose.number c.in-Lose.is) (c.lose.ensures.loses p c.args.out.now.items is)

pub returns-in-Tick-clause-obeys : goal.returns-in-Tick-clause-obeys
returns-in-Tick-clause-obeys c = λ p is.
    answer_map c.tick.result c.tick.new.self c.args.out.now.items c.tick.new.out.items _ (Obeys c.args.self.now.config p c.args.at c.args.command.now)
    (obeys_tick c.args.self.now.config p c.args.at c.args.command.now c.in-Tick.number c.in-Tick.is) (c.tick.ensures.ticks p is)

pub returns-in-Publish-clause-obeys : goal.returns-in-Publish-clause-obeys
returns-in-Publish-clause-obeys c = λ p is.
    answer_map c.publish.result c.publish.new.self c.args.out.now.items c.publish.new.out.items _ (Obeys c.args.self.now.config p c.args.at c.args.command.now)
    (obeys_publish c.args.self.now.config p c.args.at c.args.command.now c.in-Publish.channel c.in-Publish.event c.in-Publish.body c.in-Publish.except c.in-Publish.is) (c.publish.ensures.publishes p is)

pub returns-in-Tail-clause-obeys : goal.returns-in-Tail-clause-obeys
returns-in-Tail-clause-obeys c = λ p is.
    answer_map c.tail.result c.tail.new.self c.args.out.now.items c.tail.new.out.items _ (Obeys c.args.self.now.config p c.args.at c.args.command.now)
    (obeys_tail c.args.self.now.config p c.args.at c.args.command.now c.in-Tail.shard c.in-Tail.is) (c.tail.ensures.tails p is)

pub returns-in_ok-text-in-Join-clause-obeys : goal.returns-in_ok-text-in-Join-clause-obeys
returns-in_ok-text-in-Join-clause-obeys c = λ p is.
    answer_map c.hear-in-Join.result c.hear-in-Join.new.self c.args.out.now.items c.hear-in-Join.new.out.items _ (Obeys c.args.self.now.config p c.args.at c.args.command.now)
    (obeys_join c.args.self.now.config p c.args.at c.args.command.now c.in-Join.number c.in-Join.channel c.in_ok-text-in-Join.text c.in-Join.channel_data c.in-Join.is
    (c.in_ok-text-in-Join.ensures ∙ ap (join_text c.args.self.now.config c.in-Join.number c.in-Join.channel) c.as_ref.ensures.value)) (c.hear-in-Join.ensures.hears p is)

pub returns-in_ok-text-in-SignIn-clause-obeys : goal.returns-in_ok-text-in-SignIn-clause-obeys
returns-in_ok-text-in-SignIn-clause-obeys c = λ p is.
    answer_map c.hear-in-SignIn.result c.hear-in-SignIn.new.self c.args.out.now.items c.hear-in-SignIn.new.out.items _ (Obeys c.args.self.now.config p c.args.at c.args.command.now)
    (obeys_sign_in c.args.self.now.config p c.args.at c.args.command.now c.in-SignIn.number c.in-SignIn.user_data c.in_ok-text-in-SignIn.text c.in-SignIn.is c.in_ok-text-in-SignIn.ensures) (c.hear-in-SignIn.ensures.hears p is)

pub returns-in_ok-bytes-in-Api-clause-obeys : goal.returns-in_ok-bytes-in-Api-clause-obeys
returns-in_ok-bytes-in-Api-clause-obeys c = λ p is.
    answer_map c.exchange.result c.exchange.new.self c.args.out.now.items c.exchange.new.out.items _ (Obeys c.args.self.now.config p c.args.at c.args.command.now)
    (obeys_api c.args.self.now.config p c.args.at c.args.command.now c.in-Api.method c.in-Api.path c.in-Api.query c.in-Api.body c.as_slice.result.now c.in-Api.is
    (c.as_slice.ensures ∙ c.in_ok-bytes-in-Api.ensures)) (c.exchange.ensures.exchanges p is)

pub returns-in-Hooks-clause-obeys : goal.returns-in-Hooks-clause-obeys
returns-in-Hooks-clause-obeys c = λ p is.
    answer_map c.hooks.result c.hooks.new.self c.args.out.now.items c.hooks.new.out.items _ (Obeys c.args.self.now.config p c.args.at c.args.command.now)
    (obeys_hooks c.args.self.now.config p c.args.at c.args.command.now c.in-Hooks.is) (c.hooks.ensures.gathers p is)

pub returns-in-Http-clause-obeys : goal.returns-in-Http-clause-obeys
returns-in-Http-clause-obeys c = λ p is.
    answer_map c.exchange-in-Http.result c.exchange-in-Http.new.self c.args.out.now.items c.exchange-in-Http.new.out.items _ (Obeys c.args.self.now.config p c.args.at c.args.command.now)
    (obeys_http c.args.self.now.config p c.args.at c.args.command.now c.in-Http.bytes c.as_slice-in-Http.result.now c.in-Http.is c.as_slice-in-Http.ensures) (c.exchange-in-Http.ensures.exchanges p is)
