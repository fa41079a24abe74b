use Rattle.std.proofs.Common.{[], refl, sym, subst, rules}
use Rattle.std.specs.Prelude.{IfOk, IsTrue}
use Rattle.ch_base.specs.declared.channel.ChanCall.TheVariants.{Say}
use Rattle.ch_history.specs.ChannelName.{may_say, kind_of}
use Rattle.ch_base.specs.declared.error_codes.TheConstants.{RATE_LIMIT_REACHED}
use Rattle.ch_session.specs.Judging.{IsReady}
use Rattle.ch_session.specs.Kept.{Kept, HasShardsOf}
use Rattle.ch_session.proofs.JudgingLemmas.{call_ready, refusal_ready}
use Rattle.ch_session.proofs.SettlingLemmas.{few_if_fit}
use Rattle.ch_session.proofs.session.Session.say.Goals as goal

pub returns-then-not-allowed-clause-ready : goal.returns-then-not-allowed-clause-ready
returns-then-not-allowed-clause-ready c =
    let old : Kept = record { start = c.self.inside.start; number = c.self.inside.number; chans = c.self.inside.chans; told = c.self.inside.told; waits = c.self.inside.waits; quiet = c.self.inside.activity; lost = c.self.inside.lost } in
    let P : Kept → Type 0 = λ s. IsReady s c.args.config.now [] c.plain-then-not-allowed.result in
    let few = few_if_fit c.self.inside.told c.self.inside.chans c.self.inside.waits c.self.invariant.4 in
    subst P c.self.view_is (refusal_ready old c.args.config.now RATE_LIMIT_REACHED c.plain-then-not-allowed.result few c.plain-then-not-allowed.ensures)

pub returns-clause-ready : goal.returns-clause-ready
returns-clause-ready c =
    let old : Kept = record { start = c.self.inside.start; number = c.self.inside.number; chans = c.self.inside.chans; told = c.self.inside.told; waits = c.self.inside.waits; quiet = c.self.inside.activity; lost = c.self.inside.lost } in
    let P : Kept → Type 0 = λ s. IfOk c.call.result (IsReady s c.args.config.now []) in
    let over = subst (λ (s : Kept). HasShardsOf s c.args.config.now) (sym c.self.view_is) c.requires.over in
    let few = few_if_fit c.self.inside.told c.self.inside.chans c.self.inside.waits c.self.invariant.4 in
    let may : IsTrue (may_say (kind_of c.args.channel)) = search rules in
    subst P c.self.view_is
    (call_ready old c.args.config.now c.shard_of-shard.result (Say c.self.inside.number c.args.channel c.args.event c.args.body c.args.now) c.call.result over
    (c.self.invariant.3, c.requires.now, c.requires.channel, may, c.requires.event, c.requires.body) (search rules) refl few c.shard_of-shard.ensures.below c.call.ensures)
