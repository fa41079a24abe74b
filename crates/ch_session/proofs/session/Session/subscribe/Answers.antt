use Rattle.std.proofs.Common.{◌≡◌, ◌<◌, false, [], sym, subst, rules}
use Rattle.std.specs.Prelude.{◌&&◌, is_none, IfOk}
use Rattle.ch_history.specs.ChannelName.{is_presence}
use Rattle.ch_session.specs.Judging.{IsReady}
use Rattle.ch_session.specs.Kept.{Kept, HasShardsOf}
use Rattle.ch_session.proofs.JudgingLemmas.{join_ready}
use Rattle.ch_session.proofs.session.Session.subscribe.Goals as goal
use Rattle.ch_protocol.specs.declared.limits.TheConstants.{MAX_SUBSCRIPTIONS}

pub returns-clause-ready : goal.returns-clause-ready
returns-clause-ready c =
    let old : Kept = record { start = c.self.inside.start; number = c.self.inside.number; chans = c.self.inside.chans; told = c.self.inside.told; waits = c.self.inside.waits; quiet = c.self.inside.activity; lost = c.self.inside.lost } in
    let P : Kept → Type 0 = λ s. IfOk c.call.result (IsReady s c.args.config.now []) in
    let over = subst (λ (s : Kept). HasShardsOf s c.args.config.now) (sym c.self.view_is) c.requires.over in
    let room : c.self.inside.told.subscriptions < MAX_SUBSCRIPTIONS = search rules in
    let there : (is_presence c.args.channel && is_none c.args.member) ≡ false = search rules in
    subst P c.self.view_is
    (join_ready old c.args.config.now c.shard_of-shard.result c.args.now c.args.channel c.args.member c.call.result over c.self.invariant.3 c.requires.now
    c.requires.channel c.requires.member there room (search rules) c.shard_of-shard.ensures.below c.call.ensures)
