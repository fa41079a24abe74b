use Rattle.std.proofs.Common.{◌≡◌, ◌≤◌, length, ap, sym, refl, ◌∙◌, subst, arith}
use Rattle.ch_protocol.specs.declared.ask.Made.TheVariants.{Chan}
use Rattle.ch_protocol.specs.declared.limits.TheConstants.{MAX_SUBSCRIPTIONS}
use Rattle.ch_session.specs.declared.waiting.Waiting.TheVariants.{Nothing}
use Rattle.ch_session.specs.Kept.{Kept, IsSettled}
use Rattle.ch_session.specs.Waits.{AwaitsNext}
use Rattle.ch_session.specs.Told.{used_with}
use Rattle.ch_session.proofs.SettlingLemmas.{room_for, few_if_fit, few_after, length-used_with, chan_settled}
use Rattle.ch_session.proofs.session.Session.settle_chan.Goals as goal

pub answered-requires-clause-few : goal.answered-requires-clause-few
answered-requires-clause-few c =
    let may = c.requires.next.1 in
    let awaits = subst (λ (s : Kept). AwaitsNext s.waits c.requires.next.0 may.ask may.asks) (sym c.self.view_is) may.awaits in
    room_for c.self.inside.told c.self.inside.chans c.self.inside.waits c.requires.next.0 may.ask may.asks c.args.answer.now awaits may.comes c.self.invariant.4

pub invariant_of-self : goal.invariant_of-self
invariant_of-self c =
    let may = c.requires.next.1 in
    let awaits = subst (λ (s : Kept). AwaitsNext s.waits c.requires.next.0 may.ask may.asks) (sym c.self.view_is) may.awaits in
    let room = room_for c.self.inside.told c.self.inside.chans c.self.inside.waits c.requires.next.0 may.ask may.asks c.args.answer.now awaits may.comes c.self.invariant.4 in
    let few = few_if_fit c.self.inside.told c.self.inside.chans c.self.inside.waits c.self.invariant.4 in
    let same : length c.answered.new.self.used ≡ length c.self.inside.told.used =
    ap length c.answered.ensures.used ∙ length-used_with c.self.inside.told.used c.chan_shard-shard.result (Chan c.args.answer.now) in (
      c.self.invariant.0,
      omega (arith, same, c.self.invariant.1),
      omega (arith, same, c.self.invariant.2),
      c.self.invariant.3,
      subst (λ n. n ≤ MAX_SUBSCRIPTIONS) (sym c.answered.ensures.subscriptions) (few_after c.self.inside.told.subscriptions c.args.answer.now room few),
    )

pub returns-clause-settled : goal.returns-clause-settled
returns-clause-settled c = λ place ask asks awaits comes.
    let shard = c.chan_shard-shard.ensures in
    let used = c.answered.ensures.used ∙ ap (λ n. used_with c.self.inside.told.used n (Chan c.args.answer.now)) shard in
    let old : Kept = record { start = c.self.inside.start; number = c.self.inside.number; chans = c.self.inside.chans; told = c.self.inside.told; waits = c.self.inside.waits; quiet = c.self.inside.activity; lost = c.self.inside.lost } in
    let new : Kept = record old { told = c.answered.new.self; waits = Nothing } in
    let P : Kept → Type 0 = λ s. IsSettled s new place ask asks (Chan c.args.answer.now) c.args.now c.chan_outcome.result in
    subst P c.self.view_is
    (chan_settled old new c.args.answer.now c.args.now c.chan_outcome.result c.self.invariant refl refl refl refl
    c.answered.ensures.subscriptions c.answered.ensures.user c.answered.ensures.rate used c.chan_outcome.ensures place ask asks
    (subst (λ (s : Kept). AwaitsNext s.waits place ask asks) (sym c.self.view_is) awaits) comes)
