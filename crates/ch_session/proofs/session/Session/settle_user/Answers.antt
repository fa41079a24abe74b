use Rattle.std.proofs.Common.{◌+◌, ◌<◌, length, ap, sym, refl, ◌∙◌, subst}
use Rattle.ch_protocol.specs.declared.ask.Made.TheVariants.{User}
use Rattle.ch_protocol.specs.declared.heard.Settled.TheVariants.{Nothing}
use Rattle.ch_session.specs.Kept.{Kept, IsSettled, IsFit}
use Rattle.ch_session.specs.Waits.{AwaitsNext, waits_on}
use Rattle.ch_session.proofs.SettlingLemmas.{first_fits, sign_in_settled, watch_settled}
use Rattle.ch_session.proofs.session.Session.settle_user.Goals as goal

pub returns-in-SignIn-clause-settled : goal.returns-in-SignIn-clause-settled
returns-in-SignIn-clause-settled c = λ place now ask asks awaits comes.
    let old : Kept = record { start = c.self.inside.start; number = c.self.inside.number; chans = c.self.inside.chans; told = c.self.inside.told; waits = c.self.inside.waits; quiet = c.self.inside.activity; lost = c.self.inside.lost } in
    let new : Kept = record old { told = c.signed_in.new.self; waits = c.on.result } in
    let waits = sym c.in-SignIn.ensures.value in
    let fit = subst (λ w. IsFit c.self.inside.told c.self.inside.chans w) waits c.self.invariant.4 in
    let P : Kept → Type 0 = λ s. IsSettled s new place ask asks (User c.args.answer.now) now c.sign_in_outcome.result in
    subst P c.self.view_is
    (sign_in_settled old new c.in-SignIn.shard c.in-SignIn.user c.in-SignIn.user_data c.in-SignIn.watches c.args.answer.now c.sign_in_outcome.result
    waits fit.1 refl refl refl c.on.ensures c.signed_in.ensures c.sign_in_outcome.ensures place now ask asks
    (subst (λ (s : Kept). AwaitsNext s.waits place ask asks) (sym c.self.view_is) awaits) comes)

pub returns-in-Some-clause-settled : goal.returns-in-Some-clause-settled
returns-in-Some-clause-settled c = λ place now ask asks awaits comes.
    let old : Kept = record { start = c.self.inside.start; number = c.self.inside.number; chans = c.self.inside.chans; told = c.self.inside.told; waits = c.self.inside.waits; quiet = c.self.inside.activity; lost = c.self.inside.lost } in
    let new : Kept = record old { told = c.uses.new.self; waits = c.on-in-Watches.result } in
    let waits = sym c.in-Watches.ensures.value in
    let fit = subst (λ w. IsFit c.self.inside.told c.self.inside.chans w) waits c.self.invariant.4 in
    let below : c.self.inside.chans + c.in-Some.shard < length c.self.inside.told.used =
    first_fits _ _ c.in-Watches.shards c.in-Some.shard fit.1 (sym c.in-Some.ensures.first) in
    let P : Kept → Type 0 = λ s. IsSettled s new place ask asks (User c.args.answer.now) now Nothing in
    subst P c.self.view_is
    (watch_settled old new c.in-Watches.shards c.in-Some.shard c.args.answer.now waits (sym c.in-Some.ensures.first) below
    refl refl refl (c.on-in-Watches.ensures ∙ ap waits_on c.in-Some.ensures.rest) c.uses.ensures place now ask asks
    (subst (λ (s : Kept). AwaitsNext s.waits place ask asks) (sym c.self.view_is) awaits) comes)
