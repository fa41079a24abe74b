use Rattle.std.proofs.Common.{◌≡◌, ℕ, ◌<◌, length, ap, sym, ◌∙◌, subst}
use Rattle.ch_turn.specs.Callers.{CallersBelow}
use Rattle.ch_house.specs.Rows.{seen}
use Rattle.ch_house.proofs.Legality.{after_user}
use Rattle.ch_house.proofs.house.House.user.Goals as goal

pub invariant_of-passes : goal.invariant_of-passes
invariant_of-passes g c =
    let row : c.passes.inside.users.row ≡ c.self.inside.users = ap (λ v. v.house.users) c.passes.view_is ∙ (ap (λ h. h.users) c.requires.own ∙ ap (λ h. h.users) (sym c.self.view_is)) in
    let within : c.args.shard < length c.passes.inside.users.lists = subst (λ v. c.args.shard < length v.users) (sym c.passes.view_is) c.requires.shard in
    let done = after_user record { chans = c.self.inside.chans; users = c.self.inside.users } c.passes.inside.chans c.passes.inside.users c.call.new.passes c.args.shard c.passes.invariant.0 c.self.invariant row within c.call.ensures.legal
    c.call.ensures.known_callers c.call.ensures.same in
    (done, ap (λ p. p.caller) c.call.ensures.same ∙ c.passes.invariant.1)

pub returns-clause-known_callers : goal.returns-clause-known_callers
returns-clause-known_callers g c =
    subst (λ (n : ℕ). CallersBelow n (seen c.call.new.passes c.args.shard)) (c.self.invariant.callers ∙ ap (λ h. h.chans.callers) c.self.view_is) c.call.ensures.known_callers
