use Rattle.std.proofs.Common.{◌≡◌, ◌<◌, length, ap, sym, ◌∙◌, subst}
use Rattle.ch_house.proofs.Legality.{after_chan}
use Rattle.ch_house.proofs.house.House.chan.Goals as goal

pub invariant_of-passes : goal.invariant_of-passes
invariant_of-passes g c =
    let row : c.passes.inside.chans.row ≡ c.self.inside.chans = ap (λ v. v.house.chans) c.passes.view_is ∙ (ap (λ h. h.chans) c.requires.own ∙ ap (λ h. h.chans) (sym c.self.view_is)) in
    let within : c.args.shard < length c.passes.inside.chans.lists = subst (λ v. c.args.shard < length v.chans) (sym c.passes.view_is) c.requires.shard in
    let done = after_chan record { chans = c.self.inside.chans; users = c.self.inside.users } c.passes.inside.chans c.passes.inside.users c.call.new.passes c.args.shard c.passes.invariant.0 c.self.invariant row within c.call.ensures.legal
    c.call.ensures.known_callers c.call.ensures.same in
    (done, c.passes.invariant.1 ∙ sym (ap (λ p. p.caller) c.call.ensures.same))
