use Rattle.std.proofs.Common.{◌≡◌, true, ◌∙◌, [], ◌∷◌}
use Rattle.ch_house.specs.declared.counts.ShardCount.{ShardCount}
use Rattle.ch_house.specs.Closes.{ClosedModel}
use Rattle.ch_drill.proofs.TwoCounts.{two_are}
use Rattle.ch_drill.proofs.closing.is_closed_after.Goals as goal

both : (a b x y : ShardCount) → a ≡ x → b ≡ y → a ∷ b ∷ [] ≡ x ∷ y ∷ []
both a b x y p q = λ i. p i ∷ q i ∷ []

pub returns : goal.returns
returns c = λ last.
    let f1 = c.if-not-is_all_closed.false in
    let f2 = c.if-not-is_all_closed-2.false in
    let f3 = c.if-not-is_all_closed-3.false in
    let t1 : c.is_all_closed.result ≡ true = cc in
    let t2 : c.is_all_closed-2.result ≡ true = cc in
    let t3 : c.is_all_closed-3.result ≡ true = cc in
    let chans = two_are c.args.closed.now.chans c.chan.result c.chan-2.result c.requires.chans c.chan.ensures c.chan-2.ensures
    ∙ both _ _ _ _ (c.is_all_closed.ensures.0 t1) (c.is_all_closed-2.ensures.0 t2) in
    let users = two_are c.args.closed.now.users c.user.result c.user-2.result c.requires.users c.user.ensures c.user-2.ensures
    ∙ both _ _ _ _ (c.is_all_closed-3.ensures.0 t3) (c.is_all_closed-4.ensures.0 last) in
    λ i. let m : ClosedModel = record { chans = chans i; users = users i } in m
