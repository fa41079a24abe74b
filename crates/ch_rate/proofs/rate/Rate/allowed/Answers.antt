use Rattle.std.proofs.Common.{◌∙◌, ap, nat_le, arith}
use Rattle.ch_rate.proofs.RateLemmas.{rate_allows-few, rate_allows-ten}
use Rattle.ch_rate.proofs.rate.Rate.allowed.Goals as goal

pub returns-then-self-lt-LIMIT : goal.returns-then-self-lt-LIMIT
returns-then-self-lt-LIMIT c = λ accepted same.
    rate_allows-few _ accepted _ c.args.now c.self.told c.if-self-lt-LIMIT.true (c.self.view_is ∙ same)

pub returns-else-self-lt-LIMIT : goal.returns-else-self-lt-LIMIT
returns-else-self-lt-LIMIT c = λ accepted same.
    ap (λ waited. nat_le 1000 waited) c.saturating_sub.ensures
    ∙ rate_allows-ten _ accepted c.self.inside.kept c.args.now c.self.told (omega arith) (c.self.view_is ∙ same)
