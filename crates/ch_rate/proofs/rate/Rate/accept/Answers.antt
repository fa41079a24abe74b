use Rattle.std.proofs.Common.{◌∙◌}
use Rattle.ch_rate.proofs.RateLemmas.{last_ten-push}
use Rattle.ch_rate.proofs.rate.Rate.accept.Goals as goal

pub returns : goal.returns
returns c = λ accepted same.
    last_ten-push _ _ accepted c.self.inside.kept _ c.args.now c.self.told c.self.invariant (c.self.view_is ∙ same)
    c.rotate_left.ensures.after c.min-self-inside.ensures
