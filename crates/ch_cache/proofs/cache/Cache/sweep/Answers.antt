use Rattle.std.proofs.Common.{◌∙◌, ap}
use Rattle.ch_cache.specs.Latest.{latest_in}
use Rattle.ch_cache.proofs.Latest.{latest_in-swept}
use Rattle.ch_cache.proofs.cache.Cache.sweep.Goals as goal

pub returns-clause-latest : goal.returns-clause-latest
returns-clause-latest c = λ d at after.
    ap (λ es. latest_in es d at) c.keep_lasting.ensures
    ∙ latest_in-swept c.self.inside.events.items c.args.now d at after
    ∙ ap (λ es. latest_in es d at) c.self.view_is
