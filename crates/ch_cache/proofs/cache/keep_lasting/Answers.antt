use Rattle.std.proofs.Common.{rules}
use Rattle.std.proofs.lemmas.Fn.{filter_same}
use Rattle.ch_cache.specs.Latest.{lasts}
use Rattle.ch_cache.proofs.cache.keep_lasting.Goals as goal

pub returns : goal.returns
returns c = filter_same _ (lasts c.args.now) _ (λ x b f k. search rules) _ _ c.retain.ensures.filtered
