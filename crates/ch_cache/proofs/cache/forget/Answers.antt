use Rattle.std.proofs.Common.{rules, not}
use Rattle.std.proofs.lemmas.Fn.{filter_same}
use Rattle.ch_cache.specs.Latest.{is_event_on}
use Rattle.ch_cache.proofs.cache.forget.Goals as goal

pub returns-clause-items : goal.returns-clause-items
returns-clause-items c = filter_same _ (λ e. not (is_event_on c.args.channel.now e)) _ (λ x b f k. search rules) _ _ c.retain.ensures.filtered
