use Rattle.std.proofs.Common.{rules, not, bytes_eq}
use Rattle.std.proofs.lemmas.Fn.{filter_same}
use Rattle.ch_hooklog.proofs.hook_log.forget.Goals as goal

pub returns-clause-items : goal.returns-clause-items
returns-clause-items c = filter_same _ (λ n. not (bytes_eq n.channel c.args.channel.now)) _ (λ x b f k. search rules) _ _ c.retain.ensures.filtered
