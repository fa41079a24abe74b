use Rattle.std.proofs.Common.{◌==◌, bytes_eq, ◌∙◌, sym}
use Rattle.ch_history.proofs.Lists.{list_any-filter}
use Rattle.ch_subs.proofs.subs.is_on.Goals as goal

pub returns : goal.returns
returns c = c.has.ensures ∙ sym (list_any-filter (λ s. s.socket == c.args.socket) (λ s. bytes_eq s.channel c.args.channel.now) c.args.index.now)
