use Rattle.std.proofs.Common.{◌==◌, bytes_eq, ◌∙◌, sym}
use Rattle.ch_history.proofs.Lists.{list_any-filter}
use Rattle.ch_watch.proofs.rows.is_of.Goals as goal

pub returns : goal.returns
returns c = c.has.ensures ∙ sym (list_any-filter (λ r. r.socket == c.args.socket) (λ r. bytes_eq r.user c.args.user.now) c.args.index.now)
