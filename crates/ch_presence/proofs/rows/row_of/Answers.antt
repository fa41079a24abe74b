use Rattle.std.proofs.Common.{◌==◌, bytes_eq, ◌∙◌}
use Rattle.ch_presence.specs.declared.present.Present.{Present}
use Rattle.ch_presence.proofs.FirstRow.{find-filter}
use Rattle.ch_presence.proofs.rows.row_of.Goals as goal

pub returns : goal.returns
returns c = c.find.ensures ∙ find-filter (λ (r : Present). r.socket == c.args.socket) (λ r. bytes_eq r.channel c.args.channel.now) c.args.index.now
