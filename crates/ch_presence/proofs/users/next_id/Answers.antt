use Rattle.std.proofs.Common.{◌∙◌, ap, None}
use Rattle.std.specs.Option.{option_copied}
use Rattle.ch_presence.proofs.LeastId.{least_from, least_on}
use Rattle.ch_presence.proofs.users.next_id.Goals as goal

pub walk-init : goal.walk-init
walk-init c = (
  tt,
  tt,
  ap (least_from (option_copied c.args.after) None) c.walk-walk.ensures ∙ least_on (option_copied c.args.after) c.args.index.now c.args.channel.now,
)
