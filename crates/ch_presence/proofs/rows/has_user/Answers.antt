use Rattle.std.proofs.Common.{◌∙◌, sym}
use Rattle.ch_presence.proofs.NthUser.{has_text-ids_on}
use Rattle.ch_presence.proofs.rows.has_user.Goals as goal

pub returns : goal.returns
returns c = c.is_any.ensures ∙ sym (has_text-ids_on c.args.index.now c.args.channel.now c.args.user_id.now)
