use Rattle.std.proofs.Common.{◌∙◌, sym, bytes_eq}
use Rattle.ch_presence.specs.Members.{without}
use Rattle.ch_presence.proofs.FirstRow.{any_other}
use Rattle.ch_presence.proofs.NthUser.{has_text-ids_on}
use Rattle.ch_presence.proofs.rows.has_another.Goals as goal

pub returns : goal.returns
returns c =
    let channel = c.args.channel.now in
    c.is_another.ensures
    ∙ sym (any_other (λ r. bytes_eq r.member.user_id c.args.user_id.now) c.args.index.now channel c.args.socket)
    ∙ sym (has_text-ids_on (without c.args.index.now channel c.args.socket) channel c.args.user_id.now)
