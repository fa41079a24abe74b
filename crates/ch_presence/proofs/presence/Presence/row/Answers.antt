use Rattle.std.proofs.Common.{◌<◌, ◌∙◌, ap, sym, subst, length, List}
use Rattle.std.specs.Option.{option_copied}
use Rattle.ch_presence.specs.declared.present.Present.{Present}
use Rattle.ch_presence.specs.Members.{ids_on}
use Rattle.ch_presence.proofs.NthUser.{some_user}
use Rattle.ch_presence.proofs.presence.Presence.row.Goals as goal

pub unreachable-requires : goal.unreachable-requires
unreachable-requires c =
    let channel = c.args.channel.now in
    let inside : c.args.i < length (ids_on c.self.inside.index channel) =
    subst (λ (rows : List Present). c.args.i < length (ids_on rows channel)) (sym (ap (λ r. r.rows) c.self.view_is)) c.requires in
    some_user c.self.inside.index channel c.args.i inside (sym c.nth_user.ensures ∙ ap option_copied c.in-None.is)
