use Rattle.std.proofs.Common.{◌∙◌, [], ◌∷◌, ◌++◌, ap, sym, slice_get, List}
use Rattle.ch_presence.specs.declared.present.Present.{Present}
use Rattle.ch_presence.specs.Members.{rows_on}
use Rattle.ch_presence.specs.Users.{infos_of}
use Rattle.ch_presence.proofs.FirstRow.{members_on-push}
use Rattle.ch_presence.proofs.presence.Presence.row_with.Goals as goal

pub returns : goal.returns
returns c =
    let n = c.args.newcomer.now in
    c.nth_user.ensures
    ∙ ap (λ ms. slice_get (infos_of ms) c.args.i) (sym (members_on-push c.self.inside.index n))
    ∙ ap (λ (rows : List Present). slice_get (rows_on (rows ++ n ∷ []) n.channel) c.args.i) (ap (λ r. r.rows) c.self.view_is)
