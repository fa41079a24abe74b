use Rattle.std.proofs.Common.{◌≡◌, ◌∙◌, ap, sym, slice_get, Some}
use Rattle.std.specs.Option.{option_copied}
use Rattle.ch_history.specs.SignIns.{of_user}
use Rattle.ch_watch.proofs.OfUser.{of_user-at}
use Rattle.ch_watch.proofs.user_rows.UserRows.holder.Goals as goal

pub returns : goal.returns
returns c =
    let is : slice_get (of_user c.args.self.now c.args.user.now) c.args.i ≡ Some c.in-Some.row.now =
    ap (λ xs. slice_get (of_user xs c.args.user.now) c.args.i) (sym c.self.view_is) ∙ sym c.nth.ensures ∙ ap option_copied c.in-Some.is in
    of_user-at c.args.self.now c.args.user.now c.args.i c.in-Some.row.now is
