use Rattle.std.proofs.Common.{◌∙◌, ◌==◌, ap, not}
use Rattle.std.specs.List.{list_any}
use Rattle.ch_history.specs.SignIns.{of_user}
use Rattle.ch_watch.proofs.OfUser.{has_any-without}
use Rattle.ch_watch.proofs.user_rows.UserRows.has_other.Goals as goal

pub returns : goal.returns
returns c =
    c.has_other.ensures
    ∙ ap (λ xs. list_any (λ r. not (r.socket == c.args.socket)) (of_user xs c.args.user.now)) c.self.view_is
    ∙ has_any-without c.args.self.now c.args.socket c.args.user.now
