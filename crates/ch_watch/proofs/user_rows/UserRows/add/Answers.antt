use Rattle.std.proofs.Common.{◌==◌, ◌&&◌, bytes_eq, ◌∙◌, ap, sym}
use Rattle.std.specs.List.{list_any}
use Rattle.ch_history.specs.declared.rows.UserSocket.{UserSocket}
use Rattle.ch_history.proofs.Lists.{list_any-filter}
use Rattle.ch_watch.proofs.user_rows.UserRows.add.Goals as goal

pub add-requires : goal.add-requires
add-requires c =
    ap (λ (t : UserSocket). list_any (λ (r : UserSocket). (r.socket == t.socket) && bytes_eq r.user t.user) c.self.inside.index) c.in_ok-row.ensures
    ∙ sym (list_any-filter (λ (r : UserSocket). r.socket == c.args.socket) (λ r. bytes_eq r.user c.args.user.now) c.self.inside.index)
    ∙ sym c.is_of.ensures
    ∙ c.if-is_of.false
