use Rattle.std.proofs.Common.{◌==◌, ◌&&◌, bytes_eq, ◌∙◌, ap, sym}
use Rattle.std.specs.List.{list_any}
use Rattle.ch_history.specs.declared.rows.Subscription.{Subscription}
use Rattle.ch_history.proofs.Lists.{list_any-filter}
use Rattle.ch_subs.proofs.subs.Subs.join.Goals as goal

pub add-requires : goal.add-requires
add-requires c =
    ap (λ (t : Subscription). list_any (λ (s : Subscription). (s.socket == t.socket) && bytes_eq s.channel t.channel) c.self.inside.index) c.in_ok-row.ensures
    ∙ sym (list_any-filter (λ (s : Subscription). s.socket == c.args.socket) (λ s. bytes_eq s.channel c.args.channel.now) c.self.inside.index)
    ∙ sym c.is_on.ensures
    ∙ c.if-is_on.false
