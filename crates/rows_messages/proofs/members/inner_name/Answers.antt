use Rattle.ch_base.specs.JsonTree.{object as object_form}
use Rattle.rows_messages.proofs.members.inner_name.Goals as goal

pub object_member-requires : goal.object_member-requires
object_member-requires c = let r = c.requires in (r.members, r.span, c.top-top.ensures c.args.text.now (object_form r.members r.span) r.spelled r.tree)

pub string_member-requires : goal.string_member-requires
string_member-requires c =
    let r = c.requires in
    let top = c.top-top.ensures c.args.text.now (object_form r.members r.span) r.spelled r.tree in
    let inner = c.in-Some.ensures r.members (r.span, top) in
    (inner.0, inner.2.0, inner.2.1)
