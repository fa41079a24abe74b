use Rattle.ch_base.specs.JsonTree.{object as object_form}
use Rattle.rows_messages.proofs.members.list_strings.Goals as goal

pub array_member-requires : goal.array_member-requires
array_member-requires c = let r = c.requires in (r.members, r.span, c.top-top.ensures c.args.text.now (object_form r.members r.span) r.spelled r.tree)

pub strings_of-requires : goal.strings_of-requires
strings_of-requires c =
    let r = c.requires in
    let top = c.top-top.ensures c.args.text.now (object_form r.members r.span) r.spelled r.tree in
    let list = c.in-Some.ensures r.members (r.span, top) in
    (list.0, list.2)
