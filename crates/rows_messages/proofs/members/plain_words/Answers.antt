use Rattle.ch_base.specs.JsonTree.{object as object_form}
use Rattle.rows_messages.proofs.members.plain_words.Goals as goal

pub string_member-requires : goal.string_member-requires
string_member-requires c = let r = c.requires in (r.members, r.span, c.top-top.ensures c.args.text.now (object_form r.members r.span) r.spelled r.tree)

pub optional_member-requires : goal.optional_member-requires
optional_member-requires c = let r = c.requires in (r.members, r.span, c.top-top.ensures c.args.text.now (object_form r.members r.span) r.spelled r.tree)

pub spelled_member-requires : goal.spelled_member-requires
spelled_member-requires c = let r = c.requires in (r.members, r.span, c.top-top.ensures c.args.text.now (object_form r.members r.span) r.spelled r.tree)

pub is_absent-absent-requires : goal.is_absent-absent-requires
is_absent-absent-requires c = let r = c.requires in (r.members, r.span, c.top-top.ensures c.args.text.now (object_form r.members r.span) r.spelled r.tree)
