use Rattle.std.proofs.Common.{◌≤◌, ◌∙◌, length, ap, subst, inl, inr, arith}
use Rattle.ch_base.specs.JsonParts.{items_of}
use Rattle.ch_base.specs.FirstPlaces.{first_places}
use Rattle.ch_json.specs.NodeOf.{IsNode}
use Rattle.ch_json.proofs.Forms.{array_from_form}
use Rattle.ch_protocol.specs.declared.limits.TheConstants.{LONGEST_WATCHLIST}
use Rattle.ch_protocol.specs.UserDataText.{AreIds}
use Rattle.ch_members.proofs.Gives.{gives_some, gives_none}
use Rattle.ch_members.proofs.MembersOfName.{null_from_form}
use Rattle.ch_frames.proofs.Watchlists.{no_watchlist, too_long, not_ids}
use Rattle.ch_frames.proofs.user.watchlist_at.Goals as goal

pub returns-then-count-gt-LONGEST_WATCHLIST : goal.returns-then-count-gt-LONGEST_WATCHLIST
returns-then-count-gt-LONGEST_WATCHLIST c = λ v node ws k.
    too_long c.args.text.now v c.in-List.count ws (c.in-List.ensures c.args.text.now v node) c.if-count-gt-LONGEST_WATCHLIST.true k

pub ids_of-requires : goal.ids_of-requires
ids_of-requires c =
    let text = c.args.text.now in
    let v = c.requires.0 in
    let node = c.requires.1 in
    let k = array_from_form v _ (c.in-List.ensures text v node) in
    (k.0, record { span = k.1; node = subst (IsNode text c.args.doc.now c.args.node) k.2 node; count = k.3 })

pub returns-in_default-2 : goal.returns-in_default-2
returns-in_default-2 c = λ v node ws h.
    let text = c.args.text.now in
    let form = c.in-List.ensures text v node in
    let k = array_from_form v _ form in
    let at = subst (IsNode text c.args.doc.now c.args.node) k.2 node in
    let none = gives_none (AreIds text (items_of k.0)) c.in_ok-ids-in-List.field-0 (c.in_ok-ids-in-List.ensures k.0 (record { span = k.1; node = at; count = k.3 })) c.in_default-2.not-Some in
    not_ids text v c.in-List.count k.0 k.1 ws form k.2 none h

pub returns-in-Null : goal.returns-in-Null
returns-in-Null c = λ v node. let k = null_from_form v (c.in-Null.ensures c.args.text.now v node) in inl (k.0, k.1, c.new.ensures)

pub returns-in_ok-watchlist-in-List : goal.returns-in_ok-watchlist-in-List
returns-in_ok-watchlist-in-List c = λ v node.
    let text = c.args.text.now in
    let k = array_from_form v _ (c.in-List.ensures text v node) in
    let at = subst (IsNode text c.args.doc.now c.args.node) k.2 node in
    let ids = gives_some (AreIds text (items_of k.0)) c.in_ok-ids-in-List.field-0 c.in-Some.ids (c.in_ok-ids-in-List.ensures k.0 (record { span = k.1; node = at; count = k.3 })) c.in-Some.is in
    let few : length (items_of k.0) ≤ LONGEST_WATCHLIST = omega (arith, k.3, c.if-count-gt-LONGEST_WATCHLIST.false) in
    inr (k.0, k.1, k.2, record { few = few; ids = c.in-Some.ids; are = ids; once = c.in_ok-watchlist-in-List.ensures ∙ ap first_places c.as_slice.ensures })

pub returns-in_default : goal.returns-in_default
returns-in_default c = λ v node ws h.
    no_watchlist c.args.text.now v c.form.result ws (c.form.ensures c.args.text.now v node) c.in_default.not-Null c.in_default.not-List h
