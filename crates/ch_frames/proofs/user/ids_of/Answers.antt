use Rattle.std.proofs.Common.{sym, subst}
use Rattle.ch_base.specs.JsonParts.{items_of}
use Rattle.ch_protocol.specs.UserDataText.{AreIds}
use Rattle.ch_members.specs.Readings.{Gives}
use Rattle.ch_members.specs.ArrayStrings.{AreStrings}
use Rattle.ch_members.proofs.Gives.{gives_some}
use Rattle.ch_frames.proofs.Watchlists.{gives_ids, ids_strings}
use Rattle.ch_frames.proofs.user.ids_of.Goals as goal

pub returns-in-Some : goal.returns-in-Some
returns-in-Some c = λ vs is.
    let text = c.args.text.now in
    let strings = gives_some (AreStrings text (items_of vs)) c.in_ok-ids.field-0 c.in-Some.ids (c.in_ok-ids.ensures vs is) c.in-Some.is in
    subst (Gives (AreIds text (items_of vs))) (sym c.good_ids.ensures) (gives_ids text (items_of vs) c.in-Some.ids strings)

pub returns-in-None : goal.returns-in-None
returns-in-None c = λ vs is ids are.
    let text = c.args.text.now in
    let none = subst (Gives (AreStrings text (items_of vs))) c.in-None.is (c.in_ok-ids.ensures vs is) in
    none ids (ids_strings text (items_of vs) ids are)
