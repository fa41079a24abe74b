use Rattle.std.proofs.Common.{◌∙◌, sym, ap, subst}
use Rattle.ch_base.specs.JsonParts.{part}
use Rattle.ch_json.specs.Entries.{span_of}
use Rattle.ch_protocol.specs.ChannelData.{IsIdOf}
use Rattle.ch_members.specs.Readings.{Gives}
use Rattle.ch_members.proofs.MembersOfName.{string_span}
use Rattle.ch_frames.proofs.IdsOf.{string_id, number_id, no_id}
use Rattle.ch_frames.proofs.member.id_at.Goals as goal

pub unescape-requires : goal.unescape-requires
unescape-requires c =
    let text = c.args.text.now in
    let v = c.requires.0 in
    let node = c.requires.1 in
    string_span text v (span_of c.span.result) (c.in-Str.ensures text v node) (c.span.ensures text v node) node.spelled

pub part-requires : goal.part-requires
part-requires c = (c.requires.0, c.requires.1.spelled, sym (c.span-in-Number.ensures c.args.text.now c.requires.0 c.requires.1))

pub returns-in_ok-id-in-Str : goal.returns-in_ok-id-in-Str
returns-in_ok-id-in-Str c = λ v node.
    let text = c.args.text.now in
    subst (Gives (IsIdOf text v)) (sym c.good_id.ensures)
    (string_id text v (span_of c.span.result) c.in_ok-id-in-Str.id (c.in-Str.ensures text v node) (c.span.ensures text v node) c.in_ok-id-in-Str.ensures)

pub returns-in_ok-id-in-Number : goal.returns-in_ok-id-in-Number
returns-in_ok-id-in-Number c = λ v node.
    let text = c.args.text.now in
    subst (Gives (IsIdOf text v)) (sym c.whole_id.ensures)
    (number_id text v c.in_ok-id-in-Number.id (c.in-Number.ensures text v node)
    (c.in_ok-id-in-Number.ensures ∙ c.part.ensures ∙ ap (part text) (c.span-in-Number.ensures text v node)))

pub returns-in_default : goal.returns-in_default
returns-in_default c = λ v node x h.
    no_id c.args.text.now v c.form.result x (c.form.ensures c.args.text.now v node) c.in_default.not-Str c.in_default.not-Number h
