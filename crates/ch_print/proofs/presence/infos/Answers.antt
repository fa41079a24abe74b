use Rattle.std.proofs.Common.{◌∙◌, ap, map}
use Rattle.std.specs.Prelude.{string_bytes, codes}
use Rattle.std.specs.List.{join_by}
use Rattle.std.proofs.lemmas.List.{take_all}
use Rattle.ch_base.specs.PresenceData.{info_of}
use Rattle.ch_print.proofs.Joined.{join_by-pieces}
use Rattle.ch_print.proofs.presence.infos.Goals as goal

pub returns : goal.returns
returns c =
    let all = c.loop-row.invariant ∙ ap (map info_of) (take_all c.loop-row.row-index c.args.rows.now c.loop-row-test.false) in
    c.in_ok-text.ensures.ok
    ∙ ap (join_by string_bytes (codes ",")) c.deref.ensures.value
    ∙ join_by-pieces string_bytes info_of (codes ",") c.loop-row.infos.items c.args.rows.now all
