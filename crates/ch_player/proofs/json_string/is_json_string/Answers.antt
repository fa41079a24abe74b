use Rattle.std.proofs.Common.{sym, subst, ap}
use Rattle.ch_transcript.specs.Obeying.{IsJudged}
use Rattle.ch_player.proofs.JsonStrings.{judged, no_string, is_memory}
use Rattle.ch_player.proofs.json_string.is_json_string.Goals as goal

pub is_whole_string-requires : goal.is_whole_string-requires
is_whole_string-requires c = (c.args.text.now, c.in-Ok.ensures.tree.0, c.in-Ok.ensures.tree.1, c.in-Ok.ensures.tree.2)

pub returns-in-Ok : goal.returns-in-Ok
returns-in-Ok c =
    let v = c.in-Ok.ensures.tree.0 in
    subst (IsJudged c.args.text.now) (sym (c.is_whole_string.ensures c.args.text.now v c.in-Ok.ensures.tree.1 c.in-Ok.ensures.tree.2)) (judged c.args.text.now v c.in-Ok.ensures.tree.1)

pub returns-in-Err-Syntax : goal.returns-in-Err-Syntax
returns-in-Err-Syntax c = no_string c.args.text.now c.in-Err-Syntax.field-0 (ap is_memory c.in-Err-Syntax.field-0-is) c.in-Err-Syntax.ensures.spelled

pub returns-in-Err-Deep : goal.returns-in-Err-Deep
returns-in-Err-Deep c = no_string c.args.text.now c.in-Err-Deep.field-0 (ap is_memory c.in-Err-Deep.field-0-is) c.in-Err-Deep.ensures.spelled
