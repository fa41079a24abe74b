use Rattle.std.proofs.Common.{◌∙◌, ap, arith}
use Rattle.std.proofs.lemmas.Result.{IfOk-weaker}
use Rattle.ch_requests.specs.Heads.{first_bytes}
use Rattle.ch_requests.specs.Verdict.{look_behind}
use Rattle.ch_http.proofs.FirstLemmas.{length-first_bytes}
use Rattle.ch_http.proofs.HeadingLemmas.{used_within}
use Rattle.ch_http.proofs.VerdictLemmas.{whole_verdict}
use Rattle.ch_http.proofs.verdict.judge_whole.Goals as goal

pub bytes_behind-behind-requires : goal.bytes_behind-behind-requires
bytes_behind-behind-requires c =
    let used = used_within (first_bytes c.args.bytes.now) c.args.head c.requires in
    let shorter = length-first_bytes c.args.bytes.now in
    omega (arith, used, shorter)

pub returns : goal.returns
returns c =
    let app = c.args.app_id.now in
    let bytes = c.args.bytes.now in
    let head = c.args.head in
    IfOk-weaker c.look_behind.result _ _
    (λ look is_look. whole_verdict app bytes head look c.requires (is_look ∙ ap (look_behind app head) c.bytes_behind-behind.ensures))
    c.look_behind.ensures
