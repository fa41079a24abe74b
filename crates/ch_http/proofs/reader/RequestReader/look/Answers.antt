use Rattle.std.proofs.Common.{◌≡◌, ap, ◌∙◌, subst, false}
use Rattle.ch_requests.specs.Verdict.{IsVerdict}
use Rattle.ch_http.proofs.VerdictLemmas.{late_verdict}
use Rattle.ch_http.proofs.reader.RequestReader.look.Goals as goal

pub returns : goal.returns
returns c =
    let app = c.args.app_id.now in
    let all = c.args.self.now.bytes in
    let look = c.in_ok-look.look in
    let bytes : c.as_slice.result.now ≡ all = c.as_slice.ensures.value ∙ ap (λ r. r.bytes) c.self.view_is in
    let since = ap (λ r. r.since) c.self.view_is in
    let here = subst (λ text. IsVerdict text c.as_slice.result.now false look) c.as_str.ensures.same c.in_ok-look.ensures in
    let verdict = subst (λ bs. IsVerdict app bs false look) bytes here in
    rw (c.in_time.ensures, c.is_late.ensures, since) (late_verdict app all _ look verdict)
