use Rattle.std.proofs.Common.{ap, ◌∙◌, subst, cond}
use Rattle.ch_requests.specs.Heads.{IsHeading, is_full, unfinished}
use Rattle.ch_requests.specs.declared.request.Look.TheVariants.{Need, Refuse}
use Rattle.ch_http.specs.Headings.{IsHeadingOf}
use Rattle.ch_http.proofs.VerdictLemmas.{unfinished_verdict}
use Rattle.ch_http.proofs.verdict.judge.Goals as goal

pub returns-in-Unfinished : goal.returns-in-Unfinished
returns-in-Unfinished c =
    let first = c.first_bytes-first.ensures.first in
    let here = subst (λ heading. IsHeadingOf c.first_bytes-first.result.now heading) c.in-Unfinished.is c.in_ok-read_heading.ensures in
    let is_heading = subst (λ bytes. IsHeading bytes unfinished) first here in
    unfinished_verdict c.args.app_id.now c.args.bytes.now c.unfinished.result is_heading
    (c.unfinished.ensures ∙ ap (λ bytes. cond (is_full bytes) (Refuse 431) Need) first)
