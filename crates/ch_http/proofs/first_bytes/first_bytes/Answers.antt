use Rattle.std.proofs.Common.{take, ap, ◌∙◌}
use Rattle.std.proofs.lemmas.List.{take_min}
use Rattle.ch_requests.specs.Heads.{first_lines}
use Rattle.ch_requests.specs.declared.limits.TheConstants.{LONGEST_HEAD, MOST_LINES}
use Rattle.ch_http.proofs.first_bytes.first_bytes.Goals as goal

pub returns-clause-first : goal.returns-clause-first
returns-clause-first c =
    let bytes = c.args.bytes.now in
    c.first_lines.ensures.first
    ∙ ap (first_lines MOST_LINES) (ap (λ n. take n bytes) c.min.ensures ∙ take_min LONGEST_HEAD bytes)
