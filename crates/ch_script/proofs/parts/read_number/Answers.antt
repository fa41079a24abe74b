use Rattle.std.proofs.Common.{◌≡◌, Ok, arith, sym, ap, ◌∙◌}
use Rattle.std.specs.Fmt.{decimal}
use Rattle.std.proofs.lemmas.Fmt.{parse-decimal}
use Rattle.ch_script.proofs.Numbers.{number_in-none, texts_differ}
use Rattle.ch_script.proofs.parts.read_number.Goals as goal
use Rattle.ch_script.proofs.parts.read_number.Goals.{else-n-le-LATEST_MOMENT-via-then-n-le-LATEST_MOMENT+else-eq, else-n-le-LATEST_MOMENT-via-else-n-le-LATEST_MOMENT}

pub returns-in_default : goal.returns-in_default
returns-in_default c = number_in-none c.args.text.now (λ n small is. let r : c.parse.result ≡ Ok n = parse-decimal 64 n _ _ (omega arith) (omega arith) is c.parse.ensures.value.0 in absurd (cc))

pub returns : goal.returns
returns c = number_in-none c.args.text.now (λ n small is. let r : c.parse.result ≡ Ok n = parse-decimal 64 n _ _ (omega arith) (omega arith) is c.parse.ensures.value.0 in
    let same : c.in-Ok.n ≡ n = cc in
    elim c.else-n-le-LATEST_MOMENT.branch [
      | else-n-le-LATEST_MOMENT-via-then-n-le-LATEST_MOMENT+else-eq w ↦ texts_differ w.as_str.result.now c.args.text.now (sym w.if-eq.ensures) (w.as_str.ensures.value ∙ c.in_ok-printed.ensures.ok ∙ ap decimal same ∙ sym is)
      | else-n-le-LATEST_MOMENT-via-else-n-le-LATEST_MOMENT w ↦ omega arith
    ])
