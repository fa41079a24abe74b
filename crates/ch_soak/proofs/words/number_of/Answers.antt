use Rattle.std.proofs.Common.{◌≡◌, ◌≤◌, Ok, arith, sym, ap, ◌∙◌}
use Rattle.std.specs.Fmt.{decimal}
use Rattle.std.proofs.lemmas.Fmt.{parse-decimal}
use Rattle.ch_soak.proofs.Numbers.{texts_differ}
use Rattle.ch_soak.proofs.words.number_of.Goals as goal
use Rattle.ch_soak.proofs.words.number_of.Goals.{else-number-most-via-then-number-most+else-eq, else-number-most-via-else-number-most}

pub returns-in_default : goal.returns-in_default
returns-in_default c = λ n spells.
    let r : c.parse.result ≡ Ok n = parse-decimal 64 n _ _ (omega (arith, c.ranges.most.fits, spells.1)) (omega (arith, c.ranges.most.fits, spells.1)) spells.2 c.parse.ensures.value.0 in absurd (cc)

pub returns-then-number-least : goal.returns-then-number-least
returns-then-number-least c = λ n spells.
    let r : c.parse.result ≡ Ok n = parse-decimal 64 n _ _ (omega (arith, c.ranges.most.fits, spells.1)) (omega (arith, c.ranges.most.fits, spells.1)) spells.2 c.parse.ensures.value.0 in
    let same : c.in-Ok.number ≡ n = cc in
    omega (arith, spells.0, c.if-number-least.true)

pub returns : goal.returns
returns c = λ n spells.
    let r : c.parse.result ≡ Ok n = parse-decimal 64 n _ _ (omega (arith, c.ranges.most.fits, spells.1)) (omega (arith, c.ranges.most.fits, spells.1)) spells.2 c.parse.ensures.value.0 in
    let same : c.in-Ok.number ≡ n = cc in
    let small : n ≤ c.args.most = spells.1 in
    elim c.else-number-most.branch [
      | else-number-most-via-then-number-most+else-eq w ↦ texts_differ w.as_str.result.now c.args.word.now (sym w.if-eq.ensures) (w.as_str.ensures.value ∙ (c.in_ok-printed.ensures.ok ∙ (ap decimal same ∙ sym spells.2)))
      | else-number-most-via-else-number-most w ↦ omega arith
    ]
