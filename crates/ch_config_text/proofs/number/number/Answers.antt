use Rattle.std.proofs.Common.{◌≡◌, Ok, arith}
use Rattle.std.proofs.lemmas.Fmt.{parse-decimal}
use Rattle.ch_config_text.proofs.NumberLemmas.{number_in-none, number_in-not_plain, number_in-read}
use Rattle.ch_config_text.proofs.number.number.Goals as goal

pub returns-then-not-is_plain-clause-value : goal.returns-then-not-is_plain-clause-value
returns-then-not-is_plain-clause-value c =
    number_in-not_plain c.args.least c.args.most c.args.text.now (omega arith) (cc)

pub returns-in-Ok-clause-value : goal.returns-in-Ok-clause-value
returns-in-Ok-clause-value c =
    number_in-read c.args.least c.args.most c.args.text.now c.parse.result (cc) c.parse.ensures.value.0 c.in-Ok.n c.in-Ok.is (omega arith) (omega arith)

pub returns-in_default-3-clause-value : goal.returns-in_default-3-clause-value
returns-in_default-3-clause-value c =
    number_in-none c.args.least c.args.most c.args.text.now (λ n low high is.
    let read : c.parse.result ≡ Ok n = parse-decimal 64 n _ _ (omega arith) (omega arith) is c.parse.ensures.value.0 in
    absurd (cc))
