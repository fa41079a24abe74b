use Rattle.std.proofs.Common.{◌+◌, length, drop, sym, ap, ◌∙◌, arith, rules}
use Rattle.std.proofs.lemmas.List.Sums.{position_or_len_is}
use Rattle.std.proofs.lemmas.List.{take_rest, drop_all}
use Rattle.ch_protocol.specs.Targets.{is_question}
use Rattle.ch_session.proofs.target.query_of.Goals as goal

pub returns-in-Some : goal.returns-in-Some
returns-in-Some c =
    let target = c.args.target.now in
    let found = position_or_len_is is_question target c.in-Some.at 0 (search rules) (search rules) (search rules) in
    take_rest target _ ∙ ap (λ n. drop (n + 1) target) (sym found)

pub returns-in-None : goal.returns-in-None
returns-in-None c =
    let target = c.args.target.now in
    let none = position_or_len_is is_question target (length target) 0 (omega arith) (search rules) (search rules) in
    sym (ap (λ n. drop (n + 1) target) none ∙ drop_all (length target + 1) target (omega arith))
