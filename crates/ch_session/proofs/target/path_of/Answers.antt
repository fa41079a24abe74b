use Rattle.std.proofs.Common.{length, take, sym, ap, ◌∙◌, arith, rules, take_all}
use Rattle.std.proofs.lemmas.List.Sums.{position_or_len_is}
use Rattle.ch_protocol.specs.Targets.{is_question}
use Rattle.ch_session.proofs.target.path_of.Goals as goal

pub returns-in-Some : goal.returns-in-Some
returns-in-Some c =
    let found = position_or_len_is is_question c.args.target.now c.in-Some.at 0 (search rules) (search rules) (search rules) in
    ap (λ n. take n c.args.target.now) (sym found)

pub returns-in-None : goal.returns-in-None
returns-in-None c =
    let target = c.args.target.now in
    let none = position_or_len_is is_question target (length target) 0 (omega arith) (search rules) (search rules) in
    sym (ap (λ n. take n target) none ∙ take_all (length target) target (omega arith))
