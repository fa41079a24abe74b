use Rattle.std.proofs.Common.{◌≡◌, ◌<◌, take, take_all, add-one, sym, ap, arith}
use Rattle.std.proofs.lemmas.Bool.{eq-eqb}
use Rattle.ch_requests.specs.declared.limits.TheConstants.{MOST_LINES}
use Rattle.ch_http.proofs.LineLemmas.{lines, first_lines_all, first_lines_end}
use Rattle.ch_http.proofs.first_bytes.first_lines.Goals as goal

pub returns-then-lines-eq-MOST_LINES-clause-first :
    goal.returns-then-lines-eq-MOST_LINES-clause-first
returns-then-lines-eq-MOST_LINES-clause-first c =
    let counted : 65 ≡ lines (take c.bytes.at c.args.bytes.now) = omega (arith, c.bytes.invariant.0) in
    let is_end = eq-eqb _ _ c.if-byte-eq10.true in
    rw add-one (sym (first_lines_end 65 c.bytes.at c.args.bytes.now counted c.bytes-test.true is_end))

pub returns-clause-first : goal.returns-clause-first
returns-clause-first c =
    let all = take_all c.bytes.at c.args.bytes.now c.bytes-test.false in
    let few : lines c.args.bytes.now < MOST_LINES = omega (arith, c.bytes.invariant.0, c.bytes.invariant.1, ap lines all) in
    sym (first_lines_all MOST_LINES c.args.bytes.now few)
