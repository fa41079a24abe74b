use Rattle.std.proofs.Common.{arith, sym, subst, ap, ◌∙◌, ◌<◌, length, get_or}
use Rattle.ch_json.proofs.Escapes.{quote_left, quote_ends, run_piece}
use Rattle.ch_json.proofs.pieces.piece_at.Goals as goal

pub bounds-bytes-at : goal.bounds-bytes-at
bounds-bytes-at c =
    let inside : c.args.at < length c.args.string.now = quote_left c.args.string.now c.args.at c.requires.chars c.requires.follow in
    omega (arith, ap length c.as_bytes-bytes.ensures.value)

pub returns-then-byte-eq34 : goal.returns-then-byte-eq34
returns-then-byte-eq34 c = λ cs h. quote_ends c.args.string.now c.args.at cs (ap (λ l. get_or l c.args.at 0) (sym c.as_bytes-bytes.ensures.value) ∙ c.if-byte-eq34.true) h

pub escape_at-requires-clause-backslash : goal.escape_at-requires-clause-backslash
escape_at-requires-clause-backslash c = ap (λ l. get_or l c.args.at 0) (sym c.as_bytes-bytes.ensures.value) ∙ c.if-byte-eq92.true

pub returns : goal.returns
returns c = λ cs h.
    let bs = c.args.string.now in
    let at = c.args.at in
    let end = c.run_end.result in
    let same = c.as_bytes-bytes.ensures.value in
    let inside : at < length c.as_bytes-bytes.result.now = let left = quote_left bs at cs h in omega (arith, ap length same) in
    run_piece bs at end cs (c.run_end.ensures.ahead inside c.if-byte-eq34.false c.if-byte-eq92.false) (omega (arith, ap length same, c.run_end.ensures.within)) (λ k low high e. c.run_end.ensures.no_quote k low high (ap (λ l. get_or l k 0) same ∙ e))
    (λ k low high e. c.run_end.ensures.no_backslash k low high (ap (λ l. get_or l k 0) same ∙ e)) (λ short. subst (λ l. get_or l end 0 < 128) same (c.run_end.ensures.ascii (omega (arith, ap length same)))) h
