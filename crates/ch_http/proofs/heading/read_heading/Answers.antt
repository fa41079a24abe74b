use Rattle.std.proofs.Common.{arith, ap, ◌∙◌, Err}
use Rattle.ch_http.proofs.LineLemmas.{lines-exceed}
use Rattle.ch_http.proofs.heading.read_heading.Goals as goal

pub unreachable-requires : goal.unreachable-requires
unreachable-requires c =
    let too_many = c.parse_request.ensures.too_many (c.in-Err-TooManyHeaders.is ∙ ap Err c.in-Err-TooManyHeaders.field-0-is) in
    omega (arith, lines-exceed 66 c.args.first.now too_many, c.requires)
