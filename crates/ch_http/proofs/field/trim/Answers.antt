use Rattle.std.proofs.Common.{reverse, ap, ◌∙◌}
use Rattle.httparse.specs.Grammar.{skip_ows, trim_ows}
use Rattle.ch_http.proofs.field.trim.Goals as goal

pub returns : goal.returns
unfolding trim_ows
returns c = c.trim_end.ensures ∙ ap (λ bytes. reverse (skip_ows (reverse bytes))) c.trim_start.ensures
