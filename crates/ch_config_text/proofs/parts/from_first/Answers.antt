use Rattle.std.proofs.Common.{◌∙◌}
use Rattle.std.proofs.lemmas.Str.Pattern.{find_char}
use Rattle.ch_config_text.proofs.PartLemmas.{from_first-at, from_first-none}
use Rattle.ch_config_text.proofs.parts.from_first.Goals as goal

pub returns-in-Some : goal.returns-in-Some
returns-in-Some c =
    let found = rw c.in-Some.is at (find_char c.args.mark c.args.text.now c.find.result c.find.ensures.cases c.requires) in
    c.range_from.ensures.value ∙ from_first-at c.args.mark c.in-Some.at c.args.text.now found.0 found.1 found.2

pub returns-in-None : goal.returns-in-None
returns-in-None c =
    let found = rw c.in-None.is at (find_char c.args.mark c.args.text.now c.find.result c.find.ensures.cases c.requires) in
    from_first-none c.args.mark c.args.text.now found
