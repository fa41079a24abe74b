use Rattle.std.proofs.Common.{rules, bytes_eq, lit<}
use Rattle.std.proofs.lemmas.Iterator.Search.{any_from_yields_List}
use Rattle.std.proofs.lemmas.Iterator.Splits.{YieldsList-from_str_split}
use borrow.Author.Tests.{tests}
use Rattle.ch_api.proofs.counts.lists_word.Goals as goal

pub returns : goal.returns
returns c =
    any_from_yields_List (bytes_eq c.args.word.now) _ _ _ c.any.ensures.ran
    (YieldsList-from_str_split 44 c.args.info.now (lit< tt) c.split.ensures.text c.split.ensures.has_more c.split.ensures.pattern)
    (λ x b q k. search (rules, tests))
