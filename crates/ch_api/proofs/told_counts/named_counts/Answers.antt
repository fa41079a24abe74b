use Rattle.std.proofs.Common.{List, ℕ, ◌++◌, sym, ap, ◌∙◌, map}
use Rattle.std.specs.Prelude.{string_bytes}
use Rattle.std.specs.Iterator.Adapters.{zip_first, zip_second}
use Rattle.std.specs.Slice.Iter.{iter_rest}
use Rattle.std.proofs.lemmas.List.{append-nil}
use Rattle.std.proofs.lemmas.Slice.Zip.{either_empty_from_Zip}
use Rattle.ch_api.proofs.ToldCounts.{no_named_counts}
use Rattle.ch_api.proofs.told_counts.named_counts.Goals as goal

pub returns : goal.returns
returns c =
    let told = map string_bytes c.channels.texts.items in
    let left = c.channels.channel-iterator in
    let none = no_named_counts (iter_rest (zip_first left)) (iter_rest (zip_second left))
    (either_empty_from_Zip left c.next.new.self c.next.result c.in-None.is c.next.ensures.steps) in
    sym (append-nil told) ∙ ap (λ (more : List (List ℕ)). told ++ more) (sym none) ∙ c.channels.invariant
