use Rattle.std.proofs.Common.{◌≡◌, false}
use Rattle.std.specs.Map.{keys_of}
use Rattle.std.specs.Ordering.{is_lt, nat_cmp}
use Rattle.std.proofs.lemmas.List.Elements.{recursion_from_All}
use Rattle.ch_index.proofs.Losing.{below_last}
use Rattle.ch_index.proofs.index.next_number.Goals as goal

pub returns-then-last-lt-LAST_NUMBER-clause-above : goal.returns-then-last-lt-LAST_NUMBER-clause-above
returns-then-last-lt-LAST_NUMBER-clause-above g c =
    below_last c.in-Some.last (keys_of c.args.numbered.now) (recursion_from_All (λ k. is_lt (nat_cmp c.in-Some.last k) ≡ false) (keys_of c.args.numbered.now) c.in-Some.ensures.some)
