use Rattle.std.proofs.Common.{◌≡◌, ◌++◌, ℕ, List, take, filter}
use Rattle.ch_sig.specs.MacState.{MacHolds}
use Rattle.ch_sig.specs.SignedText.{is_signed, query_text}
use Rattle.ch_sig.proofs.QueryLemmas.{separator_after}
use Rattle.ch_sig.proofs.signature.add_query.Given as goal

abbrev pub invariant-params : goal.invariant-params
invariant-params l =
    (l.separator ≡ separator_after (filter is_signed (take l.param-index l.params)))
    × ((secret message : List ℕ) → MacHolds l.initial.mac secret message → MacHolds l.mac secret (message ++ query_text (take l.param-index l.params)))
