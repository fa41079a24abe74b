use Rattle.std.proofs.Common.{◌≡◌, ◌+◌, ◌<◌, ◌∙◌, ℕ, List, [], ◌∷◌, ◌++◌, length, take, sym, ap, arith}
use Rattle.std.specs.Prelude.{bytes_eq}
use Rattle.std.specs.List.{list_any}
use Rattle.std.proofs.lemmas.List.{take_more}
use Rattle.ch_base.specs.FirstPlaces.{first_places}
use Rattle.ch_members.proofs.FirstPlaces.{with_new, first_places_push, is_new, is_there}
use Rattle.ch_members.proofs.strings.first_places.Goals as goal
use Rattle.ch_members.proofs.strings.first_places.Goals.{then-not-contains+in_ok-copy+in_ok-push, else-not-contains}

pub loop-text-preserved : goal.loop-text-preserved
loop-text-preserved c =
    let texts = c.args.texts.now in
    let i = c.loop-text.text-index in
    let x = c.text-item.result in
    let kept = c.loop-text.kept in
    let lt : i < length texts = omega arith in
    let more : take (i + 1) texts ≡ take i texts ++ x ∷ [] = take_more texts i x lt ∙ ap (λ (y : List ℕ). take i texts ++ y ∷ []) (sym c.text-item.is) in
    let all : with_new x kept ≡ first_places (take (i + 1) texts) = ap (with_new x) c.loop-text.invariant ∙ sym (first_places_push x (take i texts)) ∙ ap first_places (sym more) in
    let found : c.contains.result ≡ list_any (λ y. bytes_eq y x) kept = c.contains.ensures.value ∙ ap (list_any (λ y. bytes_eq y x)) c.as_slice.ensures in
    elim c.if-not-contains.branch [
      | then-not-contains+in_ok-copy+in_ok-push w ↦ w.kept-is ∙ w.in_ok-push.ensures.ok ∙ ap (λ (y : List ℕ). kept ++ y ∷ []) w.in_ok-copy.ensures ∙ sym (is_new x kept c.contains.result found w.if-not-contains.true) ∙ all
      | else-not-contains w ↦ w.kept-is ∙ sym (is_there x kept c.contains.result found w.if-not-contains.false) ∙ all
    ]
