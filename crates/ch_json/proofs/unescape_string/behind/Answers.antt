use Rattle.std.proofs.Common.{◌≡◌, ℕ, List, ◌++◌, length, take, drop, true, false, Option, Some, None, sym, ap, ap₂, ◌∙◌, ◌+◌}
use Rattle.std.specs.Prelude.{MatchOption, nat_eq}
use Rattle.std.specs.Cmp.Lexicographic.{same_text, other_text, pointwise}
use Rattle.std.proofs.lemmas.List.{take-append-drop}
use Rattle.ch_json.proofs.Lists.{take_front}
use Rattle.ch_json.proofs.unescape_string.behind.Goals as goal

stripped : {X : Type 0} (now : X → List ℕ) (o : Option X) (xs ps : List ℕ)
    → MatchOption o (pointwise nat_eq (take (length ps) xs) ps ≡ false) (λ x. (pointwise nat_eq (take (length ps) xs) ps ≡ true) × (now x ≡ drop (length ps) xs) × (length (now x) + length ps ≡ length xs))
    → MatchOption o ((rest : List ℕ) → xs ≡ ps ++ rest → ⊥) (λ x. xs ≡ ps ++ now x)
stripped now None xs ps h = λ rest e. other_text (take (length ps) xs) ps (sym h) (ap (take (length ps)) e ∙ take_front ps rest)
stripped now (Some x) xs ps h = sym (take-append-drop (length ps) xs) ∙ ap₂ (λ (a b : List ℕ). a ++ b) (same_text (take (length ps) xs) ps (sym h.0)) (sym h.1)

pub returns : goal.returns
returns c = stripped (λ x. x.now) c.strip_prefix.result c.args.bytes.now c.args.front.now c.strip_prefix.ensures.cases
