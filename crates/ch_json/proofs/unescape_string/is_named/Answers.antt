use Rattle.std.proofs.Common.{arith, refl, sym, ap, ◌∙◌, ◌≡◌, ◌++◌, [], ◌∷◌, ℕ, List, length, Bool, true, ◌==◌}
use Rattle.std.specs.List.{slice_range}
use Rattle.std.proofs.lemmas.Bool.{eqb-true}
use Rattle.ch_json.proofs.Unescaped.{so_far_first, matches_more, matches_end, matches_over, matches_not}
use Rattle.ch_json.proofs.unescape_string.is_named.Goals as goal

empty_is : (xs : List ℕ) (b : Bool) → b ≡ (length xs == 0) → b ≡ true → xs ≡ []
empty_is [] b e t = refl
empty_is (x ∷ xs) b e t = absurd (let none : length (x ∷ xs) ≡ 0 = eqb-true (length (x ∷ xs)) 0 (sym e ∙ t) in omega arith)

is_empty_so : (xs : List ℕ) (b : Bool) → b ≡ (length xs == 0) → xs ≡ [] → b ≡ true
is_empty_so xs b e none = e ∙ ap (λ l. length l == 0) none

pub loop-end-init : goal.loop-end-init
loop-end-init c = record { out = []; name_is = sym c.as_bytes-left.ensures.value; so_far = so_far_first c.args.string.now c.utf8.string c.requires }

pub returns-in-End : goal.returns-in-End
returns-in-End c =
    let h = c.loop-end.invariant in
    let none = c.in-End.ensures h.so_far.chars h.so_far.follow in
    (λ t. matches_end _ _ _ _ h none (empty_is _ _ c.is_empty.ensures t), λ u. is_empty_so _ _ c.is_empty.ensures (matches_over _ _ _ _ h none u))

pub returns-in_default : goal.returns-in_default
returns-in_default c =
    let h = c.loop-end.invariant in
    let goes = c.in-Run.ensures h.so_far.chars h.so_far.follow in
    let range = λ (l : List ℕ). slice_range l c.loop-end.at c.in-Run.end in
    (λ t. absurd (cc t), λ u. absurd (matches_not _ _ _ _ _ _ h goes (λ rest e. c.in_default.ensures rest (e ∙ ap (λ l. range l ++ rest) (sym c.as_bytes-bytes.ensures.value))) u))

pub loop-end-preserved-in-Run : goal.loop-end-preserved-in-Run
loop-end-preserved-in-Run c =
    let h = c.loop-end.invariant in
    matches_more _ _ _ _ _ _ _ h (c.in-Run.ensures h.so_far.chars h.so_far.follow)
    (c.in-Some.ensures ∙ ap (λ l. slice_range l c.loop-end.at c.in-Run.end ++ c.in-Some.rest.now) c.as_bytes-bytes.ensures.value)

pub returns-in_default-behind : goal.returns-in_default-behind
returns-in_default-behind c =
    let h = c.loop-end.invariant in
    let goes = c.in-Escape.ensures h.so_far.chars h.so_far.follow in
    let spelled = c.as_bytes.ensures.value ∙ c.encode_utf8-spelled.ensures.value in
    (λ t. absurd (cc t), λ u. absurd (matches_not _ _ _ _ _ _ h goes (λ rest e. c.in_default-behind.ensures rest (e ∙ ap (λ (l : List ℕ). l ++ rest) (sym spelled))) u))

pub loop-end-preserved : goal.loop-end-preserved
loop-end-preserved c =
    let h = c.loop-end.invariant in
    matches_more _ _ _ _ _ _ _ h (c.in-Escape.ensures h.so_far.chars h.so_far.follow)
    (c.in-Some-behind.ensures ∙ ap (λ (l : List ℕ). l ++ c.in-Some-behind.rest.now) (c.as_bytes.ensures.value ∙ c.encode_utf8-spelled.ensures.value))
