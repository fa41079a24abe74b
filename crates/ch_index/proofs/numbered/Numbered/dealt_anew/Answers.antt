use Rattle.std.proofs.Common.{◌≡◌, ℕ, ◌+◌, List, [], ◌∷◌, ◌++◌, None, length, ◌∙◌, ap, sym, subst, arith, append_assoc}
use Rattle.std.specs.Map.{keys_of, values_of}
use Rattle.std.proofs.lemmas.List.{map-append}
use Rattle.ch_index.specs.Rows.{EachOnce}
use Rattle.ch_index.specs.Numbered.{AreBelow, number_of}
use Rattle.ch_index.proofs.Once.{has_number}
use Rattle.ch_index.proofs.Losing.{apart_before, below_push, none_from}
use Rattle.ch_index.proofs.numbered.Numbered.dealt_anew.Goals as goal

pub add-requires-clause-absent : goal.add-requires-clause-absent
add-requires-clause-absent g c =
    let name = g.R.Row.name in
    let socket = g.R.Row.socket in
    let xs = values_of c.rows.anew in
    let r = c.in-Some.row.now in
    let once : EachOnce name socket (xs ++ r ∷ c.next.new.self) = subst (EachOnce name socket) (sym c.rows.invariant.2 ∙ ap (λ ys. xs ++ ys) c.in-Some.ensures.steps) c.self.invariant.once in
    let P : g.row.R.Denot → Type 0 = λ x. number_of name socket c.rows.anew (socket x) (name x) ≡ None in
    subst P (sym c.in_ok-row.ensures) (none_from (number_of name socket c.rows.anew (socket r) (name r)) (has_number name socket c.rows.anew (socket r) (name r) ∙ apart_before name socket xs c.next.new.self r once))

pub rows-preserved : goal.rows-preserved
rows-preserved g c =
    let n = c.rows.number in
    let old : List (ℕ × g.row.R.Denot) = c.rows.anew in
    let last : List (ℕ × g.row.R.Denot) = (n, c.in_ok-row.row) ∷ [] in
    let xs : List g.row.R.Denot = values_of old in
    let left : List g.row.R.Denot = c.next.new.self in
    let now : c.add.new.self ≡ old ++ last = c.in_ok-add.ensures.ok in
    let values : values_of c.add.new.self ≡ xs ++ c.in-Some.row.now ∷ [] = ap values_of now ∙ map-append (λ (e : ℕ × g.row.R.Denot). e.1) old last ∙ ap (λ r. xs ++ r ∷ []) c.in_ok-row.ensures in
    let keys : keys_of c.add.new.self ≡ keys_of old ++ n ∷ [] = ap keys_of now ∙ map-append (λ (e : ℕ × g.row.R.Denot). e.0) old last in
    let shorter = ap length c.in-Some.ensures.steps in (
      tt,
      tt,
      ap (λ ys. ys ++ left) values ∙ append_assoc xs (c.in-Some.row.now ∷ []) left ∙ ap (λ ys. xs ++ ys) (sym c.in-Some.ensures.steps) ∙ c.rows.invariant.2,
      omega (arith, shorter, c.rows.invariant.3),
      subst (AreBelow (n + 1)) (sym keys) (below_push n (keys_of old) c.rows.invariant.4),
    )
