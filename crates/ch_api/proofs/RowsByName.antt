-- Rows that are put each at its place by its name.
use Rattle.std.proofs.Common.{◌≡◌, ℕ, ◌+◌, suc, List, [], ◌∷◌, ◌++◌, true, false, cond, refl, sym, ap, ◌∙◌, map, arith, Bor}
use Rattle.std.specs.Prelude.{insert}
use Rattle.std.specs.List.{prefix_len}
use Rattle.ch_base.specs.declared.channel.NameRow.{NameRow}
use Rattle.ch_requests.specs.Replies.{with_row, with_rows}
use Rattle.ch_sig.specs.Parameters.{is_before}

-- a row is put behind those whose names come before its own
pub insert-row : (new : Bor NameRow) (rows : List (Bor NameRow)) →
    map (λ r. r.now) (insert rows (prefix_len (λ r. is_before r.now.channel new.now.channel) rows) new) ≡ with_row (map (λ r. r.now) rows) new.now
insert-row new [] = refl
insert-row new (r ∷ rows) =
    elim (is_before r.now.channel new.now.channel) as (λ before.
    map (λ q. q.now) (insert (r ∷ rows) (cond before (1 + prefix_len (λ q. is_before q.now.channel new.now.channel) rows) 0) new)
    ≡ cond before (r.now ∷ with_row (map (λ q. q.now) rows) new.now) (new.now ∷ r.now ∷ map (λ q. q.now) rows)) [
      | true ↦
          let place = prefix_len (λ q. is_before q.now.channel new.now.channel) rows in
          let one_on : 1 + place ≡ suc place = omega arith in
          rw one_on (ap (λ (rest : List NameRow). r.now ∷ rest) (insert-row new rows))
      | false ↦ refl
    ]

-- rows are added one after another
pub with_rows-append : (rows xs ys : List NameRow) → with_rows rows (xs ++ ys) ≡ with_rows (with_rows rows xs) ys
with_rows-append rows [] ys = refl
with_rows-append rows (x ∷ xs) ys = with_rows-append (with_row rows x) xs ys

-- what is made of each row that is referred to
pub map-behind : {Y : Type 0} (f : NameRow → Y) (rows : List (Bor NameRow)) → map (λ r. f r.now) rows ≡ map f (map (λ r. r.now) rows)
map-behind f [] = refl
map-behind f (r ∷ rows) = ap (λ rest. f r.now ∷ rest) (map-behind f rows)

-- one more row, put at its place
pub row-added : (before after : List (Bor NameRow)) (first xs : List NameRow) (new : Bor NameRow) (row : NameRow) (place : ℕ)
    → after ≡ insert before place new → place ≡ prefix_len (λ r. is_before r.now.channel row.channel) before → new.now ≡ row
    → map (λ r. r.now) before ≡ with_rows first xs → map (λ r. r.now) after ≡ with_rows first (xs ++ row ∷ [])
row-added before after first xs new row place put at same so_far =
    let at_own : place ≡ prefix_len (λ r. is_before r.now.channel new.now.channel) before =
    at ∙ ap (λ (x : NameRow). prefix_len (λ r. is_before r.now.channel x.channel) before) (sym same) in
    ap (map (λ r. r.now)) (put ∙ ap (λ n. insert before n new) at_own)
    ∙ insert-row new before
    ∙ ap (λ (rows : List NameRow). with_row rows new.now) so_far
    ∙ ap (with_row (with_rows first xs)) same
    ∙ sym (with_rows-append first xs (row ∷ []))
