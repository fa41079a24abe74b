-- the list with one more parameter
use Rattle.std.proofs.Common.{◌≡◌, ◌+◌, ℕ, List, [], ◌∷◌, true, false, cond, refl, ap, ◌∙◌, map, Ordering, arith, suc}
use Rattle.std.specs.Prelude.{insert}
use Rattle.std.specs.Ordering.{nat_cmp, is_lt, ordering_reverse}
use Rattle.std.specs.declared.cmp.Ordering.TheVariants.{Less, Equal, Greater}
use Rattle.std.specs.Cmp.Lexicographic.{slice_cmp}
use Rattle.std.specs.List.{prefix_len, AllByRecursion}
use Rattle.std.specs.List.Sorted.{IsStrictlySortedBy}
use Rattle.std.proofs.lemmas.Cmp.{nat_list_cmp_total}
use Rattle.std.proofs.lemmas.Map.Lookups.{exact_bytes}
use Rattle.ch_sig.specs.Parameters.{is_before, IsAscending, HasName, with_param}
use Rattle.ch_sig.specs.declared.query.Param.{Param}

-- it is put behind those whose names come before its own
pub insert-prefix_len : (new : Param) (ps : List Param) →
    insert ps (prefix_len (λ p. is_before p.name new.name) ps) new ≡ with_param ps new
insert-prefix_len new [] = refl
insert-prefix_len new (p ∷ ps) =
    elim (is_before p.name new.name) as (λ before.
    insert (p ∷ ps) (cond before (1 + prefix_len (λ q. is_before q.name new.name) ps) 0) new
    ≡ cond before (p ∷ with_param ps new) (new ∷ p ∷ ps)) [
      | true ↦
          let place = prefix_len (λ q. is_before q.name new.name) ps in
          let one_on : 1 + place ≡ suc place = omega arith in
          rw one_on (ap (λ rest. p ∷ rest) (insert-prefix_len new ps))
      | false ↦ refl
    ]

-- what holds of its name and of all others
all-with_param : (P : List ℕ → Type 0) (new : Param) (ps : List Param) → P new.name →
    AllByRecursion P (map (λ p. p.name) ps) → AllByRecursion P (map (λ p. p.name) (with_param ps new))
all-with_param P new [] here all = (here, tt)
all-with_param P new (p ∷ ps) here all =
    elim (is_before p.name new.name) as (λ before.
    AllByRecursion P (map (λ q. q.name) (cond before (p ∷ with_param ps new) (new ∷ p ∷ ps)))) [
      | true ↦ (all.0, all-with_param P new ps here all.1)
      | false ↦ (here, all)
    ]

-- a name that isn't before another and isn't that name is behind it
behind : (name other : List ℕ) → is_before name other ≡ false → ¬ (name ≡ other) → slice_cmp nat_cmp other name ≡ Less
behind name other not_before differs =
    elim (slice_cmp nat_cmp name other) as (λ order. slice_cmp nat_cmp name other ≡ order → is_lt order ≡ false → slice_cmp nat_cmp other name ≡ Less) [
      | Less ↦ λ _ no. cc
      | Equal ↦ λ equal _. absurd (differs (exact_bytes name other equal))
      | Greater ↦ λ greater _. nat_list_cmp_total.antisymm other name ∙ ap ordering_reverse greater
    ] refl not_before

all_behind : (first second : List ℕ) (names : List (List ℕ)) → slice_cmp nat_cmp first second ≡ Less →
    AllByRecursion (λ name. slice_cmp nat_cmp second name ≡ Less) names → AllByRecursion (λ name. slice_cmp nat_cmp first name ≡ Less) names
all_behind first second [] less all = tt
all_behind first second (name ∷ names) less all =
    (nat_list_cmp_total.trans first second name less all.0, all_behind first second names less all.1)

less_if_before : (order : Ordering) → is_lt order ≡ true → order ≡ Less
less_if_before Less before = refl
less_if_before Equal before = cc
less_if_before Greater before = cc

-- the names still ascend, where its own wasn't there
pub with_param-ascending : (new : Param) (ps : List Param) → IsAscending ps → ¬ HasName ps new.name → IsAscending (with_param ps new)
unfolding IsStrictlySortedBy
with_param-ascending new [] ascending absent = (tt, tt)
with_param-ascending new (p ∷ ps) ascending absent =
    elim (is_before p.name new.name) as (λ before. is_before p.name new.name ≡ before → IsAscending (cond before (p ∷ with_param ps new) (new ∷ p ∷ ps))) [
      | true ↦ λ before.
          let absent_behind : ¬ HasName ps new.name = λ there. absent (suc there.0, there.1, omega (arith, there.2), there.3, there.4) in
          (all-with_param (λ name. slice_cmp nat_cmp p.name name ≡ Less) new ps (less_if_before _ before) ascending.0, with_param-ascending new ps ascending.1 absent_behind)
      | false ↦ λ not_before.
          let less = behind p.name new.name not_before (λ same. absent (0, p, omega arith, refl, same)) in
          ((less, all_behind new.name p.name _ less ascending.0), ascending)
    ] refl
