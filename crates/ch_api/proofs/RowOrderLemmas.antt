-- Rows stay in the order of their names, in which a place can be looked for by halves.
use Rattle.std.proofs.Common.{◌≡◌, ℕ, zero, suc, ◌<◌, ◌≤◌, List, [], ◌∷◌, length, get_or, Bool, true, false, cond, refl, sym, ap, ◌∙◌, subst, map, arith, inl, inr, Bor, Ordering}
use Rattle.std.specs.Prelude.{◌⊎◌}
use Rattle.std.specs.Ordering.{nat_cmp, is_lt, ordering_reverse}
use Rattle.std.specs.declared.cmp.Ordering.TheVariants.{Less, Equal, Greater}
use Rattle.std.specs.Cmp.Lexicographic.{slice_cmp}
use Rattle.std.specs.List.{AllByRecursion, prefix_len}
use Rattle.std.specs.List.Sorted.{IsPartitionedBy, IsPartitionPoint}
use Rattle.std.proofs.lemmas.Cmp.{nat_list_cmp_total}
use Rattle.std.proofs.lemmas.List.Sums.{prefix_len_is}
use Rattle.std.proofs.lemmas.Map.Lookups.{exact_bytes}
use Rattle.ch_base.specs.declared.channel.NameRow.{NameRow}
use Rattle.ch_requests.specs.Replies.{with_row, with_rows}
use Rattle.ch_sig.specs.Parameters.{is_before}
use Rattle.ch_api.specs.RowOrder.{MayFollow, AreInOrder}

-- ---- names

less_if_before : (order : Ordering) → is_lt order ≡ true → order ≡ Less
less_if_before Less before = refl
less_if_before Equal before = cc
less_if_before Greater before = cc

-- what comes before another isn't behind it
not_behind : (name other : List ℕ) → slice_cmp nat_cmp name other ≡ Less → is_before other name ≡ false
not_behind name other less = ap is_lt (nat_list_cmp_total.antisymm other name ∙ ap ordering_reverse less)

-- a name that another doesn't come before is that one or comes before it
at_most : (name other : List ℕ) → is_before other name ≡ false → (name ≡ other) ⊎ (slice_cmp nat_cmp name other ≡ Less)
at_most name other not_before =
    elim (slice_cmp nat_cmp other name) as (λ order. slice_cmp nat_cmp other name ≡ order → is_lt order ≡ false → (name ≡ other) ⊎ (slice_cmp nat_cmp name other ≡ Less)) [
      | Less ↦ λ _ no. absurd (let wrong : true ≡ false = no in cc)
      | Equal ↦ λ equal _. inl (sym (exact_bytes other name equal))
      | Greater ↦ λ greater _. inr (nat_list_cmp_total.antisymm name other ∙ ap ordering_reverse greater)
    ] refl not_before

irreflexive : (name : List ℕ) → is_before name name ≡ false
irreflexive name = test (is_before name name) refl
  where
    test : (b : Bool) → is_before name name ≡ b → b ≡ false
    test true is = sym is ∙ not_behind name name (less_if_before _ is)
    test false is = refl

follows_through : (first second third : List ℕ) → is_before second first ≡ false → is_before third second ≡ false → is_before third first ≡ false
follows_through first second third one two =
    elim (at_most first second one) [
      | inl same ↦ subst (λ name. is_before third name ≡ false) (sym same) two
      | inr less ↦ elim (at_most second third two) [
        | inl same ↦ subst (λ name. is_before name first ≡ false) same one
        | inr less_too ↦ not_behind first third (nat_list_cmp_total.trans first second third less less_too)
      ]
    ]

before_through : (first second third : List ℕ) → is_before second first ≡ false → is_before second third ≡ true → is_before first third ≡ true
before_through first second third one two =
    elim (at_most first second one) [
      | inl same ↦ subst (λ name. is_before name third ≡ true) (sym same) two
      | inr less ↦ ap is_lt (nat_list_cmp_total.trans first second third less (less_if_before _ two))
    ]

-- ---- one more row

all-with_row : (P : NameRow → Type 0) (rows : List NameRow) (new : NameRow) → P new → AllByRecursion P rows → AllByRecursion P (with_row rows new)
all-with_row P [] new here all = (here, tt)
all-with_row P (row ∷ rows) new here all =
    elim (is_before row.channel new.channel) as (λ before. AllByRecursion P (cond before (row ∷ with_row rows new) (new ∷ row ∷ rows))) [
      | true ↦ (all.0, all-with_row P rows new here all.1)
      | false ↦ (here, all)
    ]

all_follow : (first second : NameRow) (rows : List NameRow) → MayFollow first second → AllByRecursion (MayFollow second) rows → AllByRecursion (MayFollow first) rows
all_follow first second [] follows all = tt
all_follow first second (row ∷ rows) follows all =
    (follows_through first.channel second.channel row.channel follows all.0, all_follow first second rows follows all.1)

pub with_row-in_order : (rows : List NameRow) (new : NameRow) → AreInOrder rows → AreInOrder (with_row rows new)
with_row-in_order [] new ordered = (tt, tt)
with_row-in_order (row ∷ rows) new ordered =
    elim (is_before row.channel new.channel) as (λ before. is_before row.channel new.channel ≡ before → AreInOrder (cond before (row ∷ with_row rows new) (new ∷ row ∷ rows))) [
      | true ↦ λ before.
          let here : MayFollow row new = not_behind row.channel new.channel (less_if_before _ before) in
          (all-with_row (MayFollow row) rows new here ordered.0, with_row-in_order rows new ordered.1)
      | false ↦ λ not_before. ((not_before, all_follow new row rows not_before ordered.0), ordered)
    ] refl

pub with_rows-in_order : (rows more : List NameRow) → AreInOrder rows → AreInOrder (with_rows rows more)
with_rows-in_order rows [] ordered = ordered
with_rows-in_order rows (new ∷ more) ordered = with_rows-in_order (with_row rows new) more (with_row-in_order rows new ordered)

-- ---- places

all_at : (P : NameRow → Type 0) (rows : List (Bor NameRow)) (k : ℕ) (d : Bor NameRow) → AllByRecursion P (map (λ r. r.now) rows) → k < length rows → P (get_or rows k d).now
all_at P [] k d all within = absurd (omega (arith, within))
all_at P (row ∷ rows) zero d all within = all.0
all_at P (row ∷ rows) (suc k) d all within = all_at P rows k d all.1 (omega (arith, within))

in_order_at : (rows : List (Bor NameRow)) (i j : ℕ) (d : Bor NameRow) → AreInOrder (map (λ r. r.now) rows) → i ≤ j → j < length rows
    → MayFollow (get_or rows i d).now (get_or rows j d).now
in_order_at [] i j d ordered below within = absurd (omega (arith, within))
in_order_at (row ∷ rows) zero zero d ordered below within = irreflexive row.now.channel
in_order_at (row ∷ rows) zero (suc j) d ordered below within = all_at (MayFollow row.now) rows j d ordered.0 (omega (arith, within))
in_order_at (row ∷ rows) (suc i) zero d ordered below within = absurd (omega (arith, below))
in_order_at (row ∷ rows) (suc i) (suc j) d ordered below within = in_order_at rows i j d ordered.1 (omega (arith, below)) (omega (arith, within))

-- rows before a name stand above all others
pub are_parted : (rows : List (Bor NameRow)) (name : List ℕ) → AreInOrder (map (λ r. r.now) rows) → IsPartitionedBy (λ r. is_before r.now.channel name) rows
are_parted rows name ordered i j d below within before =
    before_through (get_or rows i d).now.channel (get_or rows j d).now.channel name (in_order_at rows i j d ordered below within) before

-- the place where they are parted is how many there are
pub point_is : (p : Bor NameRow → Bool) (rows : List (Bor NameRow)) (place : ℕ) → place ≤ length rows
    → IsPartitionPoint (λ r. p r ≡ true) (λ r. p r ≡ false) rows place → place ≡ prefix_len p rows
point_is p [] place within parts = omega (arith, within)
point_is p (row ∷ rows) place within parts =
    sym (prefix_len_is p (row ∷ rows) place row within (λ k below. parts.0 k row (omega arith) below) (λ more. parts.1 place row (omega arith) more))
