-- Room for the frames that a call makes.
use Rattle.std.proofs.Common.{◌≡◌, ◌≢◌, ℕ, ◌+◌, ◌<◌, ◌≤◌, ◌==◌, nat_lt, Bool, true, false, cond, List, [], ◌∷◌, All, length, take, slice_index_or, slice_set, refl, ap, ap₂, sym, ◌∙◌, arith}
use Rattle.std.proofs.lemmas.Bool.Decides.{nat_tests}
use Rattle.std.proofs.lemmas.List.{get_or-set_other}
use Rattle.std.proofs.lemmas.List.Elements.{All-head, All-tail}
use Rattle.std.proofs.lemmas.List.Sums.{sum_by-cons, sum_by_more}
use Rattle.std.proofs.lemmas.Grind.{get_or-set_at}
use Rattle.ch_base.specs.declared.limits.TheConstants.{MAX_CALLERS}
use Rattle.ch_history.specs.declared.rows.Delivery.{Delivery}
use Rattle.ch_outbox.specs.Outbox.{Waiting, spare_of}
use Rattle.ch_outbox.specs.Room.{count_for, HasRoom}

-- an owner is a caller's number
abbrev pub OwnsFrame : Delivery → Type 0
OwnsFrame d = d.owner < MAX_CALLERS

one_first : (w : ℕ) (d : Delivery) (made : List Delivery) → count_for w (d ∷ made) ≡ cond (d.owner == w) 1 0 + count_for w made
one_first w d made = sum_by-cons (λ (x : Delivery). cond (x.owner == w) 1 0) d made

-- no frame is for a number that no owner has
none_for : (made : List Delivery) (w : ℕ) → All OwnsFrame made → MAX_CALLERS ≤ w → count_for w made ≡ 0
none_for [] w owned large = refl
none_for (d ∷ made) w owned large =
    let below : d.owner < MAX_CALLERS = All-head OwnsFrame d made owned in
    let other : (d.owner == w) ≡ false = grind (arith, nat_tests) in
    one_first w d made ∙ ap₂ (λ b n. cond b 1 0 + n) other (none_for made w (All-tail OwnsFrame d made owned) large)

-- room for the frames of owners is room for all
pub all_have : (outbox : List Waiting) (made : List Delivery) → All OwnsFrame made → ((w : ℕ) → w < MAX_CALLERS → count_for w made ≤ spare_of outbox w) → HasRoom outbox made
all_have outbox made owned room w = by (nat_lt w MAX_CALLERS) refl
  where
    by : (b : Bool) → nat_lt w MAX_CALLERS ≡ b → count_for w made ≤ spare_of outbox w
    by true is = let small : w < MAX_CALLERS = grind (arith, nat_tests) in room w small
    by false is =
        let large : MAX_CALLERS ≤ w = grind (arith, nat_tests) in
        let none = none_for made w owned large in
        omega (arith, none)

-- one more frame is counted at its owner
pub counted : (counts : List ℕ) (made : List Delivery) (i : ℕ) (d : Delivery) → i < length made → d ≡ slice_index_or made i d → d.owner < length counts
    → ((w : ℕ) → w < MAX_CALLERS → slice_index_or counts w 0 ≡ count_for w (take i made))
    → (w : ℕ) → w < MAX_CALLERS → slice_index_or (slice_set counts d.owner (slice_index_or counts d.owner 0 + 1)) w 0 ≡ count_for w (take (i + 1) made)
counted counts made i d within is there so_far w small = by (d.owner == w) refl
  where
    more : count_for w (take (i + 1) made) ≡ count_for w (take i made) + cond (d.owner == w) 1 0
    more = sum_by_more (λ (x : Delivery). cond (x.owner == w) 1 0) made i d within ∙ ap (λ (x : Delivery). count_for w (take i made) + cond (x.owner == w) 1 0) (sym is)

    by : (b : Bool) → (d.owner == w) ≡ b → slice_index_or (slice_set counts d.owner (slice_index_or counts d.owner 0 + 1)) w 0 ≡ count_for w (take (i + 1) made)
    by true here =
        let same : d.owner ≡ w = grind (arith, nat_tests) in
        get_or-set_at counts d.owner w (slice_index_or counts d.owner 0 + 1) 0 (sym same) there
        ∙ ap (λ n. n + 1) (ap (λ v. slice_index_or counts v 0) same ∙ so_far w small)
        ∙ sym (more ∙ ap (λ b. count_for w (take i made) + cond b 1 0) here)
    by false elsewhere =
        let other : w ≢ d.owner = λ e. (let same : (d.owner == w) ≡ true = grind (arith, nat_tests) in cc) in
        let now : count_for w (take (i + 1) made) ≡ count_for w (take i made) + 0 = more ∙ ap (λ b. count_for w (take i made) + cond b 1 0) elsewhere in
        get_or-set_other counts d.owner w (slice_index_or counts d.owner 0 + 1) 0 other ∙ so_far w small ∙ omega (arith, now)
