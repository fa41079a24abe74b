-- The passes of a house after a call.
use Rattle.std.proofs.Common.{◌≡◌, ℕ, ◌<◌, List, [], length, get_or, set, sym, ap, ◌∙◌, subst, length-set, get_or-set_same, get_or-set_other}
use mathlib.Core.Logic.{dite}
use native.Mathlib.Decide.{ℕ_discrete}
use Rattle.ch_base.specs.declared.entry.Entry.{Entry}
use Rattle.ch_history.specs.Entries.{ChanHistory, UserHistory}
use Rattle.ch_history.specs.Placement.{IsLegalAt, IsUserLegalAt}
use Rattle.ch_turn.specs.Callers.{CallersBelow}
use Rattle.ch_house.specs.Rows.{RowModel, place_of, seen, after_call}
use Rattle.ch_house.specs.Houses.{HouseModel, chan_count, user_count, passes_of, IsHouse, IsPasses}
use Rattle.ch_house.proofs.Pairing.{ChanPasses, UserPasses}

module _ {C A : Type 0} (P : ℕ × ℕ → List (Entry C A) → Type 0) where
  -- each history is legal at its place, also with another one at k
  legal_set : (xs : List (List (Entry C A))) (k : ℕ) (h : List (Entry C A)) → ((j : ℕ) → j < length xs → P (j, length xs) (get_or xs j [])) → k < length xs → P (k, length xs) h
      → (j : ℕ) → j < length (set xs k h) → P (j, length (set xs k h)) (get_or (set xs k h) j [])
  legal_set xs k h all within here j below =
      let long = length-set xs k h in
      subst (λ (n : ℕ). P (j, n) (get_or (set xs k h) j [])) (sym long) (dite (ℕ_discrete j k)
      (λ (same : j ≡ k). subst (λ (i : ℕ). P (i, length xs) (get_or (set xs k h) i [])) (sym same) (subst (P (k, length xs)) (sym (get_or-set_same xs k h [] within)) here))
      (λ other. subst (P (j, length xs)) (sym (get_or-set_other xs k j h [] other)) (all j (subst (λ (n : ℕ). j < n) long below))))

pub IsPasses-chan : (chans : ChanPasses) (users : UserPasses) (k : ℕ) (h : ChanHistory) → IsPasses (passes_of chans users) → k < length chans.lists → IsLegalAt (k, length chans.lists) h → CallersBelow chans.row.callers h → IsPasses (passes_of (after_call chans k h) users)
IsPasses-chan chans users k h is within legal known = record {
  is_house = is.is_house;
  small = is.small;
  below = is.below;
  count = length-set chans.lists k h ∙ is.count;
  legal = legal_set IsLegalAt chans.lists k h is.legal within legal;
  known = legal_set (λ at l. CallersBelow chans.row.callers l) chans.lists k h is.known within known;
  user_count_is = is.user_count_is;
  legal_users = is.legal_users;
  known_users = is.known_users;
}

pub IsPasses-user : (chans : ChanPasses) (users : UserPasses) (k : ℕ) (h : UserHistory) → IsPasses (passes_of chans users) → k < length users.lists → IsUserLegalAt (k, length users.lists) h → CallersBelow chans.row.callers h → IsPasses (passes_of chans (after_call users k h))
IsPasses-user chans users k h is within legal known = record {
  is_house = is.is_house;
  small = is.small;
  below = is.below;
  count = is.count;
  legal = is.legal;
  known = is.known;
  user_count_is = length-set users.lists k h ∙ is.user_count_is;
  legal_users = legal_set IsUserLegalAt users.lists k h is.legal_users within legal;
  known_users = legal_set (λ at l. CallersBelow chans.row.callers l) users.lists k h is.known_users within known;
}

-- the passes of a caller of the house after a call on its channel shard k
pub after_chan : (house : HouseModel) (chans : ChanPasses) (users : UserPasses) (now : ChanPasses) (k : ℕ) → IsPasses (passes_of chans users) → IsHouse house → chans.row ≡ house.chans → k < length chans.lists
    → IsLegalAt (place_of house.chans k) (seen now k) → CallersBelow house.chans.callers (seen now k) → now ≡ after_call chans k (seen now k) → IsPasses (passes_of now users)
after_chan house chans users now k is home row within legal known same =
    let many : length chans.lists ≡ chan_count house = is.count ∙ ap (λ (r : RowModel). length r.locks) row in
    let at : place_of house.chans k ≡ (k, length chans.lists) = home.places k (subst (λ (n : ℕ). k < n) many within) ∙ (λ i. (k, sym many i)) in
    subst (λ (z : ChanPasses). IsPasses (passes_of z users)) (sym same) (IsPasses-chan chans users k (seen now k) is within (subst (λ (w : ℕ × ℕ). IsLegalAt w (seen now k)) at legal) (subst (λ (r : RowModel). CallersBelow r.callers (seen now k)) (sym row) known))

-- the same on its user shard k
pub after_user : (house : HouseModel) (chans : ChanPasses) (users : UserPasses) (now : UserPasses) (k : ℕ) → IsPasses (passes_of chans users) → IsHouse house → users.row ≡ house.users → k < length users.lists
    → IsUserLegalAt (place_of house.users k) (seen now k) → CallersBelow house.users.callers (seen now k) → now ≡ after_call users k (seen now k) → IsPasses (passes_of chans now)
after_user house chans users now k is home row within legal known same =
    let many : length users.lists ≡ user_count house = is.user_count_is ∙ ap (λ (r : RowModel). length r.locks) row in
    let at : place_of house.users k ≡ (k, length users.lists) = home.user_places k (subst (λ (n : ℕ). k < n) many within) ∙ (λ i. (k, sym many i)) in
    subst (λ (z : UserPasses). IsPasses (passes_of chans z)) (sym same) (IsPasses-user chans users k (seen now k) is within (subst (λ (w : ℕ × ℕ). IsUserLegalAt w (seen now k)) at legal) (subst (λ (n : ℕ). CallersBelow n (seen now k)) (ap (λ (r : RowModel). r.callers) (sym row) ∙ is.is_house.callers) known))
