-- A house that is new: its places, and the passes of its callers.
use Rattle.std.proofs.Common.{◌≡◌, ℕ, zero, suc, ◌<◌, ◌≤◌, List, [], ◌∷◌, length, map, get_or, Some, None, refl, sym, ap, ◌∙◌, subst, arith}
use Rattle.std.specs.Prelude.{is_some}
use Rattle.std.proofs.lemmas.List.{length-map, get_or_past}
use Rattle.std.proofs.lemmas.List.Elements.{All-nil}
use Rattle.std.proofs.lemmas.Option.{same_Some, none-some}
use mathlib.Core.Logic.{dite}
use native.Mathlib.Decide.{dec_lt}
use Rattle.ch_base.specs.declared.channel.ChanCall.{ChanCall}
use Rattle.ch_base.specs.declared.channel.ChanAnswer.{ChanAnswer}
use Rattle.ch_base.specs.declared.limits.TheConstants.{MAX_CALLERS}
use Rattle.ch_base.specs.declared.user.UserCall.{UserCall}
use Rattle.ch_base.specs.declared.user.UserAnswer.{UserAnswer}
use Rattle.ch_config.specs.declared.limits.TheConstants.{MAX_SHARDS}
use Rattle.ch_history.specs.Placement.{IsLegalAt, IsUserLegalAt}
use Rattle.ch_turn.specs.Callers.{CallersBelow}
use Rattle.ch_turn.specs.PassModels.{LockModel}
use Rattle.ch_house.specs.Rows.{RowModel, RowPassesListModel, places, place_of}
use Rattle.ch_house.specs.Rows as row
use Rattle.ch_house.specs.Houses.{HouseModel, AreAllPlaces, passes_of, passes_there, all_passes, fresh_passes, IsHouse, IsPasses}
use Rattle.ch_house.specs.Pairs.{IsPassesList}
use Rattle.ch_house.proofs.Pairing.{ChanPasses, UserPasses, slot_there, length-all_passes}
use Rattle.ch_house.proofs.NewSeats.{nothing_legal, nothing_user_legal}

-- a row with so many places has so many locks
pub count_by_places : (r : RowModel) (ps : List (ℕ × ℕ)) (n : ℕ) → places r ≡ ps → length ps ≡ n → length r.locks ≡ n
count_by_places r ps n is long = sym (length-map r.locks (λ (l : LockModel). l.place)) ∙ (ap length is ∙ long)

each_place : (r : RowModel) (ps : List (ℕ × ℕ)) (n : ℕ) → places r ≡ ps → length ps ≡ n → AreAllPlaces n ps → (k : ℕ) → k < length r.locks → place_of r k ≡ (k, length r.locks)
each_place r ps n is long all k within =
    let count = count_by_places r ps n is long in
    ap (λ (l : List (ℕ × ℕ)). get_or l k (0, 0)) is ∙ (all k (omega arith) ∙ (λ i. (k, sym count i)))

pub IsHouse-new : (chans users : RowModel) (n m : ℕ) (ps qs : List (ℕ × ℕ)) → (1 ≤ n) × (n ≤ MAX_SHARDS) → (1 ≤ m) × (m ≤ MAX_SHARDS) → places chans ≡ ps → length ps ≡ n → AreAllPlaces n ps → places users ≡ qs → length qs ≡ m → AreAllPlaces m qs
    → users.callers ≡ chans.callers → IsHouse (record { chans = chans; users = users })
IsHouse-new chans users n m ps qs bounds user_bounds is long all user_is user_long user_all callers =
    let count = count_by_places chans ps n is long in
    let user_count = count_by_places users qs m user_is user_long in
    let some = bounds.0 in
    let few = bounds.1 in
    let some_users = user_bounds.0 in
    let few_users = user_bounds.1 in
    record {
      some = omega arith;
      few = omega arith;
      places = each_place chans ps n is long all;
      some_users = omega arith;
      few_users = omega arith;
      user_places = each_place users qs m user_is user_long user_all;
      callers = callers;
    }

-- of a new shard nothing is seen
nothing_seen : {E : Type 0} (locks : List LockModel) (k : ℕ) → ◌≡◌ {A = List E} (get_or (map (λ l. []) locks) k []) []
nothing_seen [] k = refl
nothing_seen (l ∷ locks) zero = refl
nothing_seen (l ∷ locks) (suc k) = nothing_seen locks k

IsPasses-fresh : (house : HouseModel) → IsHouse house → house.chans.callers ≤ MAX_CALLERS → (i : ℕ) → i < house.chans.callers → IsPasses (fresh_passes house i)
IsPasses-fresh house is few i below = record {
  is_house = is;
  small = omega arith;
  below = below;
  count = length-map house.chans.locks (λ l. []);
  legal = λ k within. subst (IsLegalAt (k, length (map (λ l. []) house.chans.locks))) (sym (nothing_seen house.chans.locks k)) (nothing_legal (k, length (map (λ l. []) house.chans.locks)));
  known = λ k within. subst (CallersBelow house.chans.callers) (sym (nothing_seen house.chans.locks k)) (All-nil (λ e. e.caller < house.chans.callers));
  user_count_is = length-map house.users.locks (λ l. []);
  legal_users = λ k within. subst (IsUserLegalAt (k, length (map (λ l. []) house.users.locks))) (sym (nothing_seen house.users.locks k)) (nothing_user_legal (k, length (map (λ l. []) house.users.locks)));
  known_users = λ k within. subst (CallersBelow house.chans.callers) (sym (nothing_seen house.users.locks k)) (All-nil (λ e. e.caller < house.chans.callers));
}

module _ (chans : RowPassesListModel ChanCall ChanAnswer) (users : RowPassesListModel UserCall UserAnswer) (w : ℕ) (many : length chans.slots ≡ w) (user_many : length users.slots ≡ w)
    (each : (i : ℕ) → i < w → get_or chans.slots i None ≡ Some (row.fresh_passes chans.row i)) (user_each : (i : ℕ) → i < w → get_or users.slots i None ≡ Some (row.fresh_passes users.row i)) where
  pub fresh_slots : (i : ℕ) → i < w → get_or (all_passes chans.slots users.slots) i None ≡ Some (passes_of (row.fresh_passes chans.row i) (row.fresh_passes users.row i))
  fresh_slots i below = slot_there chans.slots users.slots i (user_many ∙ sym many) ∙ (λ j. passes_there (each i below j, user_each i below j))

  pub count_slots : length (all_passes chans.slots users.slots) ≡ w
  count_slots = length-all_passes chans.slots users.slots (user_many ∙ sym many) ∙ many

  pub IsPassesList-new : IsHouse (record { chans = chans.row; users = users.row }) → chans.row.callers ≡ w → w ≤ MAX_CALLERS → IsPassesList chans users
  IsPassesList-new home callers few = record {
    is_house = home;
    many = many ∙ sym callers;
    as_many = user_many ∙ sym many;
    together = λ i. dite (dec_lt i w)
        (λ (below : i < w). ap is_some (user_each i below) ∙ ap is_some (sym (each i below)))
        (λ beyond. ap is_some (get_or_past users.slots i None (omega arith)) ∙ ap is_some (sym (get_or_past chans.slots i None (omega arith))));
    each = λ i p at. dite (dec_lt i w)
        (λ (below : i < w).
        let under : i < chans.row.callers = omega arith in
        let small : chans.row.callers ≤ MAX_CALLERS = omega arith in
        subst IsPasses (same_Some (fresh_passes (record { chans = chans.row; users = users.row }) i) p (sym (fresh_slots i below) ∙ at)) (IsPasses-fresh (record { chans = chans.row; users = users.row }) home small i under))
        (λ beyond. let count = count_slots in absurd (none-some p (sym (get_or_past (all_passes chans.slots users.slots) i None (omega arith)) ∙ at)));
    same_number = λ i a b at user_at. dite (dec_lt i w)
        (λ (below : i < w).
        ap (λ (u : UserPasses). u.caller) (sym (same_Some (row.fresh_passes users.row i) b (sym (user_each i below) ∙ user_at))) ∙ ap (λ (c : ChanPasses). c.caller) (same_Some (row.fresh_passes chans.row i) a (sym (each i below) ∙ at)))
        (λ beyond. absurd (none-some a (sym (get_or_past chans.slots i None (omega arith)) ∙ at)));
  }
