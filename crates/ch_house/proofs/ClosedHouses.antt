-- What is known of the shards of a closed house.
use Rattle.std.proofs.Common.{◌≡◌, ℕ, ◌<◌, List, get_or, Option, None, [], slice_index_or, sym, ap, ◌∙◌, subst}
use Rattle.ch_base.specs.declared.channel.ChanCall.{ChanCall}
use Rattle.ch_base.specs.declared.channel.ChanAnswer.{ChanAnswer}
use Rattle.ch_base.specs.declared.user.UserCall.{UserCall}
use Rattle.ch_base.specs.declared.user.UserAnswer.{UserAnswer}
use Rattle.ch_history.specs.Entries.{ChanHistory, UserHistory}
use Rattle.ch_history.specs.Placement.{IsLegalAt, IsUserLegalAt}
use Rattle.ch_turn.specs.declared.closing.Closed.{Closed}
use Rattle.ch_turn.specs.Callers.{CallersBelow, GrowsByOthers}
use Rattle.ch_house.specs.declared.counts.ShardCount.{ShardCount}
use Rattle.ch_shard.specs.declared.seat.ChanSeat.{ChanSeat}
use Rattle.ch_ushard.specs.declared.seat.UserSeat.{UserSeat}
use Rattle.ch_house.specs.Rows.{RowPassesListModel, HasRowHistory}
use Rattle.ch_shard.specs.Seats as chan_seat
use Rattle.ch_ushard.specs.Seats as user_seat
use Rattle.ch_house.specs.Left.{open_subs, lasting_signs}
use Rattle.ch_house.specs.Houses.{HouseModel, PassesModel, chan_count, user_count, all_passes, seen, seen_user, IsHouse}
use Rattle.ch_house.specs.Pairs.{IsPassesList}
use Rattle.ch_house.specs.Closes.{ChanClosed, UserClosed}
use Rattle.ch_house.proofs.Pairing.{slot_there, both_there}

module _ (house : HouseModel) (chans : RowPassesListModel ChanCall ChanAnswer) (users : RowPassesListModel UserCall UserAnswer) (slots : List (Option PassesModel)) (home : IsHouse house)
    (is : IsPassesList chans users) (there : all_passes chans.slots users.slots ≡ slots) (k : ℕ) where
  pub chan_closed : (c : Closed ChanSeat) (n : ShardCount) → k < chan_count house → HasRowHistory IsLegalAt (λ (s : ChanSeat) h. chan_seat.StandsAt s.shard (s.k, s.n) h) house.chans k chans.slots c → n.entries ≡ c.entries
      → ((h : ChanHistory) → chan_seat.StandsAt c.value.shard (c.value.k, c.value.n) h → n.left ≡ open_subs h) → ChanClosed house slots k n
  chan_closed c n within h entries left = record {
    log = h.log;
    is_legal = subst (λ (w : ℕ × ℕ). IsLegalAt w h.log) (home.places k within) h.is_legal;
    entries = entries ∙ sym h.count;
    left = left h.log h.is_right;
    known_callers = h.known_callers;
    each_caller = λ i p at.
        let b = both_there (get_or chans.slots i None) (get_or users.slots i None) p (sym (slot_there chans.slots users.slots i is.as_many) ∙ (ap (λ (l : List (Option PassesModel)). get_or l i None) there ∙ at)) in
        subst (λ (q : PassesModel). GrowsByOthers q.caller (seen q k) h.log) b.4 (h.each_caller i b.0 b.2);
  }

  pub user_closed : (c : Closed UserSeat) (n : ShardCount) → k < user_count house → HasRowHistory IsUserLegalAt (λ (s : UserSeat) h. user_seat.StandsAt s.shard (s.k, s.n) h) house.users k users.slots c → n.entries ≡ c.entries
      → ((h : UserHistory) → user_seat.StandsAt c.value.shard (c.value.k, c.value.n) h → n.left ≡ lasting_signs h) → UserClosed house slots k n
  user_closed c n within h entries left = record {
    log = h.log;
    is_legal = subst (λ (w : ℕ × ℕ). IsUserLegalAt w h.log) (home.user_places k within) h.is_legal;
    entries = entries ∙ sym h.count;
    left = left h.log h.is_right;
    known_callers = subst (λ (n : ℕ). CallersBelow n h.log) home.callers h.known_callers;
    each_caller = λ i p at.
        let b = both_there (get_or chans.slots i None) (get_or users.slots i None) p (sym (slot_there chans.slots users.slots i is.as_many) ∙ (ap (λ (l : List (Option PassesModel)). get_or l i None) there ∙ at)) in
        let number = is.same_number i b.0 b.1 b.2 b.3 in
        subst (λ (q : PassesModel). GrowsByOthers q.caller (seen_user q k) h.log) b.4 (subst (λ (w : ℕ). GrowsByOthers w (slice_index_or b.1.lists k []) h.log) number (h.each_caller i b.1 b.3));
  }
