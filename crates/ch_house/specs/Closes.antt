-- What is known of a house that was closed.
use Rattle.std.specs.Prelude.{◌≡◌, ℕ, List, length, Option, Some, None, slice_index_or}
use Rattle.ch_base.specs.declared.entry.Entry.{Entry}
use Rattle.ch_history.specs.Placement.{IsLegalAt, IsUserLegalAt}
use Rattle.ch_turn.specs.Callers.{CallersBelow, GrowsByOthers}
use Rattle.ch_house.specs.declared.counts.ShardCount.{ShardCount}
use Rattle.ch_house.specs.Houses.{PassesModel, HouseModel, chan_count, user_count, seen, seen_user}
use Rattle.ch_house.specs.Left.{open_subs, lasting_signs}

-- the counts of all channel shards, and of all user shards
pub record ClosedModel : Type 0 where
  pub chans : List ShardCount
  pub users : List ShardCount

module _ {C A : Type 0} (legal : ℕ × ℕ → List (Entry C A) → Type 0) (left_after : List (Entry C A) → ℕ)
    (seen_by : PassesModel → ℕ → List (Entry C A)) where
  -- the shard k of n has one legal history: of so many entries, after which so much is left open. It begins with the list
  -- of each caller, and has no entry of that caller after it, so that it has each caller's calls once and in that
  -- caller's order. It has no entry of anyone else
  pub record HasClosed (n k callers : ℕ) (slots : List (Option PassesModel)) (count : ShardCount) : Type 0 where
    pub log : List (Entry C A)
    pub is_legal : legal (k, n) log
    pub entries : count.entries ≡ length log
    pub left : count.left ≡ left_after log
    pub each_caller : (i : ℕ) (p : PassesModel) → slice_index_or slots i None ≡ Some p
        → GrowsByOthers p.caller (seen_by p k) log
    pub known_callers : CallersBelow callers log

-- so was a channel shard closed
abbrev pub ChanClosed : HouseModel → List (Option PassesModel) → ℕ → ShardCount → Type 0
ChanClosed house slots k count =
    HasClosed IsLegalAt open_subs seen (chan_count house) k house.chans.callers slots count

-- so was a user shard closed
abbrev pub UserClosed : HouseModel → List (Option PassesModel) → ℕ → ShardCount → Type 0
UserClosed house slots k count =
    HasClosed IsUserLegalAt lasting_signs seen_user (user_count house) k house.chans.callers slots count
