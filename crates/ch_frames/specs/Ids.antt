-- Ids that are read, where they are good.
use Rattle.std.specs.Prelude.{◌≡◌, ◌⊎◌, ℕ, Bool, ◌||◌, ◌==◌, List, [], Option, Some, None, Result, Ok, Err, if◌then◌else◌, IsTrue}
use Rattle.std.specs.List.{list_all}
use Rattle.ch_base.specs.JsonTree.{Span, Tree, plain, null, array, Items, Members}
use Rattle.ch_base.specs.JsonText.{is_e}
use Rattle.ch_base.specs.ObjectMembers.{HasString}
use Rattle.ch_history.specs.Limits.{is_user_id}
use Rattle.ch_protocol.specs.ChannelData.{is_whole}
use Rattle.ch_protocol.specs.UserDataText.{IsIdList}
use Rattle.ch_frames.specs.declared.refused.Unread.{Unread}
use Rattle.ch_frames.specs.declared.refused.Unread.TheVariants.{Bad, Memory}

-- the byte begins a fraction or an exponent
abbrev pub is_point_or_e : ℕ → Bool
is_point_or_e b = (b == 46) || is_e b

abbrev pub good_id : List ℕ → Option (List ℕ)
good_id id = if is_user_id id then Some id else None

abbrev pub good_ids : List (List ℕ) → Option (List (List ℕ))
good_ids ids = if list_all is_user_id ids then Some ids else None

abbrev pub whole_id : List ℕ → Option (List ℕ)
whole_id number = if is_whole number then good_id number else None

-- the member `id` is
abbrev pub HasGoodId : List ℕ → Members → List ℕ → List ℕ → Type 0
HasGoodId text ms name id = HasString text ms name id × IsTrue (is_user_id id)

-- the value is null, or an array of good user ids
abbrev pub IsWatchlist : List ℕ → Tree → List (List ℕ) → Type 0
IsWatchlist text v watchlist =
    ((s : Span) × (v ≡ plain null s) × (watchlist ≡ []))
    ⊎ ((vs : Items) × (s : Span) × (v ≡ array vs s) × IsIdList text vs watchlist)

-- the answer is this, or nothing, unless memory ran out
abbrev pub Told : {A : Type 0} → (Option A → Type 0) → Result A Unread → Type 0
Told P (Ok x) = P (Some x)
Told P (Err Bad) = P None
Told P (Err Memory) = Unit {0}
