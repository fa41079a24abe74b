-- Who signs in and whom that user watches, as the data of a sign-in tell it (Pusher Channels documentation, "User
-- authentication" and "Watchlist events").
use Rattle.std.specs.Prelude.{◌≡◌, ◌⊎◌, ◌≤◌, ℕ, List, [], ◌∷◌, length, IsTrue, Option, Some, None, codes}
use Rattle.ch_base.specs.JsonTree.{Span, Tree, array, Items, Members}
use Rattle.ch_base.specs.JsonParts.{items_of}
use Rattle.ch_base.specs.ObjectMembers.{IsObjectText, AreDistinct, HasOne, HasString, IsLeftOut, IsStringOf}
use Rattle.ch_base.specs.FirstPlaces.{first_places}
use Rattle.ch_history.specs.Limits.{is_user_id}
use Rattle.ch_protocol.specs.declared.client_message.UserData.{UserData}
use Rattle.ch_protocol.specs.declared.limits.TheConstants.{LONGEST_WATCHLIST}

-- the values are strings with these good user ids
abbrev pub AreIds : List ℕ → List Tree → List (List ℕ) → Type 0
AreIds text [] [] = Unit {0}
AreIds text (v ∷ vs) (id ∷ ids) = IsStringOf text v id × IsTrue (is_user_id id) × AreIds text vs ids
AreIds text _ _ = ⊥

-- an array of at most `LONGEST_WATCHLIST` good user ids
pub record IsIdList (text : List ℕ) (vs : Items) (watchlist : List (List ℕ)) : Type 0 where
  pub few : length (items_of vs) ≤ LONGEST_WATCHLIST
  pub ids : List (List ℕ)
  pub are : AreIds text (items_of vs) ids
  pub once : watchlist ≡ first_places ids

-- the watchlist may be left out
abbrev pub HasWatchlist : List ℕ → Members → List (List ℕ) → Type 0
HasWatchlist text ms watchlist =
    (IsLeftOut text ms (codes "watchlist") × (watchlist ≡ []))
    ⊎ ((vs : Items) × (s : Span) × HasOne text ms (codes "watchlist") (array vs s) × IsIdList text vs watchlist)

-- the data are those of the user: an object in which no name stands twice, with an id, and a watchlist or none
pub record IsUserData (text : List ℕ) (user : UserData) : Type 0 where
  pub members : Members
  pub spelled : IsObjectText text members
  pub distinct : AreDistinct text members
  pub id : HasString text members (codes "id") user.id
  pub good : IsTrue (is_user_id user.id)
  pub watchlist : HasWatchlist text members user.watchlist

-- the user whose data these are, or none where they are nobody's
abbrev pub TellsUser : List ℕ → Option UserData → Type 0
TellsUser text (Some user) = IsUserData text user
TellsUser text None = (user : UserData) → IsUserData text user → ⊥
