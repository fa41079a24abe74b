-- What the parts of a shard have in common, through each change, and what it says of the users of a channel.
use Rattle.std.proofs.Common.{◌≡◌, ℕ, ◌<◌, ◌==◌, ◌&&◌, ◌||◌, Bool, true, false, not, cond, List, [], ◌∷◌, ◌++◌, Option, Some, None, All, bytes_eq, find, map, option_map, length, nat_le, refl, ap, sym, ◌∙◌}
use Rattle.std.specs.List.{list_any, cons_option}
use Rattle.std.proofs.lemmas.List.Elements.{All-head, All-tail, All-filter, All-push}
use Rattle.ch_base.specs.declared.channel.Member.{Member}
use Rattle.ch_base.specs.declared.limits.TheConstants.{MAX_CALLERS}
use Rattle.ch_history.specs.declared.rows.Subscription.{Subscription}
use Rattle.ch_history.specs.ChannelName.{is_presence}
use Rattle.ch_history.specs.Texts.{ascending, has_text}
use Rattle.ch_history.specs.Subscriptions.{on_channel}
use Rattle.ch_history.specs.Presence.{members_in, users_in, has_user, user_in}
use Rattle.ch_history.specs.WellFormed.{IsMemberOf}
use Rattle.ch_history.specs.Answers.{is_crowded}
use Rattle.ch_history.proofs.Lists.{filter-none, list_any-filter}
use Rattle.ch_history.proofs.Texts.{same_text}
use Rattle.ch_presence.specs.declared.present.Present.{Present}
use Rattle.ch_presence.specs.Members.{present_on, members_on, ids_on, is_row_of, is_present, user_of, without, with_newcomer}
use Rattle.ch_presence.specs.Members as row
use Rattle.ch_presence.specs.Subscribed.{HasMember, row_of, rows_of}
use Rattle.ch_presence.proofs.SameUsers.{members_of, same_users}
use Rattle.ch_presence.proofs.SameChanges.{same_changes}
use Rattle.ch_subs.specs.Subs.{without_one, without_all}
use Rattle.ch_shard.specs.Sound.{AreSoundRows}
use Rattle.ch_shard.proofs.Owners.{OwnsSub}

-- Through each change

pub IsSound-leave : (xs : List Subscription) (rows : List Present) (c : List ℕ) (socket : ℕ) → AreSoundRows xs rows → AreSoundRows (without_one xs socket c) (without rows c socket)
IsSound-leave xs rows c socket sound =
    let p : Subscription → Bool = λ s. not ((s.socket == socket) && bytes_eq s.channel c) in
    record {
      owners = All-filter p OwnsSub xs sound.owners;
      members = All-filter p HasMember xs sound.members;
      present = ap (λ rs. without rs c socket) sound.present ∙ sym ((same_changes xs).leave c socket);
    }

pub IsSound-lost : (xs : List Subscription) (rows : List Present) (socket : ℕ) → AreSoundRows xs rows → AreSoundRows (without_all xs socket) (row.without_all rows socket)
IsSound-lost xs rows socket sound =
    let p : Subscription → Bool = λ s. not (s.socket == socket) in
    record {
      owners = All-filter p OwnsSub xs sound.owners;
      members = All-filter p HasMember xs sound.members;
      present = ap (λ rs. row.without_all rs socket) sound.present ∙ sym ((same_changes xs).lost socket);
    }

pub IsSound-join : (xs : List Subscription) (rows : List Present) (n : Subscription) → n.owner < MAX_CALLERS → HasMember n → AreSoundRows xs rows → AreSoundRows (xs ++ n ∷ []) (with_newcomer rows (row_of n))
IsSound-join xs rows n below fits sound = record {
  owners = All-push OwnsSub xs n sound.owners below;
  members = All-push HasMember xs n sound.members fits;
  present = ap (λ rs. with_newcomer rs (row_of n)) sound.present ∙ sym ((same_changes xs).join n);
}

-- The users of a channel

memberless : (b : Bool) (m : Option Member) → b ≡ false → IsMemberOf b m → m ≡ None
memberless true m plain fits = cc
memberless false None plain fits = refl
memberless false (Some m) plain fits = absurd fits

no_members : (c : List ℕ) (xs : List Subscription) → is_presence c ≡ false → All HasMember xs → members_in (on_channel xs c) ≡ []
no_members c [] plain all = refl
no_members c (x ∷ xs) plain all =
    let rest = no_members c xs plain (All-tail HasMember x xs all) in
    (elim (bytes_eq x.channel c) as (λ b. bytes_eq x.channel c ≡ b → members_in (cond b (x ∷ on_channel xs c) (on_channel xs c)) ≡ []) [
      | true ↦ (λ here.
          let none : x.member ≡ None = memberless (is_presence x.channel) x.member (ap is_presence (same_text x.channel c here) ∙ plain) (All-head HasMember x xs all) in
          ap (λ o. cons_option o (members_in (on_channel xs c))) none ∙ rest)
      | false ↦ (λ elsewhere. rest)
    ]) refl

-- who is present on a channel are its users
pub users_are : (xs : List Subscription) (rows : List Present) (c : List ℕ) → AreSoundRows xs rows → ids_on rows c ≡ users_in c (on_channel xs c)
users_are xs rows c sound =
    ap (λ rs. ids_on rs c) sound.present
    ∙ ap (λ ms. ascending (map (λ m. m.user_id) ms)) (members_of xs c)
    ∙ (elim (is_presence c) as (λ b. is_presence c ≡ b → ascending (map (λ m. m.user_id) (members_in (on_channel xs c))) ≡ cond b (ascending (map (λ m. m.user_id) (members_in (on_channel xs c)))) []) [
      | true ↦ (λ is. refl)
      | false ↦ (λ plain. ap (λ ms. ascending (map (λ m. m.user_id) ms)) (no_members c xs plain sound.members))
    ]) refl

pub presence_of : (b : Bool) (m : Member) → IsMemberOf b (Some m) → b ≡ true
presence_of true m fits = refl
presence_of false m fits = absurd fits

-- whether a channel is full for a member, by who is present
pub crowded_is : (xs : List Subscription) (rows : List Present) (c : List ℕ) (m : Member) → AreSoundRows xs rows → IsMemberOf (is_presence c) (Some m)
    → (not (has_text (ids_on rows c) m.user_id) && nat_le 100 (length (ids_on rows c))) ≡ is_crowded c (on_channel xs c) (Some m)
crowded_is xs rows c m sound fits =
    ap (λ us. not (has_text us m.user_id) && nat_le 100 (length us)) (users_are xs rows c sound)
    ∙ ap (λ b. b && not (has_user c (on_channel xs c) m.user_id) && nat_le 100 (length (users_in c (on_channel xs c)))) (sym (presence_of (is_presence c) m fits))

-- A socket that leaves

find_none : (p : Present → Bool) (rows : List Present) → find p rows ≡ None → list_any p rows ≡ false
find_none p [] none = refl
find_none p (r ∷ rows) none =
    (elim (p r) as (λ b. cond b (Some r) (find p rows) ≡ None → (b || list_any p rows) ≡ false) [
      | true ↦ (λ h. cc)
      | false ↦ (λ h. find_none p rows h)
    ]) none

no_row : (found : Option Present) → option_map (λ m. m.user_id) (option_map (λ r. r.member) found) ≡ None → found ≡ None
no_row None is = refl
no_row (Some r) is = cc

nobody_on : (rows : List Present) (c : List ℕ) (socket : ℕ) → members_on rows c ≡ [] → is_present rows c socket ≡ false
nobody_on rows c socket none =
    sym (list_any-filter (λ r. r.socket == socket) (λ r. bytes_eq r.channel c) rows) ∙ ap (list_any (λ r. r.socket == socket)) (nothing (present_on rows c) none)
  where
    nothing : (rs : List Present) → map (λ r. r.member) rs ≡ [] → rs ≡ []
    nothing [] is = refl
    nothing (r ∷ rs) is = cc

-- a socket without a user on the channel has no row there
pub none_leaves : (xs : List Subscription) (rows : List Present) (c : List ℕ) (socket : ℕ) → AreSoundRows xs rows → user_in (on_channel xs c) socket ≡ None → without rows c socket ≡ rows
none_leaves xs rows c socket sound none =
    filter-none (is_row_of c socket) rows ((elim (is_presence c) as (λ b. is_presence c ≡ b → is_present rows c socket ≡ false) [
      | true ↦ (λ is.
          let user : user_of (rows_of xs) c socket ≡ None = (same_users xs c).user socket is sound.members ∙ none in
          ap (λ rs. is_present rs c socket) sound.present
          ∙ find_none (is_row_of c socket) (rows_of xs) (no_row (find (is_row_of c socket) (rows_of xs)) user))
      | false ↦ (λ plain.
          ap (λ rs. is_present rs c socket) sound.present
          ∙ nobody_on (rows_of xs) c socket (members_of xs c ∙ no_members c xs plain sound.members))
    ]) refl)
