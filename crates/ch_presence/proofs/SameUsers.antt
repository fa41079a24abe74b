-- The users of the open subscriptions' rows.
use Rattle.std.proofs.Common.{◌≡◌, ℕ, ◌==◌, ◌&&◌, ◌||◌, Bool, true, false, cond, List, [], ◌∷◌, Option, Some, None, All, find, filter_map, map, option_map, option_and_then, bytes_eq, refl, ap, ap₂, sym, ◌∙◌}
use Rattle.std.specs.List.{cons_option, list_any}
use Rattle.std.specs.Option.{is_some}
use Rattle.std.proofs.lemmas.List.Elements.{All-head, All-tail}
use Rattle.ch_base.specs.declared.channel.Member.{Member}
use Rattle.ch_history.specs.declared.rows.Subscription.{Subscription}
use Rattle.ch_history.specs.ChannelName.{is_presence}
use Rattle.ch_history.specs.Texts.{ascending}
use Rattle.ch_history.specs.Subscriptions.{on_channel, is_on}
use Rattle.ch_history.specs.Presence.{members_in, users_in, user_in}
use Rattle.ch_history.specs.WellFormed.{IsMemberOf}
use Rattle.ch_history.proofs.Lists.{neither, list_any-filter}
use Rattle.ch_history.proofs.Texts.{same_text}
use Rattle.ch_presence.specs.declared.present.Present.{Present}
use Rattle.ch_presence.specs.Members.{present, present_on, members_on, ids_on, is_row_of, is_present, user_of}
use Rattle.ch_presence.specs.Subscribed.{rows_of, HasMember, UsersLaw}

pub members_of : (xs : List Subscription) (c : List ℕ) → members_on (rows_of xs) c ≡ members_in (on_channel xs c)
members_of [] c = refl
members_of (s ∷ xs) c =
    elim s.member as (λ o. members_on (cons_option (option_map (λ m. present s.channel s.socket m) o) (rows_of xs)) c ≡ filter_map (λ s. s.member) (cond (bytes_eq s.channel c) (record { channel = s.channel; socket = s.socket; owner = s.owner; member = o } ∷ on_channel xs c) (on_channel xs c))) [
      | None ↦ elim (bytes_eq s.channel c) as (λ b. members_on (rows_of xs) c ≡ filter_map (λ s. s.member) (cond b (record { channel = s.channel; socket = s.socket; owner = s.owner; member = None } ∷ on_channel xs c) (on_channel xs c))) [ true ↦ members_of xs c | false ↦ members_of xs c ]
      | Some m ↦ elim (bytes_eq s.channel c) as (λ b. map (λ r. r.member) (cond b (present s.channel s.socket m ∷ present_on (rows_of xs) c) (present_on (rows_of xs) c)) ≡ filter_map (λ s. s.member) (cond b (record { channel = s.channel; socket = s.socket; owner = s.owner; member = Some m } ∷ on_channel xs c) (on_channel xs c))) [
        | true ↦ ap (λ ms. m ∷ ms) (members_of xs c)
        | false ↦ members_of xs c
      ]
    ]

-- the member that a subscription on a presence channel has
its_member : (b : Bool) (m : Option Member) → b ≡ true → IsMemberOf b m → is_some m ≡ true
its_member true None is fits = absurd fits
its_member true (Some m) is fits = refl
its_member false m is fits = cc

-- the first row of a socket on a channel, with one more subscription before
abbrev first_row : Subscription → Bool → Bool → Option Member → Option Present → Option Present
first_row s a b None found = found
first_row s a b (Some m) found = cond (a && b) (Some (present s.channel s.socket m)) found

find-first_row : (s : Subscription) (c : List ℕ) (socket : ℕ) (o : Option Member) (rows : List Present) → find (is_row_of c socket) (cons_option (option_map (λ m. present s.channel s.socket m) o) rows) ≡ first_row s (s.socket == socket) (bytes_eq s.channel c) o (find (is_row_of c socket) rows)
find-first_row s c socket None rows = refl
find-first_row s c socket (Some m) rows = refl

find-cond : (s : Subscription) (socket : ℕ) (b : Bool) (xs : List Subscription) → find (λ s. s.socket == socket) (cond b (s ∷ xs) xs) ≡ cond b (cond (s.socket == socket) (Some s) (find (λ s. s.socket == socket) xs)) (find (λ s. s.socket == socket) xs)
find-cond s socket true xs = refl
find-cond s socket false xs = refl

abbrev user_found : Option Present → Option (List ℕ)
user_found found = option_map (λ m. m.user_id) (option_map (λ r. r.member) found)

abbrev user_seen : Option Subscription → Option (List ℕ)
user_seen seen = option_map (λ m. m.user_id) (option_and_then (λ s. s.member) seen)

same_user : (s : Subscription) (a b : Bool) (o : Option Member) (found : Option Present) (seen : Option Subscription) → s.member ≡ o → (b ≡ true → is_some o ≡ true) → user_found found ≡ user_seen seen → user_found (first_row s a b o found) ≡ user_seen (cond b (cond a (Some s) seen) seen)
same_user s a true None found seen is there rest = absurd (let lie : false ≡ true = there refl in cc)
same_user s true true (Some m) found seen is there rest = sym (ap (option_map (λ m. m.user_id)) is)
same_user s false true (Some m) found seen is there rest = rest
same_user s a false None found seen is there rest = rest
same_user s true false (Some m) found seen is there rest = rest
same_user s false false (Some m) found seen is there rest = rest

user_of-rows_of : (xs : List Subscription) (c : List ℕ) (socket : ℕ) → is_presence c ≡ true → All HasMember xs → user_of (rows_of xs) c socket ≡ user_in (on_channel xs c) socket
user_of-rows_of [] c socket is all = refl
user_of-rows_of (s ∷ xs) c socket is all =
    let rest = user_of-rows_of xs c socket is (All-tail HasMember s xs all) in
    let there : bytes_eq s.channel c ≡ true → is_some s.member ≡ true =
    λ here. its_member (is_presence s.channel) s.member (ap is_presence (same_text s.channel c here) ∙ is) (All-head HasMember s xs all) in
    ap user_found (find-first_row s c socket s.member (rows_of xs))
    ∙ same_user s (s.socket == socket) (bytes_eq s.channel c) s.member (find (is_row_of c socket) (rows_of xs)) (find (λ s. s.socket == socket) (on_channel xs c)) refl there rest
    ∙ ap user_seen (sym (find-cond s socket (bytes_eq s.channel c) (on_channel xs c)))

-- a socket without a subscription has no row
no_row : (c : List ℕ) (socket : ℕ) (xs : List Subscription) → list_any (λ s. (s.socket == socket) && bytes_eq s.channel c) xs ≡ false → is_present (rows_of xs) c socket ≡ false
no_row c socket [] none = refl
no_row c socket (s ∷ xs) none =
    let parts = neither ((s.socket == socket) && bytes_eq s.channel c) (list_any (λ s. (s.socket == socket) && bytes_eq s.channel c) xs) none in
    let rest = no_row c socket xs parts.1 in
    elim s.member as (λ o. list_any (is_row_of c socket) (cons_option (option_map (λ m. present s.channel s.socket m) o) (rows_of xs)) ≡ false) [
      | None ↦ rest
      | Some m ↦ ap₂ ◌||◌ parts.0 rest
    ]

absent_there : (xs : List Subscription) (c : List ℕ) (socket : ℕ) → is_on xs socket c ≡ false → is_present (rows_of xs) c socket ≡ false
absent_there xs c socket off =
    no_row c socket xs (sym (list_any-filter (λ s. s.socket == socket) (λ s. bytes_eq s.channel c) xs) ∙ off)

pub same_users : UsersLaw
same_users xs c =
    let members = members_of xs c in
    let ids : is_presence c ≡ true → ids_on (rows_of xs) c ≡ users_in c (on_channel xs c) =
    λ is. ap (λ ms. ascending (map (λ m. m.user_id) ms)) members ∙ ap (λ b. cond b (ascending (map (λ m. m.user_id) (members_in (on_channel xs c)))) []) (sym is) in
    record {
      members = members;
      ids = ids;
      rows = λ is.
          ap (λ ms. filter_map (λ id. find (λ m. bytes_eq m.user_id id) ms) (ids_on (rows_of xs) c)) members
          ∙ ap (λ ids. filter_map (λ id. find (λ m. bytes_eq m.user_id id) (members_in (on_channel xs c))) ids) (ids is);
      user = user_of-rows_of xs c;
      absent = absent_there xs c;
    }
