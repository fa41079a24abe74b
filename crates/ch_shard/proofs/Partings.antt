-- What the end of a subscription makes, by what a shard looks up before it.
use Rattle.std.proofs.Common.{◌≡◌, ℕ, ◌==◌, Bool, true, false, not, ◌&&◌, ◌||◌, cond, List, [], ◌∷◌, ◌++◌, Option, Some, None, bytes_eq, find, map, option_map, option_and_then, All, refl, ap, ap₂, sym, append_assoc, ◌∙◌}
use Rattle.std.specs.List.{list_any}
use Rattle.std.proofs.lemmas.List.Elements.{All-head, All-tail}
use Rattle.std.proofs.Math.Bool.{and_comm}
use Rattle.ch_base.specs.declared.channel.Member.{Member}
use Rattle.ch_base.specs.declared.frame.Frame.TheVariants.{Removed}
use Rattle.ch_base.specs.declared.webhook.Hook.{Hook}
use Rattle.ch_base.specs.declared.webhook.Hook.TheVariants as hook
use Rattle.ch_history.specs.declared.rows.Subscription.{Subscription}
use Rattle.ch_history.specs.ChannelName.{is_presence}
use Rattle.ch_history.specs.Subscriptions.{on_channel}
use Rattle.ch_history.specs.Presence.{user_in, has_user}
use Rattle.ch_history.specs.Frames.{to, is_gone, member_removed_of}
use Rattle.ch_history.specs.Webhooks.{removed, vacated, parting}
use Rattle.ch_history.specs.WellFormed.{IsMemberOf}
use Rattle.ch_history.proofs.Lists.{list_any-filter, list_any-same}
use Rattle.ch_history.proofs.Texts.{same_text, text_itself}
use Rattle.ch_history.proofs.Membership.{among, has_user_is}
use Rattle.ch_history.proofs.Membership as law
use Rattle.ch_presence.specs.Subscribed.{HasMember}
use Rattle.ch_shard.specs.Parting.{is_user, others, gone_of, gone_user, farewell, farewell_hook, vacated_hook}
use Rattle.ch_shard.proofs.Lists.{is_empty-filter}

-- The user that is gone

pub departs : (c : List ℕ) (before after : List Subscription) (id : Option (List ℕ)) → member_removed_of c before after id ≡ farewell c (gone_of c before after id) after
departs c before after None = refl
departs c before after (Some id) =
    elim (is_gone c before after id) as (λ b. cond b (map (to (Removed c id)) after) [] ≡ farewell c (cond b (Some id) None) after) [
      | true ↦ refl
      | false ↦ refl
    ]

pub removes : (c : List ℕ) (before after : List Subscription) (id : Option (List ℕ)) → removed c before after id ≡ farewell_hook c (gone_of c before after id)
removes c before after None = refl
removes c before after (Some id) =
    elim (is_gone c before after id) as (λ b. cond b (hook.Removed c id ∷ []) [] ≡ farewell_hook c (cond b (Some id) None)) [
      | true ↦ refl
      | false ↦ refl
    ]

pub vacates : (c : List ℕ) (xs : List Subscription) (socket : ℕ) → vacated c (others xs socket) ≡ vacated_hook c (list_any (λ s. not (s.socket == socket)) xs)
vacates c xs socket =
    ap (λ b. cond b (hook.Vacated c ∷ []) []) (is_empty-filter (λ s. not (s.socket == socket)) xs)
    ∙ elim (list_any (λ s. not (s.socket == socket)) xs) as (λ b. cond (not b) (hook.Vacated c ∷ []) [] ≡ cond b [] (hook.Vacated c ∷ [])) [
      | true ↦ refl
      | false ↦ refl
    ]

-- Whether it is gone

user_same : (id : List ℕ) (m : Option Member) → law.is_user id m ≡ is_user id m
user_same id None = refl
user_same id (Some m) = refl

-- another socket of the user is on the channel
pub among_others : (xs : List Subscription) (socket : ℕ) (id : List ℕ) → among (others xs socket) id ≡ list_any (λ s. not (s.socket == socket) && is_user id s.member) xs
among_others xs socket id =
    list_any-filter (λ s. law.is_user id s.member) (λ s. not (s.socket == socket)) xs
    ∙ list_any-same (λ s. law.is_user id s.member && not (s.socket == socket)) (λ s. not (s.socket == socket) && is_user id s.member) xs
    (λ s. and_comm (law.is_user id s.member) (not (s.socket == socket)) ∙ ap (λ b. not (s.socket == socket) && b) (user_same id s.member))

-- a subscription with a member is one of its user, and its channel has members
own_user : (x : Subscription) (m : Option Member) (id : List ℕ) → option_map (λ m. m.user_id) m ≡ Some id → IsMemberOf (is_presence x.channel) m → (is_presence x.channel ≡ true) × (law.is_user id m ≡ true)
own_user x None id is fits = absurd (cc)
own_user x (Some m) id is fits =
    let same : m.user_id ≡ id = cc in
    (kind (is_presence x.channel) m fits, ap (λ u. bytes_eq u id) same ∙ text_itself id)
  where
    kind : (b : Bool) (m : Member) → IsMemberOf b (Some m) → b ≡ true
    kind true m fits = refl
    kind false m fits = absurd fits

pub user_there : (c : List ℕ) (socket : ℕ) (xs : List Subscription) (id : List ℕ) → All HasMember xs → user_in (on_channel xs c) socket ≡ Some id → (is_presence c ≡ true) × (among (on_channel xs c) id ≡ true)
user_there c socket [] id all is = absurd (cc)
user_there c socket (x ∷ xs) id all is =
    let rest = user_there c socket xs id (All-tail HasMember x xs all) in
    (elim (bytes_eq x.channel c) as (λ b. bytes_eq x.channel c ≡ b → user_in (cond b (x ∷ on_channel xs c) (on_channel xs c)) socket ≡ Some id → (is_presence c ≡ true) × (among (cond b (x ∷ on_channel xs c) (on_channel xs c)) id ≡ true)) [
      | true ↦ (λ here. elim (x.socket == socket) as (λ b. option_map (λ m. m.user_id) (option_and_then (λ s. s.member) (cond b (Some x) (find (λ s. s.socket == socket) (on_channel xs c)))) ≡ Some id → (is_presence c ≡ true) × (among (x ∷ on_channel xs c) id ≡ true)) [
        | true ↦ (λ is.
            let own = own_user x x.member id is (All-head HasMember x xs all) in
            (sym (ap is_presence (same_text x.channel c here)) ∙ own.0, ap (λ b. b || among (on_channel xs c) id) own.1))
        | false ↦ (λ is. let later = rest is in (later.0, or_true (law.is_user id x.member) (among (on_channel xs c) id) later.1))
      ])
      | false ↦ (λ elsewhere is. rest is)
    ]) refl is
  where
    or_true : (a b : Bool) → b ≡ true → (a || b) ≡ true
    or_true true b is = refl
    or_true false b is = is

-- the user of the socket is gone with it where no other socket of the user is on the channel
pub gone_is : (c : List ℕ) (socket : ℕ) (xs : List Subscription) (id : List ℕ) → All HasMember xs → user_in (on_channel xs c) socket ≡ Some id
    → gone_of c (on_channel xs c) (others (on_channel xs c) socket) (user_in (on_channel xs c) socket) ≡ cond (list_any (λ s. not (s.socket == socket) && is_user id s.member) (on_channel xs c)) None (Some id)
gone_is c socket xs id all is =
    let ys = on_channel xs c in
    let there = user_there c socket xs id all is in
    let before : has_user c ys id ≡ true = has_user_is c ys id there.0 ∙ there.1 in
    let after : has_user c (others ys socket) id ≡ list_any (λ s. not (s.socket == socket) && is_user id s.member) ys = has_user_is c (others ys socket) id there.0 ∙ among_others ys socket id in
    ap (gone_of c ys (others ys socket)) is
    ∙ ap₂ (λ a b. cond {A = Option (List ℕ)} (a && not b) (Some id) None) before after
    ∙ elim (list_any (λ s. not (s.socket == socket) && is_user id s.member) ys) as (λ b. cond {A = Option (List ℕ)} (not b) (Some id) None ≡ cond b None (Some id)) [
      | true ↦ refl
      | false ↦ refl
    ]

-- the webhook events of the end of a subscription, after those before
pub leave_hooks_are : (before : List Hook) (c : List ℕ) (ys : List Subscription) (socket : ℕ) (gone : Option (List ℕ)) (has_other : Bool)
    → gone ≡ gone_user c ys socket → has_other ≡ list_any (λ s. not (s.socket == socket)) ys
    → (before ++ farewell_hook c gone) ++ vacated_hook c has_other ≡ before ++ parting c ys (others ys socket) socket
leave_hooks_are before c ys socket gone has_other is_gone_user is_other =
    append_assoc before (farewell_hook c gone) (vacated_hook c has_other)
    ∙ ap (λ gs. before ++ gs) (ap₂ ◌++◌
    (ap (farewell_hook c) is_gone_user ∙ sym (removes c ys (others ys socket) (user_in ys socket)))
    (ap (vacated_hook c) is_other ∙ sym (vacates c ys socket)))
