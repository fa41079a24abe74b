-- How an entry changes one channel: it leaves it as it is, opens a subscription to it, or ends one. Which webhook events it
-- makes of the channel goes with that.
use Rattle.std.proofs.Common.{◌≡◌, ℕ, ◌==◌, Bool, true, false, not, ◌&&◌, cond, List, [], ◌∷◌, ◌++◌, Option, Some, None, filter, map, bytes_eq, refl, ap, ap₂, sym, ◌∙◌, subst, append-nil}
use Rattle.std.specs.Prelude.{is_none}
use Rattle.std.proofs.lemmas.List.Elements.{filter-append}
use Rattle.ch_base.specs.Growth.{entry}
use Rattle.ch_base.specs.declared.channel.Member.{Member}
use Rattle.ch_base.specs.declared.channel.ChanCall.{ChanCall}
use Rattle.ch_base.specs.declared.channel.ChanCall.TheVariants.{Join, Leave, Lost, Publish, Say, Take, TakeHooks, Names, Look, Users}
use Rattle.ch_base.specs.declared.channel.ChanAnswer.{ChanAnswer}
use Rattle.ch_base.specs.declared.channel.ChanAnswer.TheVariants.{Joined, Already, Crowded, Left, NotOn}
use Rattle.ch_base.specs.declared.webhook.Hook.{Hook}
use Rattle.ch_base.specs.declared.webhook.Hook.TheVariants as hook
use Rattle.ch_history.specs.declared.rows.Subscription.{Subscription}
use Rattle.ch_history.specs.declared.rows.Cached.{Cached}
use Rattle.ch_history.specs.Entries.{ChanEntry, ChanHistory}
use Rattle.ch_history.specs.ChannelName.{is_cache}
use Rattle.ch_history.specs.Subscriptions.{is_joined, opened_by, settles, subscriptions, subs, on, channels_of}
use Rattle.ch_history.specs.Presence.{has_user, user_in}
use Rattle.ch_history.specs.Cache.{latest}
use Rattle.ch_history.specs.Frames.{is_gone, is_said}
use Rattle.ch_history.specs.Webhooks.{occupied, added, missed, removed, vacated, parting, events_at}
use Rattle.ch_history.specs.OpenRows.{is_empty}
use Rattle.ch_history.specs.Answers.{answer_of, is_crowded}
use Rattle.ch_history.proofs.Lists.{filter-none, filter-flat_map, filter-if, filter-unless}
use Rattle.ch_history.proofs.Texts.{same_text, flat_map-ascending}
use Rattle.ch_history.proofs.OpenRows.{opens_nothing, own_name, in_names, none_settled}
use Rattle.ch_history.proofs.Subscriptions.{socket_of, channel_of, subs-push, subs-left, subs-same, not_on, other_channel}

-- whether the event says that the channel c is occupied or vacated, or which users it has
abbrev pub concerns : List ℕ → Hook → Bool
concerns c (hook.Occupied d) = bytes_eq d c
concerns c (hook.Vacated d) = bytes_eq d c
concerns c (hook.Added d id) = bytes_eq d c
concerns c (hook.Removed d id) = bytes_eq d c
concerns c _ = false

abbrev pub about : List ℕ → List Hook → List Hook
about c made = filter (concerns c) made

-- how the entry e after h changes the channel c
pub data Change (h : ChanHistory) (e : ChanEntry) (c : List ℕ) : Type 0 where
  same : subs (h ++ e ∷ []) c ≡ subs h c → about c (events_at h e) ≡ [] → Change h e c
  opens : (n : Subscription) → subs (h ++ e ∷ []) c ≡ subs h c ++ n ∷ [] → about c (events_at h e) ≡ about c (occupied c (subs h c) ++ added c (subs h c) n.member) → Change h e c
  ends : (socket : ℕ) → on h socket c ≡ true → subs (h ++ e ∷ []) c ≡ filter (λ s. not (s.socket == socket)) (subs h c) → about c (events_at h e) ≡ about c (parting c (subs h c) (subs (h ++ e ∷ []) c) socket) → Change h e c

-- What is made of another channel

about-occupied : (c d : List ℕ) (xs : List Subscription) → bytes_eq d c ≡ false → about c (occupied d xs) ≡ []
about-occupied c d xs differs = filter-if (concerns c) (is_empty xs) (hook.Occupied d) differs

about-added : (c d : List ℕ) (xs : List Subscription) (m : Option Member) → bytes_eq d c ≡ false → about c (added d xs m) ≡ []
about-added c d xs None differs = refl
about-added c d xs (Some m) differs = filter-unless (concerns c) (has_user d xs m.user_id) (hook.Added d m.user_id) differs

about-removed : (c d : List ℕ) (xs ys : List Subscription) (id : Option (List ℕ)) → bytes_eq d c ≡ false → about c (removed d xs ys id) ≡ []
about-removed c d xs ys None differs = refl
about-removed c d xs ys (Some id) differs = filter-if (concerns c) (is_gone d xs ys id) (hook.Removed d id) differs

about-parting : (c d : List ℕ) (xs ys : List Subscription) (socket : ℕ) → bytes_eq d c ≡ false → about c (parting d xs ys socket) ≡ []
about-parting c d xs ys socket differs =
    filter-append (concerns c) (removed d xs ys (user_in xs socket)) (vacated d ys)
    ∙ ap₂ ◌++◌ (about-removed c d xs ys (user_in xs socket) differs) (filter-if (concerns c) (is_empty ys) (hook.Vacated d) differs)

-- a cache miss concerns no channel's subscriptions
about-missed : (c d : List ℕ) (kept : Option Cached) → about c (missed d kept) ≡ []
about-missed c d kept =
    elim (is_cache d) as (λ b. about c (cond b (cond (is_none kept) (hook.Miss d ∷ []) []) []) ≡ []) [
      | true ↦ filter-if (concerns c) (is_none kept) (hook.Miss d) refl
      | false ↦ refl
    ]

-- The calls

-- a call that opens no subscription and settles none
quiet : (h : ChanHistory) (e : ChanEntry) (c : List ℕ) → opened_by e ≡ None → ((s : Subscription) → settles s e ≡ false) → about c (events_at h e) ≡ [] → Change h e c
quiet h e c nothing none silent =
    same (subs-same h e c nothing (none_settled settles (subs h c) e none)) silent

joined : (h : ChanHistory) (w socket : ℕ) (d : List ℕ) (m : Option Member) (at : ℕ) (c : List ℕ) → on h socket d ≡ false → Change h (entry w (Join socket d m at) Joined) c
joined h w socket d m at c off =
    let e : ChanEntry = entry w (Join socket d m at) Joined in
    let n : Subscription = record { channel = d; socket = socket; owner = w; member = m } in
    let arrives : List Hook = occupied d (subs h d) ++ added d (subs h d) m in
    let made : about c (events_at h e) ≡ about c arrives =
    filter-append (concerns c) arrives (missed d (latest h e.call d)) ∙ ap (λ gs. about c arrives ++ gs) (about-missed c d (latest h e.call d)) ∙ append-nil (about c arrives) in
    let after : subs (h ++ e ∷ []) c ≡ subs h c ++ cond (bytes_eq d c) (n ∷ []) [] =
    subs-push h e c ∙ ap (λ xs. xs ++ cond (bytes_eq d c) (n ∷ []) []) (filter-none (λ s. settles s e) (subs h c) (not_on h socket d c off)) in
    (elim (bytes_eq d c) as (λ b. bytes_eq d c ≡ b → subs (h ++ e ∷ []) c ≡ subs h c ++ cond b (n ∷ []) [] → Change h e c) [
      | true ↦ (λ is after. opens n after (made ∙ ap (λ x. about c (occupied x (subs h x) ++ added x (subs h x) m)) (same_text d c is)))
      | false ↦ (λ differs after. same (after ∙ append-nil (subs h c))
          (made ∙ filter-append (concerns c) (occupied d (subs h d)) (added d (subs h d) m)
          ∙ ap₂ ◌++◌ (about-occupied c d (subs h d) differs) (about-added c d (subs h d) m differs)))
    ]) refl after

left : (h : ChanHistory) (w socket : ℕ) (d : List ℕ) (at : ℕ) (c : List ℕ) → on h socket d ≡ true → Change h (entry w (Leave socket d at) Left) c
left h w socket d at c there =
    let e : ChanEntry = entry w (Leave socket d at) Left in
    let k : ChanHistory = h ++ e ∷ [] in
    (elim (bytes_eq d c) as (λ b. bytes_eq d c ≡ b → Change h e c) [
      | true ↦ (λ is.
          let here : d ≡ c = same_text d c is in
          ends socket (ap (on h socket) (sym here) ∙ there)
          (subs-left h e c refl ∙ ap (λ x. filter (λ s. not ((s.socket == socket) && bytes_eq s.channel x)) (subs h c)) here ∙ own_name socket_of channel_of socket c (subscriptions h))
          (ap (λ x. about c (parting x (subs h x) (subs k x) socket)) here))
      | false ↦ (λ differs. same (other_channel h e socket d c refl (λ s. refl) differs) (about-parting c d (subs h d) (subs k d) socket differs))
    ]) refl

lost : (h : ChanHistory) (w socket at : ℕ) (a : ChanAnswer) (c : List ℕ) → Change h (entry w (Lost socket at) a) c
lost h w socket at a c =
    let e : ChanEntry = entry w (Lost socket at) a in
    let k : ChanHistory = h ++ e ∷ [] in
    let part : List ℕ → List Hook = λ d. parting d (subs h d) (subs k d) socket in
    let its : List (List ℕ) = map (λ s. s.channel) (filter (λ s. s.socket == socket) (subscriptions h)) in
    let made : about c (events_at h e) ≡ cond (on h socket c) (about c (part c)) [] =
    filter-flat_map (concerns c) part (channels_of h socket)
    ∙ flat_map-ascending (λ d. about c (part d)) c (λ d differs. about-parting c d (subs h d) (subs k d) socket differs) its
    ∙ ap (λ b. cond b (about c (part c)) []) (in_names socket_of channel_of (subscriptions h) socket c) in
    (elim (on h socket c) as (λ b. on h socket c ≡ b → about c (events_at h e) ≡ cond b (about c (part c)) [] → Change h e c) [
      | true ↦ (λ there made. ends socket there (subs-left h e c (opens_nothing (is_joined a))) made)
      | false ↦ (λ off made. same (subs-same h e c (opens_nothing (is_joined a)) off) made)
    ]) refl made

-- each entry that may follow
pub change : (h : ChanHistory) (w : ℕ) (call : ChanCall) (a : ChanAnswer) (c : List ℕ) → a ≡ answer_of h w call → Change h (entry w call a) c
change h w (Join socket d m at) a c answered =
    let P : ChanAnswer → Type 0 = λ a. Change h (entry w (Join socket d m at) a) c in
    subst P (sym answered) ((elim (on h socket d) as (λ b. on h socket d ≡ b → P (cond b Already (cond (is_crowded d (subs h d) m) Crowded Joined))) [
      | true ↦ (λ there. quiet h (entry w (Join socket d m at) Already) c refl (λ s. refl) refl)
      | false ↦ (λ off. elim (is_crowded d (subs h d) m) as (λ b. P (cond b Crowded Joined)) [
        | true ↦ quiet h (entry w (Join socket d m at) Crowded) c refl (λ s. refl) refl
        | false ↦ joined h w socket d m at c off
      ])
    ]) refl)
change h w (Leave socket d at) a c answered =
    let P : ChanAnswer → Type 0 = λ a. Change h (entry w (Leave socket d at) a) c in
    subst P (sym answered) ((elim (on h socket d) as (λ b. on h socket d ≡ b → P (cond b Left NotOn)) [
      | true ↦ (λ there. left h w socket d at c there)
      | false ↦ (λ off. same (subs-same h (entry w (Leave socket d at) NotOn) c refl (not_on h socket d c off)) refl)
    ]) refl)
change h w (Lost socket at) a c answered = lost h w socket at a c
change h w (Say socket d event body at) a c answered =
    quiet h (entry w (Say socket d event body at) a) c (opens_nothing (is_joined a)) (λ s. refl)
    (filter-if (concerns c) (is_said a) (hook.Client d event body socket (user_in (subs h d) socket)) refl)
change h w (Publish d event body x at) a c answered = quiet h (entry w (Publish d event body x at) a) c (opens_nothing (is_joined a)) (λ s. refl) refl
change h w Take a c answered = quiet h (entry w Take a) c (opens_nothing (is_joined a)) (λ s. refl) refl
change h w (TakeHooks at) a c answered = quiet h (entry w (TakeHooks at) a) c (opens_nothing (is_joined a)) (λ s. refl) refl
change h w (Names prefix) a c answered = quiet h (entry w (Names prefix) a) c (opens_nothing (is_joined a)) (λ s. refl) refl
change h w (Look d at) a c answered = quiet h (entry w (Look d at) a) c (opens_nothing (is_joined a)) (λ s. refl) refl
change h w (Users d) a c answered = quiet h (entry w (Users d) a) c (opens_nothing (is_joined a)) (λ s. refl) refl
