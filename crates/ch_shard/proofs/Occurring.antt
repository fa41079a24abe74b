-- What the webhook events of a call make of the log and of the notices that are held, and what a call without any makes of them.
use Rattle.std.proofs.Common.{◌≡◌, ◌≤◌, ℕ, Bool, true, false, not, ◌||◌, cond, List, [], ◌∷◌, ◌++◌, Option, Some, None, filter, flat_map, length, refl, ap, ap₂, sym, ◌∙◌, append-nil, arith}
use Rattle.std.specs.List.{list_any}
use Rattle.std.proofs.lemmas.List.Folds.{list_any-append}
use Rattle.ch_base.specs.declared.channel.Member.{Member}
use Rattle.ch_base.specs.declared.webhook.Hook.{Hook}
use Rattle.ch_base.specs.declared.webhook.Hook.TheVariants as hook
use Rattle.ch_history.specs.declared.rows.Cached.{Cached}
use Rattle.ch_history.specs.declared.rows.HeldNotice.{HeldNotice}
use Rattle.ch_history.specs.declared.rows.Subscription.{Subscription}
use Rattle.ch_history.specs.ChannelName.{is_cache}
use Rattle.ch_history.specs.Frames.{is_gone}
use Rattle.ch_history.specs.Held.{is_due, due, not_due, vacated_events, held_after, hooks_after}
use Rattle.ch_history.specs.OpenRows.{is_empty}
use Rattle.ch_history.specs.Presence.{user_in, has_user}
use Rattle.ch_history.specs.Subscriptions.{on_channel}
use Rattle.ch_history.specs.Webhooks.{added, missed, removed, vacated}
use Rattle.ch_history.proofs.Held.{due-after}
use Rattle.ch_history.proofs.Lists.{neither}
use Rattle.ch_hooklog.specs.HookLog.{is_occupied, IsOfOneCall}
use Rattle.ch_shard.specs.Parting.{others, leave_hooks}
use Rattle.ch_shard.specs.Parts.{Parts, Occur, IsUnchanged, kept_at, join_hooks}

-- The notices

-- where none passes, all the others are left
filter-others : {X : Type 0} (p : X → Bool) (xs : List X) → filter p xs ≡ [] → filter (λ x. not (p x)) xs ≡ xs
filter-others p [] none = refl
filter-others p (x ∷ xs) none =
    (elim (p x) as (λ b. cond b (x ∷ filter p xs) (filter p xs) ≡ [] → cond (not b) (x ∷ filter (λ x. not (p x)) xs) (filter (λ x. not (p x)) xs) ≡ x ∷ xs) [
      | true ↦ (λ is. cc)
      | false ↦ (λ is. ap (λ ys. x ∷ ys) (filter-others p xs is))
    ]) none

pub not_due-all : (now : ℕ) (ns : List HeldNotice) → due now ns ≡ [] → not_due now ns ≡ ns
not_due-all now ns none = filter-others (is_due now) ns none

filter-all : {X : Type 0} (xs : List X) → filter (λ x. true) xs ≡ xs
filter-all [] = refl
filter-all (x ∷ xs) = ap (λ ys. x ∷ ys) (filter-all xs)

-- without events what isn't due stays
pub held-quiet : (now : ℕ) (ns : List HeldNotice) → held_after now [] ns ≡ not_due now ns
held-quiet now ns = append-nil (filter (λ n. true) (not_due now ns)) ∙ filter-all (not_due now ns)

-- and what is due is made
pub hooks-quiet : (now : ℕ) (ns : List HeldNotice) → hooks_after now [] ns ≡ vacated_events (due now ns)
hooks-quiet now ns = append-nil (vacated_events (due now ns))

-- events that are made in a log that is as before
pub occurs : (old new : Parts) (now : ℕ) (events made log : List Hook) (held : List HeldNotice) → log ≡ old.log → held ≡ old.held → made ≡ events
    → new.log ≡ log ++ hooks_after now made held → new.held ≡ held_after now made held → Occur old new now events
occurs old new now events made log held log_stays held_stays made_is logged holds = record {
  log = logged ∙ ap₂ (λ ks es. ks ++ hooks_after now es held) log_stays made_is ∙ ap (λ ns. old.log ++ hooks_after now events ns) held_stays;
  held = holds ∙ ap₂ (held_after now) made_is held_stays;
}

-- The parts, once events occurred: nothing is due

none_due : (old new : Parts) (now : ℕ) (events : List Hook) → Occur old new now events → due now new.held ≡ []
none_due old new now events occur = ap (due now) occur.held ∙ due-after now events old.held

pub log-occur : (old new : Parts) (now : ℕ) (events : List Hook) → Occur old new now events → new.log ++ vacated_events (due now new.held) ≡ old.log ++ hooks_after now events old.held
log-occur old new now events occur = ap (λ ns. new.log ++ vacated_events ns) (none_due old new now events occur) ∙ append-nil new.log ∙ occur.log

pub held-occur : (old new : Parts) (now : ℕ) (events : List Hook) → Occur old new now events → not_due now new.held ≡ held_after now events old.held
held-occur old new now events occur = not_due-all now new.held (none_due old new now events occur) ∙ occur.held

pub room-occur : (old new : Parts) (now : ℕ) (events : List Hook) → Occur old new now events → length (due now new.held) ≤ new.spare
room-occur old new now events occur = let none : length (due now new.held) ≡ 0 = ap length (none_due old new now events occur) in omega (arith, none)

-- and where nothing changed

pub log-unchanged : (old new : Parts) (now : ℕ) → IsUnchanged old new → new.log ++ vacated_events (due now new.held) ≡ old.log ++ hooks_after now [] old.held
log-unchanged old new now same = ap₂ (λ ks ns. ks ++ vacated_events (due now ns)) same.log same.held ∙ ap (λ ks. old.log ++ ks) (sym (hooks-quiet now old.held))

pub held-unchanged : (old new : Parts) (now : ℕ) → IsUnchanged old new → not_due now new.held ≡ held_after now [] old.held
held-unchanged old new now same = ap (not_due now) same.held ∙ sym (held-quiet now old.held)

pub room-unchanged : (old new : Parts) (now : ℕ) → IsUnchanged old new → length (due now old.held) ≤ old.spare → length (due now new.held) ≤ new.spare
room-unchanged old new now same room =
    let as_many : length (due now new.held) ≡ length (due now old.held) = ap (λ ns. length (due now ns)) same.held in
    let spare : old.spare ≤ new.spare = same.spare in
    omega (arith, as_many, spare, room)

-- The events of one call

pub plain-call : (events : List Hook) → list_any is_occupied events ≡ false → IsOfOneCall events
plain-call [] none = tt
plain-call (event ∷ events) none = (neither (is_occupied event) (list_any is_occupied events) none).1

both-plain : (xs ys : List Hook) → list_any is_occupied xs ≡ false → list_any is_occupied ys ≡ false → list_any is_occupied (xs ++ ys) ≡ false
both-plain xs ys none_x none_y = list_any-append is_occupied xs ys ∙ ap₂ ◌||◌ none_x none_y

plain-added : (c : List ℕ) (before : List Subscription) (member : Option Member) → list_any is_occupied (added c before member) ≡ false
plain-added c before None = refl
plain-added c before (Some m) =
    elim (has_user c before m.user_id) as (λ b. list_any is_occupied (cond b [] (hook.Added c m.user_id ∷ [])) ≡ false) [ true ↦ refl | false ↦ refl ]

plain-missed : (c : List ℕ) (kept : Option Cached) → list_any is_occupied (missed c kept) ≡ false
plain-missed c None =
    elim (is_cache c) as (λ b. list_any is_occupied (cond b (hook.Miss c ∷ []) []) ≡ false) [ true ↦ refl | false ↦ refl ]
plain-missed c (Some x) =
    elim (is_cache c) as (λ b. list_any is_occupied (cond {A = List Hook} b [] []) ≡ false) [ true ↦ refl | false ↦ refl ]

-- those of a Join: the first one may be Occupied
pub join-call : (old : Parts) (now : ℕ) (n : Subscription) → IsOfOneCall (join_hooks old now n)
join-call old now n =
    let c : List ℕ = n.channel in
    let more : List Hook = added c (on_channel old.subs c) n.member in
    let miss : List Hook = missed c (kept_at old now c) in
    let plain = both-plain more miss (plain-added c (on_channel old.subs c) n.member) (plain-missed c (kept_at old now c)) in
    elim (is_empty (on_channel old.subs c)) as (λ b. IsOfOneCall (cond b (hook.Occupied c ∷ []) [] ++ more ++ miss)) [
      | true ↦ plain
      | false ↦ plain-call (more ++ miss) plain
    ]

plain-removed : (c : List ℕ) (before after : List Subscription) (id : Option (List ℕ)) → list_any is_occupied (removed c before after id) ≡ false
plain-removed c before after None = refl
plain-removed c before after (Some id) =
    elim (is_gone c before after id) as (λ b. list_any is_occupied (cond b (hook.Removed c id ∷ []) []) ≡ false) [ true ↦ refl | false ↦ refl ]

plain-vacated : (c : List ℕ) (after : List Subscription) → list_any is_occupied (vacated c after) ≡ false
plain-vacated c after =
    elim (is_empty after) as (λ b. list_any is_occupied (cond b (hook.Vacated c ∷ []) []) ≡ false) [ true ↦ refl | false ↦ refl ]

plain-leave : (xs : List Subscription) (c : List ℕ) (socket : ℕ) → list_any is_occupied (leave_hooks xs c socket) ≡ false
plain-leave xs c socket =
    let before : List Subscription = on_channel xs c in
    let after : List Subscription = others before socket in
    both-plain (removed c before after (user_in before socket)) (vacated c after) (plain-removed c before after (user_in before socket)) (plain-vacated c after)

-- those of a Leave and of a loss: none is Occupied
pub leave-call : (xs : List Subscription) (c : List ℕ) (socket : ℕ) → IsOfOneCall (leave_hooks xs c socket)
leave-call xs c socket = plain-call (leave_hooks xs c socket) (plain-leave xs c socket)

pub lost-call : (xs : List Subscription) (cs : List (List ℕ)) (socket : ℕ) → IsOfOneCall (flat_map (λ c. leave_hooks xs c socket) cs)
lost-call xs cs socket = plain-call (flat_map (λ c. leave_hooks xs c socket) cs) (plain cs)
  where
    plain : (ds : List (List ℕ)) → list_any is_occupied (flat_map (λ c. leave_hooks xs c socket) ds) ≡ false
    plain [] = refl
    plain (d ∷ ds) = both-plain (leave_hooks xs d socket) (flat_map (λ c. leave_hooks xs c socket) ds) (plain-leave xs d socket) (plain ds)
