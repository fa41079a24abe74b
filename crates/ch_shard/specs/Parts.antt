-- What a shard keeps, and what each call changes in it.
use Rattle.std.specs.Prelude.{◌≡◌, ◌≢◌, ℕ, ◌≤◌, ◌+◌, List, [], ◌∷◌, ◌++◌, bytes_eq, length, map, flat_map, Option, Some, None, option_map, MatchBool, if◌then◌else◌}
use Rattle.ch_base.specs.declared.channel.CacheRow.{CacheRow}
use Rattle.ch_base.specs.declared.channel.Member.{Member}
use Rattle.ch_base.specs.declared.channel.ChanAnswer.{ChanAnswer}
use Rattle.ch_base.specs.declared.channel.ChanAnswer.TheVariants.{Joined, Already, Crowded, Left, NotOn, Gone, Sent, Said, Frames, Hooks, Rows, Looked, Ids}
use Rattle.ch_base.specs.declared.webhook.Hook.{Hook}
use Rattle.ch_base.specs.declared.webhook.Hook.TheVariants as hook
use Rattle.ch_history.specs.declared.limits.TheConstants.{CACHED_FOR}
use Rattle.ch_history.specs.declared.rows.Subscription.{Subscription}
use Rattle.ch_history.specs.declared.rows.Cached.{Cached}
use Rattle.ch_history.specs.declared.rows.Delivery.{Delivery}
use Rattle.ch_history.specs.declared.rows.HeldNotice.{HeldNotice}
use Rattle.ch_history.specs.ChannelName.{is_cache}
use Rattle.ch_history.specs.Deliveries.{for_owner}
use Rattle.ch_history.specs.Subscriptions.{on_channel, is_on, channels_in}
use Rattle.ch_history.specs.Presence.{users_in, user_in}
use Rattle.ch_history.specs.Cache.{renewed, cache_row}
use Rattle.ch_history.specs.Frames.{welcome, member_added_frames, is_other, broadcast}
use Rattle.ch_history.specs.Webhooks.{occupied, added, missed}
use Rattle.ch_history.specs.Held.{due, not_due, vacated_events, held_after, hooks_after}
use Rattle.ch_history.specs.Answers.{is_crowded, row_in, names_in}
use Rattle.ch_cache.specs.declared.latest_event.LatestEvent.{LatestEvent}
use Rattle.ch_cache.specs.Latest.{latest_in}
use Rattle.ch_outbox.specs.Outbox.{Waiting, frames_of}
use Rattle.ch_subs.specs.Subs.{without_one, without_all}
use Rattle.ch_shard.specs.Parting.{leave_frames, leave_hooks}

-- the open subscriptions, the latest events, what waits for each caller, the webhook events that no TakeHooks has taken, the vacated
-- notices that are held, and for how many more of both there is room
pub record Parts : Type 0 where
  pub subs : List Subscription
  pub cache : List LatestEvent
  pub outbox : List Waiting
  pub log : List Hook
  pub held : List HeldNotice
  pub spare : ℕ

-- the channel's latest event at the moment
abbrev pub kept_at : Parts → ℕ → List ℕ → Option Cached
kept_at k now c = latest_in k.cache c now

-- and what a Look tells of it
abbrev pub row_at : Parts → ℕ → List ℕ → Option CacheRow
row_at k now c = option_map (cache_row now) (kept_at k now c)

-- the webhook events occur at the moment, after the notices that are due by then
pub record Occur (old new : Parts) (now : ℕ) (events : List Hook) : Type 0 where
  pub log : new.log ≡ old.log ++ hooks_after now events old.held
  pub held : new.held ≡ held_after now events old.held

-- the subscriptions are now these, the latest events stay, the frames are added, and the webhook events occur at the moment
pub record Changes (old new : Parts) (now : ℕ) (subs : List Subscription) (made : List Delivery) (events : List Hook) : Type 0 where
  pub subs_now : new.subs ≡ subs
  pub latest : (c : List ℕ) (at : ℕ) → latest_in new.cache c at ≡ latest_in old.cache c at
  pub frames : (w : ℕ) → frames_of new.outbox w ≡ frames_of old.outbox w ++ for_owner w made
  pub hooks : Occur old new now events

-- what is kept is the same, and there is as much room for webhook events or more
pub record IsUnchanged (old new : Parts) : Type 0 where
  pub subs : new.subs ≡ old.subs
  pub latest : (c : List ℕ) (at : ℕ) → latest_in new.cache c at ≡ latest_in old.cache c at
  pub frames : (w : ℕ) → frames_of new.outbox w ≡ frames_of old.outbox w
  pub log : new.log ≡ old.log
  pub held : new.held ≡ old.held
  pub spare : old.spare ≤ new.spare

-- Join

-- the subscription of a newcomer
abbrev pub newcomer : ℕ → ℕ → List ℕ → Option Member → Subscription
newcomer caller socket c member = record { channel = c; socket = socket; owner = caller; member = member }

-- the frames of the newcomer n at the moment
abbrev pub join_frames : Parts → ℕ → Subscription → List Delivery
join_frames old now n =
    welcome n.channel (on_channel (old.subs ++ n ∷ []) n.channel) (kept_at old now n.channel) n
    ++ member_added_frames n.channel (on_channel old.subs n.channel) n.member

-- and its webhook events
abbrev pub join_hooks : Parts → ℕ → Subscription → List Hook
join_hooks old now n =
    occupied n.channel (on_channel old.subs n.channel)
    ++ added n.channel (on_channel old.subs n.channel) n.member
    ++ missed n.channel (kept_at old now n.channel)

abbrev pub JoinGives : Parts → Parts → ℕ → Subscription → ChanAnswer → Type 0
JoinGives old new now n answer =
    MatchBool (is_on old.subs n.socket n.channel)
    ((answer ≡ Already) × IsUnchanged old new)
    (MatchBool (is_crowded n.channel (on_channel old.subs n.channel) n.member)
    ((answer ≡ Crowded) × IsUnchanged old new)
    ((answer ≡ Joined) × Changes old new now (old.subs ++ n ∷ []) (join_frames old now n) (join_hooks old now n)))

-- The ends of subscriptions

abbrev pub LeaveGives : Parts → Parts → ℕ → ℕ → List ℕ → ChanAnswer → Type 0
LeaveGives old new now socket c answer =
    MatchBool (is_on old.subs socket c)
    ((answer ≡ Left) × Changes old new now (without_one old.subs socket c) (leave_frames old.subs c socket) (leave_hooks old.subs c socket))
    ((answer ≡ NotOn) × IsUnchanged old new)

abbrev pub LostGives : Parts → Parts → ℕ → ℕ → ChanAnswer → Type 0
LostGives old new now socket answer =
    (answer ≡ Gone (length (channels_in old.subs socket)))
    × Changes old new now (without_all old.subs socket)
    (flat_map (λ c. leave_frames old.subs c socket) (channels_in old.subs socket))
    (flat_map (λ c. leave_hooks old.subs c socket) (channels_in old.subs socket))

-- Events

-- the latest event of d, at the moment `at`, after the event x was published on c
abbrev pub after_event : (List ℕ → ℕ → Option Cached) → List ℕ → Cached → List ℕ → ℕ → Option Cached
after_event kept c x d at = renewed at (kept d at) (if is_cache d then (if bytes_eq c d then Some x else None) else None)

-- the event that is published, with its end
abbrev pub event_at : ℕ → List ℕ → List ℕ → Cached
event_at now event body = record { event = event; body = body; ends = now + CACHED_FOR }

-- the event is the latest one of its channel, and is added for each subscription; what has ended by now may be gone
pub record PublishGives (old new : Parts) (now : ℕ) (c event body : List ℕ) (except : Option ℕ) (answer : ChanAnswer) : Type 0 where
  pub answered : answer ≡ Sent (length (on_channel old.subs c)) (length (users_in c (on_channel old.subs c)))
  pub subs : new.subs ≡ old.subs
  pub latest : (d : List ℕ) (at : ℕ) → now ≤ at → latest_in new.cache d at ≡ after_event (latest_in old.cache) c (event_at now event body) d at
  pub frames : (w : ℕ) → frames_of new.outbox w ≡ frames_of old.outbox w ++ for_owner w (broadcast c event body None (is_other except) (on_channel old.subs c))
  pub hooks : Occur old new now []

abbrev pub SayGives : Parts → Parts → ℕ → ℕ → List ℕ → List ℕ → List ℕ → ChanAnswer → Type 0
SayGives old new now socket c event body answer =
    MatchBool (is_on old.subs socket c)
    ((answer ≡ Said)
    × Changes old new now old.subs
    (broadcast c event body (user_in (on_channel old.subs c) socket) (is_other (Some socket)) (on_channel old.subs c))
    (hook.Client c event body socket (user_in (on_channel old.subs c) socket) ∷ []))
    ((answer ≡ NotOn) × IsUnchanged old new)

-- Takes

-- the caller's frames are taken out
pub record TakeGives (old new : Parts) (caller : ℕ) (answer : ChanAnswer) : Type 0 where
  pub answered : answer ≡ Frames (frames_of old.outbox caller)
  pub subs : new.subs ≡ old.subs
  pub latest : (c : List ℕ) (at : ℕ) → latest_in new.cache c at ≡ latest_in old.cache c at
  pub emptied : frames_of new.outbox caller ≡ []
  pub others : (w : ℕ) → w ≢ caller → frames_of new.outbox w ≡ frames_of old.outbox w
  pub log : new.log ≡ old.log
  pub held : new.held ≡ old.held
  pub spare : new.spare ≡ old.spare

-- the webhook events are taken out, and after them the notices that are due at the moment
pub record TakeHooksGives (old new : Parts) (now : ℕ) (answer : ChanAnswer) : Type 0 where
  pub answered : answer ≡ Hooks (old.log ++ vacated_events (due now old.held))
  pub subs : new.subs ≡ old.subs
  pub latest : (c : List ℕ) (at : ℕ) → latest_in new.cache c at ≡ latest_in old.cache c at
  pub frames : (w : ℕ) → frames_of new.outbox w ≡ frames_of old.outbox w
  pub log : new.log ≡ []
  pub held : new.held ≡ not_due now old.held

-- Looks

-- the channel's counts, and its latest event
abbrev pub looked : Parts → ℕ → List ℕ → ChanAnswer
looked k now c = Looked (length (on_channel k.subs c)) (length (users_in c (on_channel k.subs c))) (row_at k now c)

-- the ids of the channel's users
abbrev pub user_ids : List Subscription → List ℕ → ChanAnswer
user_ids xs c = Ids (users_in c (on_channel xs c))

-- the channels with the prefix, each with its counts
abbrev pub name_rows : List Subscription → List ℕ → ChanAnswer
name_rows xs prefix = Rows (map (row_in xs) (names_in xs prefix))
