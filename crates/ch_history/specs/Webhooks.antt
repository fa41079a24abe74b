-- The webhook events of each entry, as they occur (Pusher Channels documentation, Webhooks, "Channel existence events",
-- "Presence events", "Client events" and "Cache channel events"). A vacated notice is then held for a while.
use Rattle.std.specs.Prelude.{ℕ, List, [], ◌∷◌, ◌++◌, Option, Some, None, is_none, flat_map, if◌then◌else◌}
use Rattle.ch_base.specs.declared.channel.Member.{Member}
use Rattle.ch_base.specs.declared.channel.ChanCall.{ChanCall}
use Rattle.ch_base.specs.declared.channel.ChanCall.TheVariants.{Join, Leave, Lost, Say}
use Rattle.ch_base.specs.declared.channel.ChanAnswer.{ChanAnswer}
use Rattle.ch_base.specs.declared.webhook.Hook.{Hook}
use Rattle.ch_base.specs.declared.webhook.Hook.TheVariants.{Occupied, Vacated, Added, Removed, Client, Miss}
use Rattle.ch_history.specs.declared.rows.Subscription.{Subscription}
use Rattle.ch_history.specs.declared.rows.Cached.{Cached}
use Rattle.ch_history.specs.Entries.{ChanEntry, ChanHistory}
use Rattle.ch_history.specs.OpenRows.{is_empty}
use Rattle.ch_history.specs.ChannelName.{is_cache}
use Rattle.ch_history.specs.Subscriptions.{is_joined, subscriptions, on_channel, channels_in}
use Rattle.ch_history.specs.Presence.{has_user, user_in}
use Rattle.ch_history.specs.Cache.{latest}
use Rattle.ch_history.specs.Frames.{is_left, is_said, is_gone}

-- Occupied where c had no subscription
abbrev pub occupied : List ℕ → List Subscription → List Hook
occupied c before = if is_empty before then Occupied c ∷ [] else []

-- Added where the member is a new user of c
abbrev pub added : List ℕ → List Subscription → Option Member → List Hook
added c before None = []
added c before (Some m) = if has_user c before m.user_id then [] else Added c m.user_id ∷ []

-- Miss where the newcomer of c is told that there is no latest event
abbrev pub missed : List ℕ → Option Cached → List Hook
missed c kept = if is_cache c then (if is_none kept then Miss c ∷ [] else []) else []

-- Removed where this user is gone from c
abbrev pub removed : List ℕ → List Subscription → List Subscription → Option (List ℕ) → List Hook
removed c before after None = []
removed c before after (Some id) = if is_gone c before after id then Removed c id ∷ [] else []

-- Vacated where c has no subscription left
abbrev pub vacated : List ℕ → List Subscription → List Hook
vacated c after = if is_empty after then Vacated c ∷ [] else []

-- the end of the socket's subscription to c
abbrev pub parting : List ℕ → List Subscription → List Subscription → ℕ → List Hook
parting c before after socket = removed c before after (user_in before socket) ++ vacated c after

-- the webhook events of a call; before, after and kept as for its frames
abbrev pub events_by : List Subscription → List Subscription → (List ℕ → Option Cached) → ChanAnswer → ChanCall → List Hook
events_by before after kept answer (Join socket c member at) =
    if is_joined answer
    then occupied c (on_channel before c) ++ added c (on_channel before c) member ++ missed c (kept c)
    else []
events_by before after kept answer (Leave socket c at) =
    if is_left answer then parting c (on_channel before c) (on_channel after c) socket else []
events_by before after kept answer (Lost socket at) =
    flat_map (λ c. parting c (on_channel before c) (on_channel after c) socket) (channels_in before socket)
events_by before after kept answer (Say socket c event body at) =
    if is_said answer then Client c event body socket (user_in (on_channel before c) socket) ∷ [] else []
events_by before after kept answer _ = []

-- the webhook events of the entry e after the history h
abbrev pub events_at : ChanHistory → ChanEntry → List Hook
events_at h e = events_by (subscriptions h) (subscriptions (h ++ e ∷ [])) (latest h e.call) e.answer e.call
