-- The frames that each entry of a channel shard makes, and those that wait for a caller (Pusher Channels documentation,
-- Channels protocol, "Subscription events", "Presence channel events" and "Channel events").
use Rattle.std.specs.Prelude.{ℕ, Bool, true, false, not, ◌&&◌, ◌==◌, List, [], ◌∷◌, ◌++◌, Option, Some, None, filter, map, flat_map, if◌then◌else◌}
use Rattle.ch_base.specs.declared.channel.Member.{Member}
use Rattle.ch_base.specs.declared.channel.ChanCall.{ChanCall}
use Rattle.ch_base.specs.declared.channel.ChanCall.TheVariants.{Join, Leave, Lost, Publish, Say, Take}
use Rattle.ch_base.specs.declared.channel.ChanAnswer.{ChanAnswer}
use Rattle.ch_base.specs.declared.channel.ChanAnswer.TheVariants.{Left, Said}
use Rattle.ch_base.specs.declared.frame.Frame.{Frame}
use Rattle.ch_base.specs.declared.frame.Frame.TheVariants.{Succeeded, Present, Added, Removed, Event, Miss}
use Rattle.ch_base.specs.declared.frame.FrameFor.{FrameFor}
use Rattle.ch_history.specs.declared.rows.Subscription.{Subscription}
use Rattle.ch_history.specs.declared.rows.Cached.{Cached}
use Rattle.ch_history.specs.declared.rows.Delivery.{Delivery}
use Rattle.ch_history.specs.Entries.{ChanEntry, ChanHistory}
use Rattle.ch_history.specs.Steps.{gathered}
use Rattle.ch_history.specs.Deliveries.{delivery, for_owner}
use Rattle.ch_history.specs.ChannelName.{is_presence, is_cache}
use Rattle.ch_history.specs.Subscriptions.{is_joined, subscriptions, on_channel, channels_in}
use Rattle.ch_history.specs.Presence.{has_user, rows_in, user_in}
use Rattle.ch_history.specs.Cache.{latest}

-- a frame for the socket of a subscription, by its owner
abbrev pub to : Frame → Subscription → Delivery
to frame s = delivery s.owner s.socket frame

-- what a newcomer gets of the channel's latest event
abbrev pub latest_frame : List ℕ → Option Cached → Frame
latest_frame c None = Miss c
latest_frame c (Some x) = Event c x.event x.body None

-- the frames for the newcomer s of the channel c; after: the channel's subscriptions with it; kept: the channel's latest event
abbrev pub welcome : List ℕ → List Subscription → Option Cached → Subscription → List Delivery
welcome c after kept s =
    to (if is_presence c then Present c (rows_in c after) else Succeeded c) s
    ∷ (if is_cache c then to (latest_frame c kept) s ∷ [] else [])

-- where the member is a new user of c, each subscription before hears of it
abbrev pub member_added_frames : List ℕ → List Subscription → Option Member → List Delivery
member_added_frames c before None = []
member_added_frames c before (Some m) = if has_user c before m.user_id then [] else map (to (Added c m)) before

-- whether the user was there before and is not after
abbrev pub is_gone : List ℕ → List Subscription → List Subscription → List ℕ → Bool
is_gone c before after id = has_user c before id && not (has_user c after id)

-- where this user is gone from c, each subscription that is left hears of it
abbrev pub member_removed_of : List ℕ → List Subscription → List Subscription → Option (List ℕ) → List Delivery
member_removed_of c before after None = []
member_removed_of c before after (Some id) = if is_gone c before after id then map (to (Removed c id)) after else []

-- the same of the user of the socket that left c
abbrev pub member_removed_frames : List ℕ → List Subscription → List Subscription → ℕ → List Delivery
member_removed_frames c before after socket = member_removed_of c before after (user_in before socket)

-- the event for each subscription whose socket passes
abbrev pub broadcast : List ℕ → List ℕ → List ℕ → Option (List ℕ) → (ℕ → Bool) → List Subscription → List Delivery
broadcast c event body user_id passes xs = map (to (Event c event body user_id)) (filter (λ s. passes s.socket) xs)

-- whether the socket is another than the excepted one
abbrev pub is_other : Option ℕ → ℕ → Bool
is_other None socket = true
is_other (Some excepted) socket = not (socket == excepted)

-- whether a Leave is answered Left
abbrev pub is_left : ChanAnswer → Bool
is_left Left = true
is_left _ = false

-- whether a Say is answered Said
abbrev pub is_said : ChanAnswer → Bool
is_said Said = true
is_said _ = false

-- the frames of a call; before and after: the open subscriptions; kept: each channel's latest event at this call
abbrev pub frames_by : List Subscription → List Subscription → (List ℕ → Option Cached) → ℕ → ChanAnswer → ChanCall → List Delivery
frames_by before after kept caller answer (Join socket c member at) =
    if is_joined answer
    then welcome c (on_channel after c) (kept c) (record { channel = c; socket = socket; owner = caller; member = member })
    ++ member_added_frames c (on_channel before c) member
    else []
frames_by before after kept caller answer (Leave socket c at) =
    if is_left answer then member_removed_frames c (on_channel before c) (on_channel after c) socket else []
frames_by before after kept caller answer (Lost socket at) =
    flat_map (λ c. member_removed_frames c (on_channel before c) (on_channel after c) socket) (channels_in before socket)
frames_by before after kept caller answer (Publish c event body except at) =
    broadcast c event body None (is_other except) (on_channel before c)
frames_by before after kept caller answer (Say socket c event body at) =
    if is_said answer
    then broadcast c event body (user_in (on_channel before c) socket) (is_other (Some socket)) (on_channel before c)
    else []
frames_by before after kept caller answer _ = []

-- the frames that the entry e makes after the history h
abbrev pub frames : ChanHistory → ChanEntry → List Delivery
frames h e = frames_by (subscriptions h) (subscriptions (h ++ e ∷ [])) (latest h e.call) e.caller e.answer e.call

-- whether the call of the caller is a Take of w
abbrev pub is_take_by : ℕ → ℕ → ChanCall → Bool
is_take_by w caller Take = caller == w
is_take_by w caller _ = false

-- whether the entry is a Take of w
abbrev pub takes : ℕ → ChanEntry → Bool
takes w e = is_take_by w e.caller e.call

-- the frames that the caller w hands over, made since its last Take, each with its socket
abbrev pub waiting : ChanHistory → ℕ → List FrameFor
waiting h w = gathered (takes w) (λ before e. for_owner w (frames before e)) [] h
