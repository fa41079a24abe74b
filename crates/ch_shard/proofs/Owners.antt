-- The owners of frames are owners of subscriptions.
use Rattle.std.proofs.Common.{ℕ, ◌<◌, ◌==◌, Bool, true, false, not, cond, List, [], ◌∷◌, ◌++◌, Option, Some, None, bytes_eq, filter, map, flat_map, All}
use Rattle.std.proofs.lemmas.List.Elements.{All-nil, All-cons, All-append, All-filter, All-map}
use Rattle.ch_base.specs.declared.channel.Member.{Member}
use Rattle.ch_base.specs.declared.frame.Frame.{Frame}
use Rattle.ch_base.specs.declared.frame.Frame.TheVariants.{Succeeded, Present, Added, Removed}
use Rattle.ch_base.specs.declared.limits.TheConstants.{MAX_CALLERS}
use Rattle.ch_history.specs.declared.rows.Subscription.{Subscription}
use Rattle.ch_history.specs.declared.rows.Delivery.{Delivery}
use Rattle.ch_history.specs.Subscriptions.{on_channel, channels_in}
use Rattle.ch_history.specs.ChannelName.{is_presence, is_cache}
use Rattle.ch_history.specs.Presence.{user_in, has_user, rows_in}
use Rattle.ch_outbox.proofs.Rooms.{OwnsFrame}
use Rattle.ch_shard.specs.Parts.{Parts, kept_at, join_frames}
use Rattle.ch_history.specs.Frames.{to, latest_frame, member_added_frames, is_gone, member_removed_of}
use Rattle.ch_shard.specs.Parting.{others, leave_frames}

-- an owner is a caller's number
abbrev pub OwnsSub : Subscription → Type 0
OwnsSub s = s.owner < MAX_CALLERS

pub on_channel_owned : (xs : List Subscription) (c : List ℕ) → All OwnsSub xs → All OwnsSub (on_channel xs c)
on_channel_owned xs c all = All-filter (λ s. bytes_eq s.channel c) OwnsSub xs all

-- a frame for some of a channel's subscriptions
pub told_owned : (frame : Frame) (p : Subscription → Bool) (c : List ℕ) (xs : List Subscription) → All OwnsSub xs → All OwnsFrame (map (to frame) (filter p (on_channel xs c)))
told_owned frame p c xs all =
    All-map OwnsFrame (to frame) (filter p (on_channel xs c)) (All-filter p OwnsSub (on_channel xs c) (on_channel_owned xs c all))

departure_owned : (c : List ℕ) (before after : List Subscription) (id : Option (List ℕ)) → All OwnsSub after → All OwnsFrame (member_removed_of c before after id)
departure_owned c before after None all = All-nil OwnsFrame
departure_owned c before after (Some id) all =
    elim (is_gone c before after id) as (λ b. All OwnsFrame (cond b (map (to (Removed c id)) after) [])) [
      | true ↦ All-map OwnsFrame (to (Removed c id)) after all
      | false ↦ All-nil OwnsFrame
    ]

-- the frames of a departure
pub leave_owned : (xs : List Subscription) (c : List ℕ) (socket : ℕ) → All OwnsSub xs → All OwnsFrame (leave_frames xs c socket)
leave_owned xs c socket all =
    departure_owned c (on_channel xs c) (others (on_channel xs c) socket) (user_in (on_channel xs c) socket)
    (All-filter (λ s. not (s.socket == socket)) OwnsSub (on_channel xs c) (on_channel_owned xs c all))

flat_map_owned : (f : List ℕ → List Delivery) (cs : List (List ℕ)) → ((c : List ℕ) → All OwnsFrame (f c)) → All OwnsFrame (flat_map f cs)
flat_map_owned f [] each = All-nil OwnsFrame
flat_map_owned f (c ∷ cs) each = All-append OwnsFrame (f c) (flat_map f cs) (each c) (flat_map_owned f cs each)

-- the frames of a loss
pub lost_owned : (xs : List Subscription) (socket : ℕ) → All OwnsSub xs → All OwnsFrame (flat_map (λ c. leave_frames xs c socket) (channels_in xs socket))
lost_owned xs socket all = flat_map_owned (λ c. leave_frames xs c socket) (channels_in xs socket) (λ c. leave_owned xs c socket all)

arrival_owned : (c : List ℕ) (before : List Subscription) (member : Option Member) → All OwnsSub before → All OwnsFrame (member_added_frames c before member)
arrival_owned c before None all = All-nil OwnsFrame
arrival_owned c before (Some m) all =
    elim (has_user c before m.user_id) as (λ b. All OwnsFrame (cond b [] (map (to (Added c m)) before))) [
      | true ↦ All-nil OwnsFrame
      | false ↦ All-map OwnsFrame (to (Added c m)) before all
    ]

-- the frames of a newcomer
pub join_owned : (old : Parts) (now : ℕ) (n : Subscription) → All OwnsSub old.subs → n.owner < MAX_CALLERS → All OwnsFrame (join_frames old now n)
join_owned old now n all below =
    let c : List ℕ = n.channel in
    let after : List Subscription = on_channel (old.subs ++ n ∷ []) c in
    let first : Frame = cond (is_presence c) (Present c (rows_in c after)) (Succeeded c) in
    let news : List Delivery = cond (is_cache c) (to (latest_frame c (kept_at old now c)) n ∷ []) [] in
    let news_owned : All OwnsFrame news = elim (is_cache c) as (λ b. All OwnsFrame (cond b (to (latest_frame c (kept_at old now c)) n ∷ []) [])) [
      | true ↦ All-cons OwnsFrame (to (latest_frame c (kept_at old now c)) n) [] below (All-nil OwnsFrame)
      | false ↦ All-nil OwnsFrame
    ] in
    All-append OwnsFrame (to first n ∷ news) (member_added_frames c (on_channel old.subs c) n.member)
    (All-cons OwnsFrame (to first n) news below news_owned)
    (arrival_owned c (on_channel old.subs c) n.member (on_channel_owned old.subs c all))
