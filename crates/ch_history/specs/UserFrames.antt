-- The frames that each entry of a user shard makes, and those that wait for a caller (Pusher Channels documentation,
-- "Watchlist events", "Sending events to authenticated users" and "Terminating user connections").
use Rattle.std.specs.Prelude.{ℕ, Bool, true, false, ◌==◌, List, [], ◌∷◌, ◌++◌, None, map, flat_map, codes, if◌then◌else◌}
use Rattle.ch_base.specs.declared.user.UserCall.{UserCall}
use Rattle.ch_base.specs.declared.user.UserCall.TheVariants.{SignIn, Watch, Lost, Terminate, SendTo, Take}
use Rattle.ch_base.specs.declared.user.UserAnswer.{UserAnswer}
use Rattle.ch_base.specs.declared.frame.Frame.{Frame}
use Rattle.ch_base.specs.declared.frame.Frame.TheVariants as frame
use Rattle.ch_base.specs.declared.frame.FrameFor.{FrameFor}
use Rattle.ch_history.specs.declared.rows.UserSocket.{UserSocket}
use Rattle.ch_history.specs.declared.rows.Delivery.{Delivery}
use Rattle.ch_history.specs.Entries.{UserEntry, UserHistory}
use Rattle.ch_history.specs.Steps.{gathered}
use Rattle.ch_history.specs.Deliveries.{delivery, for_owner}
use Rattle.ch_history.specs.SignIns.{is_signed_in, is_watching, sign_ins, watches, of_user, users_of, has_any}

-- a frame for the socket of a sign-in or a watch, by its owner
abbrev pub to_socket : Frame → UserSocket → Delivery
to_socket frame r = delivery r.owner r.socket frame

-- the channel on which the user's own events come
abbrev pub user_channel : List ℕ → List ℕ
user_channel user = codes "#server-to-user-" ++ user

-- where no socket of these sign-ins is the user's, each watcher of the user is told that it is online, or offline
abbrev pub tell_watchers : Bool → List UserSocket → List UserSocket → List ℕ → List Delivery
tell_watchers is_online signs seen user =
    if has_any signs user then [] else map (to_socket (frame.Watch is_online user)) (of_user seen user)

-- the frames of a call; signs and seen: the sign-ins and the watches before it, and after it
abbrev pub user_frames_by : List UserSocket → List UserSocket → List UserSocket → List UserSocket → ℕ → UserAnswer → UserCall → List Delivery
user_frames_by signs signs_after seen seen_after caller answer (SignIn socket user at) =
    if is_signed_in answer then tell_watchers true signs seen user else []
user_frames_by signs signs_after seen seen_after caller answer (Watch socket watched at) =
    if is_watching answer
    then (if has_any signs watched then delivery caller socket (frame.Watch true watched) ∷ [] else [])
    else []
user_frames_by signs signs_after seen seen_after caller answer (Lost socket at) =
    flat_map (tell_watchers false signs_after seen_after) (users_of signs socket)
user_frames_by signs signs_after seen seen_after caller answer (Terminate user at) =
    map (to_socket frame.Kill) (of_user signs user)
user_frames_by signs signs_after seen seen_after caller answer (SendTo user event body at) =
    map (to_socket (frame.Event (user_channel user) event body None)) (of_user signs user)
user_frames_by signs signs_after seen seen_after caller answer Take = []

-- the frames that the entry e makes after the history h
abbrev pub user_frames : UserHistory → UserEntry → List Delivery
user_frames h e =
    user_frames_by (sign_ins h) (sign_ins (h ++ e ∷ [])) (watches h) (watches (h ++ e ∷ [])) e.caller e.answer e.call

-- whether the call of the caller is a Take of w
abbrev pub is_user_take_by : ℕ → ℕ → UserCall → Bool
is_user_take_by w caller Take = caller == w
is_user_take_by w caller _ = false

-- whether the entry is a Take of w
abbrev pub user_takes : ℕ → UserEntry → Bool
user_takes w e = is_user_take_by w e.caller e.call

-- the frames that the caller w hands over, made since its last Take, each with its socket
abbrev pub user_waiting : UserHistory → ℕ → List FrameFor
user_waiting h w = gathered (user_takes w) (λ before e. for_owner w (user_frames before e)) [] h
