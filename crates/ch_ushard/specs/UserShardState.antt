-- What a shard keeps, and what each call changes in it.
use Rattle.std.specs.Prelude.{◌≡◌, ◌≢◌, ℕ, true, List, [], ◌∷◌, ◌++◌, length, None, MatchBool, flat_map, map, if◌then◌else◌}
use Rattle.ch_base.specs.declared.user.UserAnswer.{UserAnswer}
use Rattle.ch_base.specs.declared.user.UserAnswer.TheVariants.{SignedIn, AlreadyIn, Watching, AlreadyWatching, Gone, Killed, SentTo, Frames}
use Rattle.ch_base.specs.declared.frame.Frame.TheVariants as frame
use Rattle.ch_history.specs.declared.rows.UserSocket.{UserSocket}
use Rattle.ch_history.specs.declared.rows.Delivery.{Delivery}
use Rattle.ch_history.specs.Deliveries.{delivery, for_owner}
use Rattle.ch_history.specs.SignIns.{user_socket, of_user, has_one_of, users_of, has_any}
use Rattle.ch_history.specs.UserFrames.{to_socket, user_channel, tell_watchers}
use Rattle.ch_outbox.specs.Outbox.{Waiting, frames_of}
use Rattle.ch_watch.specs.Watches.{SignsAndWatches, without}
use Rattle.ch_ushard.specs.Effects.{farewell}

-- the sign-ins and the watches, and what waits for each caller
pub record UserShardState : Type 0 where
  pub users : SignsAndWatches
  pub outbox : List Waiting

-- the sign-ins and the watches are now these, and the frames are added
pub record Changes (old new : UserShardState) (signs_now watches_now : List UserSocket) (made : List Delivery) : Type 0 where
  pub signs : new.users.signs ≡ signs_now
  pub watches : new.users.watches ≡ watches_now
  pub frames : (w : ℕ) → frames_of new.outbox w ≡ frames_of old.outbox w ++ for_owner w made

-- what is kept is the same, whatever the room
pub record IsUnchanged (old new : UserShardState) : Type 0 where
  pub signs : new.users.signs ≡ old.users.signs
  pub watches : new.users.watches ≡ old.users.watches
  pub frames : (w : ℕ) → frames_of new.outbox w ≡ frames_of old.outbox w

abbrev pub SignInGives : UserShardState → UserShardState → ℕ → ℕ → List ℕ → UserAnswer → Type 0
SignInGives old new caller socket user answer =
    MatchBool (has_one_of old.users.signs socket user)
    ((answer ≡ AlreadyIn) × IsUnchanged old new)
    ((answer ≡ SignedIn)
    × Changes old new (old.users.signs ++ user_socket caller socket user ∷ []) old.users.watches
    (tell_watchers true old.users.signs old.users.watches user))

-- the first word that a new watcher gets, where the user is online
abbrev pub WatchGives : UserShardState → UserShardState → ℕ → ℕ → List ℕ → UserAnswer → Type 0
WatchGives old new caller socket watched answer =
    MatchBool (has_one_of old.users.watches socket watched)
    ((answer ≡ AlreadyWatching) × IsUnchanged old new)
    ((answer ≡ Watching)
    × Changes old new old.users.signs (old.users.watches ++ user_socket caller socket watched ∷ [])
    (if has_any old.users.signs watched then delivery caller socket (frame.Watch true watched) ∷ [] else []))

abbrev pub LostGives : UserShardState → UserShardState → ℕ → UserAnswer → Type 0
LostGives old new socket answer =
    (answer ≡ Gone (length (users_of old.users.signs socket)) (length (users_of old.users.watches socket)))
    × Changes old new (without old.users.signs socket) (without old.users.watches socket)
    (flat_map (farewell old.users socket) (users_of old.users.signs socket))

abbrev pub TerminateGives : UserShardState → UserShardState → List ℕ → UserAnswer → Type 0
TerminateGives old new user answer =
    (answer ≡ Killed (length (of_user old.users.signs user)))
    × Changes old new old.users.signs old.users.watches (map (to_socket frame.Kill) (of_user old.users.signs user))

abbrev pub SendToGives : UserShardState → UserShardState → List ℕ → List ℕ → List ℕ → UserAnswer → Type 0
SendToGives old new user event body answer =
    (answer ≡ SentTo (length (of_user old.users.signs user)))
    × Changes old new old.users.signs old.users.watches
    (map (to_socket (frame.Event (user_channel user) event body None)) (of_user old.users.signs user))

-- the caller's frames are taken out
pub record TakeGives (old new : UserShardState) (caller : ℕ) (answer : UserAnswer) : Type 0 where
  pub answered : answer ≡ Frames (frames_of old.outbox caller)
  pub signs : new.users.signs ≡ old.users.signs
  pub watches : new.users.watches ≡ old.users.watches
  pub emptied : frames_of new.outbox caller ≡ []
  pub others : (w : ℕ) → w ≢ caller → frames_of new.outbox w ≡ frames_of old.outbox w
