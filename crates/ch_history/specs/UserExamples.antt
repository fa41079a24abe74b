-- Worked histories of a user shard. Each value is what the definitions compute.
use Rattle.std.specs.Prelude.{◌≡◌, ℕ, true, false, List, [], ◌∷◌, ◌++◌, None, codes}
use Rattle.ch_base.specs.Growth.{entry}
use Rattle.ch_base.specs.declared.user.UserCall.TheVariants.{SignIn, Watch, Lost, Terminate, SendTo, Take}
use Rattle.ch_base.specs.declared.user.UserAnswer.TheVariants as answer
use Rattle.ch_base.specs.declared.frame.Frame.TheVariants as frame
use Rattle.ch_history.specs.Entries.{UserHistory}
use Rattle.ch_history.specs.Steps.{AllHold}
use Rattle.ch_history.specs.SignIns.{online, watching}
use Rattle.ch_history.specs.UserFrames.{user_waiting}
use Rattle.ch_history.specs.UserAnswers.{user_answer_of}
use Rattle.ch_history.specs.ChannelExamples.{gets}

-- every entry is answered as it has to be
abbrev pub AllUserAnswered : UserHistory → Type 0
AllUserAnswered h = AllHold (λ before e. e.answer ≡ user_answer_of before e.caller e.call) [] h

abbrev pub w : List ℕ
w = codes "w"

-- A watcher, and a user with two sockets: online once, and offline when the last one is gone.

abbrev pub both_signed_in : UserHistory
both_signed_in =
    entry 0 (Watch 1 w 0) answer.Watching
    ∷ entry 1 (SignIn 2 w 1) answer.SignedIn
    ∷ entry 1 (SignIn 3 w 2) answer.SignedIn
    ∷ []

abbrev pub both_lost : UserHistory
both_lost =
    both_signed_in
    ++ entry 1 (SendTo w (codes "n") (codes "\"d\"") 3) (answer.SentTo 2)
    ∷ entry 1 (Lost 2 4) (answer.Gone 1 0)
    ∷ entry 1 (Terminate w 5) (answer.Killed 1)
    ∷ entry 1 (Lost 3 6) (answer.Gone 1 0)
    ∷ []

pub record TwoSignedIn : Type 0 where
  pub answered : AllUserAnswered both_lost
  pub is_online : online both_signed_in w ≡ true
  pub is_offline : online both_lost w ≡ false
  pub watcher_in : user_waiting both_signed_in 0 ≡ gets 1 (frame.Watch true w) ∷ []
  pub watcher : user_waiting both_lost 0 ≡ gets 1 (frame.Watch true w) ∷ gets 1 (frame.Watch false w) ∷ []
  pub user : user_waiting both_lost 1 ≡
      gets 2 (frame.Event (codes "#server-to-user-w") (codes "n") (codes "\"d\"") None)
      ∷ gets 3 (frame.Event (codes "#server-to-user-w") (codes "n") (codes "\"d\"") None)
      ∷ gets 3 frame.Kill
      ∷ []

-- A watch that begins while the user is online; the watching socket is lost, and watches afresh when it is back.

abbrev pub watched_late : UserHistory
watched_late =
    entry 0 (SignIn 1 w 0) answer.SignedIn
    ∷ entry 0 (Watch 2 w 1) answer.Watching
    ∷ entry 0 (Watch 2 w 2) answer.AlreadyWatching
    ∷ entry 0 Take (answer.Frames (gets 2 (frame.Watch true w) ∷ []))
    ∷ entry 0 (Lost 2 3) (answer.Gone 0 1)
    ∷ entry 0 (Watch 2 w 4) answer.Watching
    ∷ []

pub record WatchedLate : Type 0 where
  pub answered : AllUserAnswered watched_late
  pub watches : watching watched_late 2 w ≡ true
  pub frames : user_waiting watched_late 0 ≡ gets 2 (frame.Watch true w) ∷ []

-- A user who watches itself and is lost: its watch ends first, so it hears nothing of that.

abbrev pub watches_itself : UserHistory
watches_itself =
    entry 0 (SignIn 1 w 0) answer.SignedIn
    ∷ entry 0 (Watch 1 w 1) answer.Watching
    ∷ entry 0 (Lost 1 2) (answer.Gone 1 1)
    ∷ []

pub record WatchesItself : Type 0 where
  pub answered : AllUserAnswered watches_itself
  pub frames : user_waiting watches_itself 0 ≡ gets 1 (frame.Watch true w) ∷ []
