-- What each call on a user shard is answered.
use Rattle.std.specs.Prelude.{ℕ, List, length, if◌then◌else◌}
use Rattle.ch_base.specs.declared.user.UserCall.{UserCall}
use Rattle.ch_base.specs.declared.user.UserCall.TheVariants.{SignIn, Watch, Lost, Terminate, SendTo, Take}
use Rattle.ch_base.specs.declared.user.UserAnswer.{UserAnswer}
use Rattle.ch_base.specs.declared.user.UserAnswer.TheVariants.{SignedIn, AlreadyIn, Watching, AlreadyWatching, Gone, Killed, SentTo, Frames}
use Rattle.ch_base.specs.declared.frame.FrameFor.{FrameFor}
use Rattle.ch_history.specs.declared.rows.UserSocket.{UserSocket}
use Rattle.ch_history.specs.Entries.{UserHistory}
use Rattle.ch_history.specs.SignIns.{sign_ins, watches, of_user, has_one_of, users_of}
use Rattle.ch_history.specs.UserFrames.{user_waiting}

-- what a call is answered; signs: the sign-ins, seen: the watches, mine: the frames that wait for its caller
abbrev pub user_answer_by : List UserSocket → List UserSocket → List FrameFor → UserCall → UserAnswer
user_answer_by signs seen mine (SignIn socket user at) = if has_one_of signs socket user then AlreadyIn else SignedIn
user_answer_by signs seen mine (Watch socket watched at) = if has_one_of seen socket watched then AlreadyWatching else Watching
user_answer_by signs seen mine (Lost socket at) = Gone (length (users_of signs socket)) (length (users_of seen socket))
user_answer_by signs seen mine (Terminate user at) = Killed (length (of_user signs user))
user_answer_by signs seen mine (SendTo user event body at) = SentTo (length (of_user signs user))
user_answer_by signs seen mine Take = Frames mine

-- what the call of the caller w is answered after the history h
abbrev pub user_answer_of : UserHistory → ℕ → UserCall → UserAnswer
user_answer_of h w call = user_answer_by (sign_ins h) (watches h) (user_waiting h w) call
