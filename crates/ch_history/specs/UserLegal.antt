-- Which calls on a user shard are well formed, and which of its histories are legal.
use Rattle.std.specs.Prelude.{◌≡◌, [], IsTrue}
use Rattle.ch_base.specs.JsonText.{IsJsonString}
use Rattle.ch_base.specs.declared.user.UserCall.{UserCall}
use Rattle.ch_base.specs.declared.user.UserCall.TheVariants.{SignIn, Watch, Lost, Terminate, SendTo, Take}
use Rattle.ch_history.specs.Entries.{UserEntry, UserHistory}
use Rattle.ch_history.specs.Steps.{AllHold}
use Rattle.ch_history.specs.Limits.{IsSocket, IsMoment, is_event_name, is_user_id}
use Rattle.ch_history.specs.UserAnswers.{user_answer_of}

-- the bounds of all that the call carries
abbrev pub IsUserWellFormed : UserCall → Type 0
IsUserWellFormed (SignIn socket user at) = IsSocket socket × IsMoment at × IsTrue (is_user_id user)
IsUserWellFormed (Watch socket watched at) = IsSocket socket × IsMoment at × IsTrue (is_user_id watched)
IsUserWellFormed (Lost socket at) = IsSocket socket × IsMoment at
IsUserWellFormed (Terminate user at) = IsMoment at × IsTrue (is_user_id user)
IsUserWellFormed (SendTo user event body at) = IsMoment at × IsTrue (is_user_id user) × IsTrue (is_event_name event) × IsJsonString body
IsUserWellFormed Take = Unit {0}

-- the entry may come after h: its call is well formed, and is answered as it has to be
pub record UserFollows (h : UserHistory) (e : UserEntry) : Type 0 where
  pub formed : IsUserWellFormed e.call
  pub answered : e.answer ≡ user_answer_of h e.caller e.call

-- each entry follows those before it
abbrev pub IsUserLegal : UserHistory → Type 0
IsUserLegal h = AllHold UserFollows [] h
