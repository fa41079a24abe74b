-- The histories of a caller that is alone, caller 0: each call is answered at once.
use Rattle.ch_base.specs.declared.channel.ChanCall.{ChanCall}
use Rattle.ch_base.specs.declared.user.UserCall.{UserCall}
use Rattle.ch_history.specs.Entries.{ChanHistory, UserHistory, called}
use Rattle.ch_history.specs.Answers.{answer_of}
use Rattle.ch_history.specs.UserAnswers.{user_answer_of}

-- the history with one more call of caller 0, which is answered as it has to be
abbrev pub with_call : ChanHistory → ChanCall → ChanHistory
with_call h call = called h 0 call (answer_of h 0 call)

abbrev pub with_user_call : UserHistory → UserCall → UserHistory
with_user_call h call = called h 0 call (user_answer_of h 0 call)
