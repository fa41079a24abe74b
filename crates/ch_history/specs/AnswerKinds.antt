-- Which answers each call can have, whatever the history before it.
use Rattle.ch_base.specs.declared.channel.ChanCall.{ChanCall}
use Rattle.ch_base.specs.declared.channel.ChanCall.TheVariants.{Join, Leave, Lost, Publish, Say, Take, TakeHooks, Names, Look, Users}
use Rattle.ch_base.specs.declared.channel.ChanAnswer.{ChanAnswer}
use Rattle.ch_base.specs.declared.channel.ChanAnswer.TheVariants.{Joined, Already, Crowded, Left, NotOn, Gone, Sent, Said, Frames, Hooks, Rows, Looked, Ids}
use Rattle.ch_base.specs.declared.user.UserCall.{UserCall}
use Rattle.ch_base.specs.declared.user.UserCall.TheVariants as user
use Rattle.ch_base.specs.declared.user.UserAnswer.{UserAnswer}
use Rattle.ch_base.specs.declared.user.UserAnswer.TheVariants as answer

-- the answer is one that the call on a channel shard can have
abbrev pub IsAnswerTo : ChanCall → ChanAnswer → Type 0
IsAnswerTo (Join socket c member at) Joined = Unit {0}
IsAnswerTo (Join socket c member at) Already = Unit {0}
IsAnswerTo (Join socket c member at) Crowded = Unit {0}
IsAnswerTo (Leave socket c at) Left = Unit {0}
IsAnswerTo (Leave socket c at) NotOn = Unit {0}
IsAnswerTo (Lost socket at) (Gone count) = Unit {0}
IsAnswerTo (Publish c event body except at) (Sent subs users) = Unit {0}
IsAnswerTo (Say socket c event body at) Said = Unit {0}
IsAnswerTo (Say socket c event body at) NotOn = Unit {0}
IsAnswerTo Take (Frames frames) = Unit {0}
IsAnswerTo (TakeHooks at) (Hooks hooks) = Unit {0}
IsAnswerTo (Names prefix) (Rows rows) = Unit {0}
IsAnswerTo (Look c at) (Looked subs users cache) = Unit {0}
IsAnswerTo (Users c) (Ids ids) = Unit {0}
IsAnswerTo _ _ = ⊥

-- the answer is one that the call on a user shard can have
abbrev pub IsUserAnswerTo : UserCall → UserAnswer → Type 0
IsUserAnswerTo (user.SignIn socket id at) answer.SignedIn = Unit {0}
IsUserAnswerTo (user.SignIn socket id at) answer.AlreadyIn = Unit {0}
IsUserAnswerTo (user.Watch socket watched at) answer.Watching = Unit {0}
IsUserAnswerTo (user.Watch socket watched at) answer.AlreadyWatching = Unit {0}
IsUserAnswerTo (user.Lost socket at) (answer.Gone signs watches) = Unit {0}
IsUserAnswerTo (user.Terminate id at) (answer.Killed count) = Unit {0}
IsUserAnswerTo (user.SendTo id event body at) (answer.SentTo count) = Unit {0}
IsUserAnswerTo user.Take (answer.Frames frames) = Unit {0}
IsUserAnswerTo _ _ = ⊥
