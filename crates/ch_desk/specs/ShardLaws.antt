-- In a legal history every answer is the definitions', and of a kind that its call can have.
use Rattle.std.specs.Prelude.{◌≡◌, ℕ, List, [], ◌∷◌, ◌++◌, Bool, true, false, Option, if◌then◌else◌}
use Rattle.ch_base.specs.declared.frame.FrameFor.{FrameFor}
use Rattle.ch_base.specs.declared.webhook.Hook.{Hook}
use Rattle.ch_base.specs.declared.channel.Member.{Member}
use Rattle.ch_base.specs.declared.channel.CacheRow.{CacheRow}
use Rattle.ch_base.specs.declared.channel.ChanCall.{ChanCall}
use Rattle.ch_base.specs.declared.channel.ChanCall.TheVariants as chan
use Rattle.ch_base.specs.declared.channel.ChanAnswer.TheVariants as answer
use Rattle.ch_base.specs.declared.user.UserCall.{UserCall}
use Rattle.ch_base.specs.declared.user.UserCall.TheVariants as user
use Rattle.ch_base.specs.declared.user.UserAnswer.TheVariants as user_answer
use Rattle.ch_history.specs.declared.rows.Subscription.{Subscription}
use Rattle.ch_history.specs.declared.rows.UserSocket.{UserSocket}
use Rattle.ch_history.specs.AnswerKinds.{IsAnswerTo, IsUserAnswerTo}
use Rattle.ch_history.specs.Answers.{answer_by, is_crowded, answer_of}
use Rattle.ch_history.specs.SignIns.{has_one_of, sign_ins, watches}
use Rattle.ch_history.specs.Subscriptions.{is_on, on_channel, subscriptions}
use Rattle.ch_history.specs.UserAnswers.{user_answer_by, user_answer_of}
use Rattle.ch_history.specs.Cache.{latest_row}
use Rattle.ch_history.specs.Entries.{ChanEntry, ChanHistory, UserEntry, UserHistory}
use Rattle.ch_history.specs.Frames.{waiting}
use Rattle.ch_history.specs.Pending.{pending}
use Rattle.ch_history.specs.Placement.{IsLegalAt, IsUserLegalAt}
use Rattle.ch_history.specs.UserFrames.{user_waiting}
use Rattle.ch_history.proofs.Legal.{IsLegal-last}
use Rattle.ch_history.proofs.UserLegal.{IsUserLegal-last}

-- Channel shards

join_fits : (socket : ℕ) (c : List ℕ) (member : Option Member) (at : ℕ) (on crowded : Bool)
    → IsAnswerTo (chan.Join socket c member at) (if on then answer.Already else if crowded then answer.Crowded else answer.Joined)
join_fits socket c member at true crowded = tt
join_fits socket c member at false true = tt
join_fits socket c member at false false = tt

leave_fits : (socket : ℕ) (c : List ℕ) (at : ℕ) (on : Bool) → IsAnswerTo (chan.Leave socket c at) (if on then answer.Left else answer.NotOn)
leave_fits socket c at true = tt
leave_fits socket c at false = tt

say_fits : (socket : ℕ) (c event body : List ℕ) (at : ℕ) (on : Bool) → IsAnswerTo (chan.Say socket c event body at) (if on then answer.Said else answer.NotOn)
say_fits socket c event body at true = tt
say_fits socket c event body at false = tt

-- what the definitions answer is of such a kind
answer_fits : (xs : List Subscription) (kept : List ℕ → Option CacheRow) (mine : List FrameFor) (log : List Hook) (call : ChanCall) → IsAnswerTo call (answer_by xs kept mine log call)
answer_fits xs kept mine log (chan.Join socket c member at) = join_fits socket c member at (is_on xs socket c) (is_crowded c (on_channel xs c) member)
answer_fits xs kept mine log (chan.Leave socket c at) = leave_fits socket c at (is_on xs socket c)
answer_fits xs kept mine log (chan.Lost socket at) = tt
answer_fits xs kept mine log (chan.Publish c event body except at) = tt
answer_fits xs kept mine log (chan.Say socket c event body at) = say_fits socket c event body at (is_on xs socket c)
answer_fits xs kept mine log chan.Take = tt
answer_fits xs kept mine log (chan.TakeHooks at) = tt
answer_fits xs kept mine log (chan.Names prefix) = tt
answer_fits xs kept mine log (chan.Look c at) = tt
answer_fits xs kept mine log (chan.Users c) = tt

pub answered : (at : ℕ × ℕ) (h : ChanHistory) (e : ChanEntry) → IsLegalAt at (h ++ e ∷ []) → e.answer ≡ answer_of h e.caller e.call
answered at h e legal = (IsLegal-last h e legal.legal).answered

pub kind : (h : ChanHistory) (caller : ℕ) (call : ChanCall) → IsAnswerTo call (answer_of h caller call)
kind h caller call = answer_fits (subscriptions h) (latest_row h call) (waiting h caller) (pending h call) call

-- User shards

sign_fits : (socket : ℕ) (u : List ℕ) (at : ℕ) (on : Bool)
    → IsUserAnswerTo (user.SignIn socket u at) (if on then user_answer.AlreadyIn else user_answer.SignedIn)
sign_fits socket u at true = tt
sign_fits socket u at false = tt

watch_fits : (socket : ℕ) (u : List ℕ) (at : ℕ) (on : Bool)
    → IsUserAnswerTo (user.Watch socket u at) (if on then user_answer.AlreadyWatching else user_answer.Watching)
watch_fits socket u at true = tt
watch_fits socket u at false = tt

-- what the definitions answer is of such a kind
user_answer_fits : (signs seen : List UserSocket) (mine : List FrameFor) (call : UserCall) → IsUserAnswerTo call (user_answer_by signs seen mine call)
user_answer_fits signs seen mine (user.SignIn socket u at) = sign_fits socket u at (has_one_of signs socket u)
user_answer_fits signs seen mine (user.Watch socket u at) = watch_fits socket u at (has_one_of seen socket u)
user_answer_fits signs seen mine (user.Lost socket at) = tt
user_answer_fits signs seen mine (user.Terminate u at) = tt
user_answer_fits signs seen mine (user.SendTo u event body at) = tt
user_answer_fits signs seen mine user.Take = tt

pub user_answered : (at : ℕ × ℕ) (h : UserHistory) (e : UserEntry) → IsUserLegalAt at (h ++ e ∷ []) → e.answer ≡ user_answer_of h e.caller e.call
user_answered at h e legal = (IsUserLegal-last h e legal.legal).answered

pub user_kind : (h : UserHistory) (caller : ℕ) (call : UserCall) → IsUserAnswerTo call (user_answer_of h caller call)
user_kind h caller call = user_answer_fits (sign_ins h) (watches h) (user_waiting h caller) call
