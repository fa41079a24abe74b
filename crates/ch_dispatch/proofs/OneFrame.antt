-- A text is answered by one frame at most.
use Rattle.std.proofs.Common.{◌≡◌, ◌≢◌, ℕ, zero, suc, ◌+◌, ◌≤◌, Bool, true, false, cond, List, [], ◌∷◌, ◌++◌, map, ap, sym, subst, refl, ◌∙◌, append-nil, inl, inr, arith}
use Rattle.std.specs.Prelude.{Option, Some, None, Ok, Err, MatchBool}
use Rattle.ch_base.specs.declared.channel.ChanAnswer.{ChanAnswer}
use Rattle.ch_base.specs.declared.channel.ChanAnswer.TheVariants as chan
use Rattle.ch_base.specs.declared.user.UserAnswer.{UserAnswer}
use Rattle.ch_base.specs.declared.user.UserAnswer.TheVariants as user
use Rattle.ch_base.specs.declared.channel.ChanCall.{ChanCall}
use Rattle.ch_base.specs.declared.channel.ChanCall.TheVariants as chan_call
use Rattle.ch_base.specs.declared.channel.Member.{Member}
use Rattle.ch_base.specs.declared.frame.Frame.TheVariants.{Kill, Error, Succeeded, SignedIn, Pong as PongFrame}
use Rattle.ch_base.specs.declared.user.UserCall.{UserCall}
use Rattle.ch_base.specs.declared.error_codes.TheConstants.{ALREADY_SIGNED_IN, ALREADY_SUBSCRIBED, CHANNEL_FULL, CLIENT_EVENT_REFUSED, INVALID_CHANNEL_DATA, INVALID_SIGNATURE, INVALID_USER_DATA, NOT_SUBSCRIBED, OUT_OF_MEMORY, RATE_LIMIT_REACHED, TOO_MANY_SUBSCRIPTIONS, UNAUTHORIZED}
use Rattle.ch_protocol.specs.Asks.{Asked, ComesOf}
use Rattle.ch_protocol.specs.ClientMessages.{Verdict}
use Rattle.ch_protocol.specs.Sessions.{Session, judged_as, outcome, chan_outcome, user_outcome, subscribes, signs_in_as, watch_ask, sign_in_ask, ask_on}
use Rattle.ch_history.specs.UserChannels.{channel_user}
use Rattle.ch_protocol.specs.declared.client_message.ClientMessage.TheVariants.{Ping, Pong, Subscribe, Unsubscribe, SignIn, Say}
use Rattle.ch_protocol.specs.declared.client_message.UserData.{UserData}
use Rattle.ch_protocol.specs.declared.ask.Ask.{Ask}
use Rattle.ch_protocol.specs.declared.ask.Ask.TheVariants.{Chan, User}
use Rattle.ch_protocol.specs.declared.ask.Made.{Made}
use Rattle.ch_protocol.specs.declared.ask.Made.TheVariants as made
use Rattle.ch_protocol.specs.declared.heard.Heard.{Heard}
use Rattle.ch_protocol.specs.declared.heard.Heard.TheVariants as heard
use Rattle.ch_session.specs.Judging.{asks_of}
use Rattle.ch_dispatch.specs.Laws.{IsOneAtMost, AnsweredOnce}
use Rattle.ch_dispatch.specs.MadeAsks.{outcomes_from, AreMadeFrom}
use Rattle.ch_dispatch.specs.Messages.{IsHeard, comes_to}
use Rattle.ch_dispatch.specs.Outcomes.{stops, frames_of, frames_in}

-- each of the asks is on a user shard
abbrev AllUsers : List Ask → Type 0
AllUsers [] = Unit {0}
AllUsers (Chan shard call ∷ asks) = ⊥
AllUsers (User shard call ∷ asks) = AllUsers asks

-- only the first ask may be on a channel shard
abbrev UsersBehind : List Ask → Type 0
UsersBehind [] = Unit {0}
UsersBehind (ask ∷ asks) = AllUsers asks

-- no Kill is replied, and asks behind the first are on user shards
abbrev IsPlain : Heard → Type 0
IsPlain heard.Nothing = Unit {0}
IsPlain (heard.Reply frame) = frame ≢ Kill
IsPlain (heard.Refuse code) = Unit {0}
IsPlain (heard.Ask asks) = UsersBehind asks
IsPlain (heard.End code) = Unit {0}

record Plain (h : Heard) : Type 0 where
  pub is : IsPlain h

plainly : (h : Heard) → IsPlain h → Plain h
plainly h p = record { is = p }

either : (b : Bool) {x y : Heard} → Plain x → Plain y → Plain (cond b x y)
either true p q = p
either false p q = q

refused : (code : ℕ) → Plain (heard.Refuse code)
refused code = plainly (heard.Refuse code) tt

asked_one : (s : Session) (channel : List ℕ) (call : ChanCall) → Plain (ask_on s channel call)
asked_one s channel call = plainly (ask_on s channel call) tt

watches_are_users : (s : Session) (ids : List (List ℕ)) → AllUsers (map (watch_ask s) ids)
watches_are_users s [] = tt
watches_are_users s (id ∷ ids) = watches_are_users s ids

succeeded : (channel : List ℕ) → Plain (heard.Reply (Succeeded channel))
succeeded channel = plainly (heard.Reply (Succeeded channel)) (λ e. cc)

subscribes_plain : (s : Session) (channel : List ℕ) (auth channel_data : Option (List ℕ)) (member : Option Member) (o : Option (List ℕ))
    → Plain (subscribes s channel auth channel_data member o)
subscribes_plain s channel auth channel_data member (Some id) = either _ (succeeded channel) (refused INVALID_SIGNATURE)
subscribes_plain s channel auth channel_data member None =
    either _ (refused TOO_MANY_SUBSCRIPTIONS) (either _ (refused INVALID_CHANNEL_DATA) (either _ (refused INVALID_SIGNATURE) (asked_one s channel (chan_call.Join s.number channel member s.now))))

signs_in_plain : (s : Session) (auth user_data : List ℕ) (u : Option UserData) → Plain (signs_in_as s auth user_data u)
signs_in_plain s auth user_data None = refused INVALID_USER_DATA
signs_in_plain s auth user_data (Some u) =
    either _ (plainly (heard.Ask (sign_in_ask s u.id ∷ map (watch_ask s) u.watchlist)) (watches_are_users s u.watchlist)) (plainly (heard.End UNAUTHORIZED) tt)

judged_plain : (s : Session) (member : Option Member) (u : Option UserData) (v : Verdict) → Plain (judged_as s member u v)
judged_plain s member u (Err code) = refused code
judged_plain s member u (Ok Ping) = plainly (heard.Reply PongFrame) (λ e. cc)
judged_plain s member u (Ok Pong) = plainly heard.Nothing tt
judged_plain s member u (Ok (Subscribe channel auth channel_data)) = subscribes_plain s channel auth channel_data member (channel_user channel)
judged_plain s member u (Ok (Unsubscribe channel)) = either _ (plainly heard.Nothing tt) (asked_one s channel (chan_call.Leave s.number channel s.now))
judged_plain s member u (Ok (SignIn auth user_data)) = either _ (refused ALREADY_SIGNED_IN) (signs_in_plain s auth user_data u)
judged_plain s member u (Ok (Say channel event body)) =
    either _ (refused CLIENT_EVENT_REFUSED) (either _ (refused RATE_LIMIT_REACHED) (asked_one s channel (chan_call.Say s.number channel event body s.now)))

heard_plain : (s : Session) (text user_data : List ℕ) (h : Heard) → IsHeard s text user_data h → IsPlain h
heard_plain s text user_data h is = elim is [
  | inl e ↦ subst IsPlain (sym e) tt
  | inr r ↦ subst IsPlain (sym r.2) (judged_plain s r.0.member r.0.user r.0.verdict).is
]

-- an answer of a user shard behind the first tells nothing
silent_one : (user_data : List ℕ) (place shard : ℕ) (call : UserCall) (asks : List Ask) (xs : List Asked) (came : Made) → ComesOf (User shard call) came
    → MatchBool (stops (outcome user_data (suc place) came)) (xs ≡ []) (AreMadeFrom user_data (suc place + 1) asks xs)
    → (AreMadeFrom user_data (suc place + 1) asks xs → frames_in (outcomes_from user_data (suc place + 1) xs) ≡ [])
    → frames_of (outcome user_data (suc place) came) ++ frames_in (outcomes_from user_data (suc place + 1) xs) ≡ []
silent_one user_data place shard call asks xs (made.Chan answer) comes left rest = absurd comes
silent_one user_data place shard call asks xs (made.User answer) comes left rest = rest left
silent_one user_data place shard call asks xs made.Memory comes left rest = ap (λ z. frames_in (outcomes_from user_data (suc place + 1) z)) left

silent : (user_data : List ℕ) (place : ℕ) (asks : List Ask) (xs : List Asked) → 1 ≤ place → AllUsers asks → AreMadeFrom user_data place asks xs
    → frames_in (outcomes_from user_data place xs) ≡ []
silent user_data place [] xs behind users made_so = ap (λ z. frames_in (outcomes_from user_data place z)) made_so
silent user_data place (ask ∷ asks) [] behind users made_so = absurd made_so
silent user_data place (Chan shard call ∷ asks) (x ∷ xs) behind users made_so = absurd users
silent user_data zero (User shard call ∷ asks) (x ∷ xs) behind users made_so = absurd (omega (arith, behind))
silent user_data (suc place) (User shard call ∷ asks) (x ∷ xs) behind users made_so =
    silent_one user_data place shard call asks xs x.came made_so.1 made_so.2 (λ m. silent user_data (suc place + 1) asks xs (omega arith) users m)

chan_few : (answer : ChanAnswer) → IsOneAtMost (frames_of (chan_outcome answer))
chan_few chan.Already = inr (Error ALREADY_SUBSCRIBED, refl, λ e. cc)
chan_few chan.Crowded = inr (Error CHANNEL_FULL, refl, λ e. cc)
chan_few chan.NotOn = inr (Error NOT_SUBSCRIBED, refl, λ e. cc)
chan_few chan.Joined = inl refl
chan_few chan.Left = inl refl
chan_few (chan.Gone count) = inl refl
chan_few (chan.Sent subs users) = inl refl
chan_few chan.Said = inl refl
chan_few (chan.Frames frames) = inl refl
chan_few (chan.Hooks hooks) = inl refl
chan_few (chan.Rows rows) = inl refl
chan_few (chan.Looked subs users cache) = inl refl
chan_few (chan.Ids ids) = inl refl

user_few : (user_data : List ℕ) (answer : UserAnswer) → IsOneAtMost (frames_of (user_outcome user_data 0 answer))
user_few user_data user.SignedIn = inr (SignedIn user_data, refl, λ e. cc)
user_few user_data user.AlreadyIn = inl refl
user_few user_data user.Watching = inl refl
user_few user_data user.AlreadyWatching = inl refl
user_few user_data (user.Gone signs watches) = inl refl
user_few user_data (user.Killed count) = inl refl
user_few user_data (user.SentTo count) = inl refl
user_few user_data (user.Frames frames) = inl refl

first_few : (user_data : List ℕ) (came : Made) → IsOneAtMost (frames_of (outcome user_data 0 came))
first_few user_data (made.Chan answer) = chan_few answer
first_few user_data (made.User answer) = user_few user_data answer
first_few user_data made.Memory = inr (Error OUT_OF_MEMORY, refl, λ e. cc)

-- nothing is told behind the first ask
rest_silent : (user_data : List ℕ) (asks : List Ask) (xs : List Asked) (stop : Bool) → AllUsers asks
    → MatchBool stop (xs ≡ []) (AreMadeFrom user_data (0 + 1) asks xs) → frames_in (outcomes_from user_data (0 + 1) xs) ≡ []
rest_silent user_data asks xs true users left = ap (λ z. frames_in (outcomes_from user_data (0 + 1) z)) left
rest_silent user_data asks xs false users left = silent user_data (0 + 1) asks xs (omega arith) users left

asks_few : (user_data : List ℕ) (asks : List Ask) (asked : List Asked) → UsersBehind asks → AreMadeFrom user_data 0 asks asked
    → IsOneAtMost (frames_in (outcomes_from user_data 0 asked))
asks_few user_data [] asked users made_so = inl (ap (λ z. frames_in (outcomes_from user_data 0 z)) made_so)
asks_few user_data (ask ∷ asks) [] users made_so = absurd made_so
asks_few user_data (ask ∷ asks) (x ∷ xs) users made_so =
    let o = frames_of (outcome user_data 0 x.came) in
    let rest : frames_in (outcomes_from user_data (0 + 1) xs) ≡ [] = rest_silent user_data asks xs (stops (outcome user_data 0 x.came)) users made_so.2 in
    let same : o ++ frames_in (outcomes_from user_data (0 + 1) xs) ≡ o = ap (λ z. o ++ z) rest ∙ append-nil o in
    subst IsOneAtMost (sym same) (first_few user_data x.came)

comes_few : (user_data : List ℕ) (h : Heard) (asked : List Asked) → IsPlain h → AreMadeFrom user_data 0 (asks_of h) asked → IsOneAtMost (frames_in (comes_to user_data h asked))
comes_few user_data heard.Nothing asked plain made_so = inl refl
comes_few user_data (heard.Reply frame) asked plain made_so = inr (frame, refl, plain)
comes_few user_data (heard.Refuse code) asked plain made_so = inr (Error code, refl, λ e. cc)
comes_few user_data (heard.End code) asked plain made_so = inl refl
comes_few user_data (heard.Ask asks) asked plain made_so = asks_few user_data asks asked plain made_so

pub answered_once : AnsweredOnce
answered_once s text asked outcomes a =
    subst (λ os. IsOneAtMost (frames_in os)) (sym a.comes) (comes_few a.user_data a.hears asked (heard_plain s text a.user_data a.hears a.is_heard) a.made)
