-- The law of losses: no subscription, sign-in or watch outlives its socket, whatever memory was refused on the way.
use Rattle.std.specs.Prelude.{◌≡◌, ◌≢◌, ◌⊎◌, ◌≤◌, ◌<◌, ◌+◌, ℕ, true, List, ◌++◌, length, map, take, All, Contains, Some}
use Rattle.ch_base.specs.Growth.{entry}
use Rattle.ch_base.specs.declared.channel.ChanAnswer.{ChanAnswer}
use Rattle.ch_base.specs.declared.channel.ChanCall.TheVariants as chan
use Rattle.ch_base.specs.declared.user.UserAnswer.{UserAnswer}
use Rattle.ch_base.specs.declared.user.UserCall.TheVariants as user
use Rattle.ch_desk.specs.OwnEntries.{entries_on_chan, entries_on_user}
use Rattle.ch_desk.specs.Views.{DeskView}
use Rattle.ch_history.specs.Entries.{ChanEntry, UserEntry}
use Rattle.ch_history.specs.SignIns.{begins_watch, sign_ins, signs_in, watches}
use Rattle.ch_history.specs.Subscriptions.{opened_by, subscriptions}
use Rattle.ch_history.specs.declared.rows.Subscription.{Subscription}
use Rattle.ch_history.specs.declared.rows.UserSocket.{UserSocket}
use Rattle.ch_protocol.specs.Asks.{asks_of}
use Rattle.ch_protocol.specs.Settling.{SettledAsk, uses_chan, uses_user}
use Rattle.ch_protocol.specs.declared.ask.Ask.{Ask}
use Rattle.ch_protocol.specs.declared.ask.Ask.TheVariants.{Chan, User}
use Rattle.ch_protocol.specs.declared.ask.Made.{Made}
use Rattle.ch_protocol.specs.declared.ask.Made.TheVariants as made
use Rattle.ch_session.specs.Kept.{Kept, IsSession, losses_left}
use Rattle.ch_live.specs.Connections.{Connected}
use Rattle.ch_live.specs.LossRuns.{LossCall, LosesOver, EndsOk, StandsAfter, at_moment, losses_in}
use Rattle.ch_live.specs.declared.peer.Peer.{Peer}
use Rattle.ch_live.specs.declared.peer.Peer.TheVariants.{Open}

-- an ended session that stands for these settled asks, and the desk before its losses and after them
pub record Ended : Type 0 where
  pub session : Kept
  pub asks : List SettledAsk
  pub old : DeskView
  pub new : DeskView

-- this holds of all calls that make the losses of a session
abbrev pub OfLosses : (List LossCall → Ended → Type 0) → Type 0
OfLosses P = (calls : List LossCall) (c : Connected) (peer : Peer) (old new : DeskView) (start number : ℕ) (asks : List SettledAsk)
    → IsSession c.session start number asks → LosesOver calls (Open c) peer old new
    → P calls (record { session = c.session; asks = asks; old = old; new = new })

-- The losses that they make are a front of those that the session owes: one on each shard that it uses, in order. Each is
-- made at the moment of its call.
abbrev pub LossesGoOn : Type 0
LossesGoOn = OfLosses (λ calls e. (at : ℕ)
    → map (at_moment at) (asks_of (losses_in calls)) ≡ take (length (losses_in calls)) (losses_left e.session e.asks at))

-- where the last call answered Ok, they are all of them
abbrev pub LossesEnd : Type 0
LossesEnd = OfLosses (λ calls e. EndsOk calls → (at : ℕ) → map (at_moment at) (asks_of (losses_in calls)) ≡ losses_left e.session e.asks at)

-- each is made once: the calls leave one entry of the caller on a shard, or none
abbrev pub LossesAreOnce : Type 0
LossesAreOnce = OfLosses (λ calls e. (caller k : ℕ)
    → (length (entries_on_chan caller k (losses_in calls)) ≤ 1) × (length (entries_on_user caller k (losses_in calls)) ≤ 1))

-- ---- what stands on the shards then

-- the socket's loss stands on the channel shard k, after everything that the caller knew of it before
abbrev pub IsLostOnChan : Ended → ℕ → Type 0
IsLostOnChan e k = (at : ℕ) × (answer : ChanAnswer)
    × StandsAfter (entry e.old.caller (chan.Lost e.session.number at) answer) (e.old.chans k) (e.new.chans k)

-- and so on the user shard k
abbrev pub IsLostOnUser : Ended → ℕ → Type 0
IsLostOnUser e k = (at : ℕ) × (answer : UserAnswer)
    × StandsAfter (entry e.old.caller (user.Lost e.session.number at) answer) (e.old.users k) (e.new.users k)

-- no loss was made before these calls, the desk is the session's, and the last call answered Ok
pub record AllAreMade (calls : List LossCall) (e : Ended) : Type 0 where
  pub first : e.session.lost ≡ 0
  pub chans : e.session.chans ≡ e.old.chan_shards
  pub shards : length e.session.told.used ≡ e.old.chan_shards + e.old.user_shards
  pub ok : EndsOk calls

-- on each shard that the session uses its socket is lost, after everything that it joined, signed in to or watched there
abbrev pub LossesStand : Type 0
LossesStand = OfLosses (λ calls e. AllAreMade calls e
    → ((k : ℕ) → k < e.old.chan_shards → uses_chan e.asks k ≡ true → IsLostOnChan e k)
    × ((k : ℕ) → k < e.old.user_shards → uses_user e.asks k ≡ true → IsLostOnUser e k))

-- ---- what is open then

-- the entry opens a subscription of the socket
abbrev pub OpensFor : ℕ → ChanEntry → Type 0
OpensFor socket e = (r : Subscription) × (opened_by e ≡ Some r) × (r.socket ≡ socket)

-- the entry signs the socket in, or begins a watch of it
abbrev pub SignsFor : ℕ → UserEntry → Type 0
SignsFor socket e = (r : UserSocket) × ((signs_in e ≡ Some r) ⊎ (begins_watch e ≡ Some r)) × (r.socket ≡ socket)

-- the ask was settled with this answer
abbrev pub WasSettled : List SettledAsk → Ask → Made → Type 0
WasSettled asks ask answer = (x : SettledAsk) × Contains asks x × (x.ask ≡ ask) × (x.answer ≡ answer)

-- whatever was opened for the socket was an ask of its session, and nothing is opened for it after these calls began
pub record IsAloneWithNumber (e : Ended) : Type 0 where
  pub chans : (k : ℕ) → All (λ x. OpensFor e.session.number x → WasSettled e.asks (Chan k x.call) (made.Chan x.answer)) (e.old.chans k)
  pub users : (k : ℕ) → All (λ x. SignsFor e.session.number x → WasSettled e.asks (User k x.call) (made.User x.answer)) (e.old.users k)
  pub no_more : (k : ℕ) (more : List ChanEntry) → e.new.chans k ≡ e.old.chans k ++ more → All (λ x. OpensFor e.session.number x → ⊥) more
  pub none_more : (k : ℕ) (more : List UserEntry) → e.new.users k ≡ e.old.users k ++ more → All (λ x. SignsFor e.session.number x → ⊥) more

-- no subscription, sign-in or watch of the socket is open on any shard
abbrev pub NothingOutlives : Type 0
NothingOutlives = OfLosses (λ calls e. AllAreMade calls e → IsAloneWithNumber e
    → ((k : ℕ) → k < e.old.chan_shards → All (λ r. r.socket ≢ e.session.number) (subscriptions (e.new.chans k)))
    × ((k : ℕ) → k < e.old.user_shards → All (λ r. r.socket ≢ e.session.number) (sign_ins (e.new.users k))
    × All (λ r. r.socket ≢ e.session.number) (watches (e.new.users k))))
