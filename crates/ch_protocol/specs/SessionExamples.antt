-- What a session does with messages, and what the answers to its asks mean.
use Rattle.std.specs.Prelude.{◌≡◌, ℕ, List, [], ◌∷◌, replicate, codes, Option, Some, None, Ok, Err}
use Rattle.ch_base.specs.declared.channel.ChanAnswer.{ChanAnswer}
use Rattle.ch_base.specs.declared.channel.ChanAnswer.TheVariants.{Joined, Already, Crowded, Left, NotOn, Said}
use Rattle.ch_base.specs.declared.channel.ChanCall.TheVariants.{Take, Join, Leave, Say as SayCall}
use Rattle.ch_base.specs.declared.channel.Member.{Member}
use Rattle.ch_base.specs.declared.frame.Frame.TheVariants.{Pong as PongFrame, Succeeded, SignedIn as SignedInFrame}
use Rattle.ch_base.specs.declared.user.UserAnswer.TheVariants.{SignedIn, Watching}
use Rattle.ch_base.specs.declared.user.UserCall.TheVariants.{SignIn as SignInCall, Watch}
use Rattle.ch_config.specs.Config.{built_in}
use Rattle.ch_protocol.specs.ClientMessages.{Verdict}
use Rattle.ch_protocol.specs.Sessions.{judged, outcome}
use Rattle.ch_protocol.specs.Settling.{SettledAsk, count, user_of, accepted}
use Rattle.ch_protocol.specs.declared.ask.Ask.TheVariants.{Chan, User}
use Rattle.ch_protocol.specs.declared.ask.Made.TheVariants as made
use Rattle.ch_protocol.specs.declared.client_message.ClientMessage.TheVariants.{Ping, Pong, Subscribe, Unsubscribe, SignIn, Say}
use Rattle.ch_protocol.specs.declared.client_message.UserData.{UserData}
use Rattle.ch_protocol.specs.declared.heard.Heard.{Heard}
use Rattle.ch_protocol.specs.declared.heard.Heard.TheVariants as heard
use Rattle.ch_protocol.specs.declared.heard.Settled.TheVariants as settled

-- ---- a session

-- an ask on the one channel shard, with its answer at the moment; which call it was doesn't count here
abbrev pub answered : ChanAnswer → ℕ → SettledAsk
answered answer at = record { ask = Chan 0 Take; answer = made.Chan answer; at = at }

-- socket 1 was signed in as `w`
abbrev pub signed_in : SettledAsk
signed_in = record { ask = User 0 (SignInCall 1 (codes "w") 0); answer = made.User SignedIn; at = 0 }

-- what socket 1 does at the moment with a message that is nobody's, after these asks
abbrev pub does : List SettledAsk → ℕ → Verdict → Heard
does asks now verdict =
    judged (record { config = built_in; start = 1; number = 1; asks = asks; now = now })
    (record { verdict = verdict; member = None; user = None })

-- the same of a subscribe by this member
abbrev pub joins_as : List SettledAsk → Option Member → Heard
joins_as asks member =
    judged (record { config = built_in; start = 1; number = 1; asks = asks; now = 0 })
    (record { verdict = Ok (Subscribe (codes "presence-r") None (Some (codes "{}"))); member = member; user = None })

-- the same of a sign-in of this user
abbrev pub signs_in_as : List SettledAsk → List ℕ → Option UserData → Heard
signs_in_as asks auth user =
    judged (record { config = built_in; start = 1; number = 1; asks = asks; now = 0 })
    (record { verdict = Ok (SignIn auth (codes "{\"id\":\"w\"}")); member = None; user = user })

abbrev pub w_alone : UserData
w_alone = record { id = codes "w"; watchlist = [] }

-- the same with a watchlist
abbrev pub watching_w : UserData
watching_w = record { id = codes "w"; watchlist = codes "x" ∷ codes "w" ∷ [] }

abbrev pub subscribe_to : List ℕ → Verdict
subscribe_to channel = Ok (Subscribe channel None None)

abbrev pub say_on : List ℕ → Verdict
say_on channel = Ok (Say channel (codes "client-m") (codes "1"))

-- ---- messages

pub record Subscribes : Type 0 where
  pub public : does [] 5 (subscribe_to (codes "a")) ≡ heard.Ask (Chan 0 (Join 1 (codes "a") None 5) ∷ [])
  pub no_auth : does [] 5 (subscribe_to (codes "private-p")) ≡ heard.Refuse 4315
  pub wrong_auth : does [] 5 (Ok (Subscribe (codes "private-p") (Some (codes "k:")) None)) ≡ heard.Refuse 4315
  pub nobody : joins_as [] None ≡ heard.Refuse 4316
  pub own_channel : does [] 5 (subscribe_to (codes "#server-to-user-w")) ≡ heard.Refuse 4315
  pub own_channel_of_another : does (signed_in ∷ []) 5 (subscribe_to (codes "#server-to-user-x")) ≡ heard.Refuse 4315
  pub own_channel_signed_in : does (signed_in ∷ []) 5 (subscribe_to (codes "#server-to-user-w")) ≡ heard.Reply (Succeeded (codes "#server-to-user-w"))
  pub the_last : does (replicate 1023 (answered Joined 0)) 5 (subscribe_to (codes "a")) ≡ heard.Ask (Chan 0 (Join 1 (codes "a") None 5) ∷ [])
  pub too_many : does (replicate 1024 (answered Joined 0)) 5 (subscribe_to (codes "a")) ≡ heard.Refuse 4319
  pub own_one_more : does (signed_in ∷ replicate 1024 (answered Joined 0)) 5 (subscribe_to (codes "#server-to-user-w")) ≡ heard.Reply (Succeeded (codes "#server-to-user-w"))
  pub ends : does [] 5 (Ok (Unsubscribe (codes "a"))) ≡ heard.Ask (Chan 0 (Leave 1 (codes "a") 5) ∷ [])
  pub own_one_stays : does [] 5 (Ok (Unsubscribe (codes "#server-to-user-w"))) ≡ heard.Nothing

pub record SayExamples : Type 0 where
  pub ping : does [] 0 (Ok Ping) ≡ heard.Reply PongFrame
  pub pong : does [] 0 (Ok Pong) ≡ heard.Nothing
  pub no_message : does [] 0 (Err 4310) ≡ heard.Refuse 4310
  pub private : does [] 7 (say_on (codes "private-p")) ≡ heard.Ask (Chan 0 (SayCall 1 (codes "private-p") (codes "client-m") (codes "1") 7) ∷ [])
  pub public : does [] 7 (say_on (codes "a")) ≡ heard.Refuse 4317
  pub encrypted : does [] 7 (say_on (codes "private-encrypted-p")) ≡ heard.Refuse 4317
  pub too_soon : does (replicate 10 (answered Said 0)) 999 (say_on (codes "private-p")) ≡ heard.Refuse 4301
  pub a_second_later : does (replicate 10 (answered Said 0)) 1000 (say_on (codes "private-p"))
      ≡ heard.Ask (Chan 0 (SayCall 1 (codes "private-p") (codes "client-m") (codes "1") 1000) ∷ [])
  pub refused_ones_dont_count : does (replicate 10 (answered NotOn 0)) 0 (say_on (codes "private-p"))
      ≡ heard.Ask (Chan 0 (SayCall 1 (codes "private-p") (codes "client-m") (codes "1") 0) ∷ [])

pub record SignsIn : Type 0 where
  pub nobody : signs_in_as [] [] None ≡ heard.Refuse 4321
  pub again : signs_in_as (signed_in ∷ []) [] (Some w_alone) ≡ heard.Refuse 4322
  pub wrong_auth : signs_in_as [] (codes "k:") (Some w_alone) ≡ heard.End 4009

-- signatures with the secret `s`, as openssl computes them
pub record Authorized : Type 0 where
  pub private : does [] 5 (Ok (Subscribe (codes "private-p") (Some (codes "k:63716558f65998dfa5b3727a180f535b4354a16f36aaaf71b3a98f30950da7b3")) None))
      ≡ heard.Ask (Chan 0 (Join 1 (codes "private-p") None 5) ∷ [])
  pub upper_case : does [] 5 (Ok (Subscribe (codes "private-p") (Some (codes "k:63716558F65998DFA5B3727A180F535B4354A16F36AAAF71B3A98F30950DA7B3")) None))
      ≡ heard.Refuse 4315
  pub user : signs_in_as [] (codes "k:a253c2a2e1f9042c8de004704980e1223c59b870dd549ff37ff4ba4a62806a33") (Some watching_w)
      ≡ heard.Ask (User 0 (SignInCall 1 (codes "w") 0) ∷ User 0 (Watch 1 (codes "x") 0) ∷ User 0 (Watch 1 (codes "w") 0) ∷ [])

-- ---- answers

pub record Outcomes : Type 0 where
  pub joined : outcome [] 0 (made.Chan Joined) ≡ settled.Nothing
  pub already : outcome [] 0 (made.Chan Already) ≡ settled.Refuse 4313
  pub not_on : outcome [] 0 (made.Chan NotOn) ≡ settled.Refuse 4314
  pub crowded : outcome [] 0 (made.Chan Crowded) ≡ settled.Refuse 4320
  pub signed_in : outcome (codes "{\"id\":\"w\"}") 0 (made.User SignedIn) ≡ settled.Reply (SignedInFrame (codes "{\"id\":\"w\"}"))
  pub watching : outcome (codes "{\"id\":\"w\"}") 1 (made.User Watching) ≡ settled.Nothing
  pub no_memory : outcome [] 0 made.Memory ≡ settled.Refuse 4329
  pub no_memory_later : outcome [] 1 made.Memory ≡ settled.End 4200

-- what settled asks tell: two subscriptions less one, the user, and the moments of client events
pub record Settled : Type 0 where
  pub subscriptions : count (answered Joined 0 ∷ answered Already 1 ∷ answered Joined 2 ∷ answered Left 3 ∷ []) ≡ 1
  pub user : user_of (answered Joined 0 ∷ signed_in ∷ []) ≡ Some (codes "w")
  pub no_user : user_of (answered Joined 0 ∷ []) ≡ None
  pub events : accepted (answered Said 4 ∷ answered NotOn 5 ∷ answered Said 6 ∷ []) ≡ 4 ∷ 6 ∷ []
