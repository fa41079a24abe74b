-- What a message comes to.
use Rattle.std.specs.Prelude.{◌≡◌, ℕ, ◌<◌, List, [], Option, Some, None, IsTrue, IfSome, Ok, Err, All}
use Rattle.ch_base.specs.declared.channel.Member.{Member}
use Rattle.ch_base.specs.declared.user.UserCall.TheVariants as user
use Rattle.ch_config.specs.declared.config.Config.{Config}
use Rattle.ch_frames.specs.Checked.{IsGoodMessage, IsGoodUser}
use Rattle.ch_history.specs.ChannelName.{is_presence}
use Rattle.ch_history.specs.WellFormed.{IsWellFormed, IsMember}
use Rattle.ch_history.specs.UserLegal.{IsUserWellFormed}
use Rattle.ch_history.specs.Placement.{BelongsTo, UserBelongsTo, shard_of}
use Rattle.ch_protocol.specs.ClientMessages.{Verdict}
use Rattle.ch_protocol.specs.declared.client_message.ClientMessage.{ClientMessage}
use Rattle.ch_protocol.specs.declared.client_message.ClientMessage.TheVariants.{Subscribe, SignIn}
use Rattle.ch_protocol.specs.declared.client_message.UserData.{UserData}
use Rattle.ch_protocol.specs.Readings.{Reading, Reads}
use Rattle.ch_protocol.specs.Sessions.{Session, judged}
use Rattle.ch_session.specs.declared.waiting.Waiting.{Waiting}
use Rattle.ch_protocol.specs.Settling.{SettledAsk}
use Rattle.ch_protocol.specs.declared.ask.Ask.{Ask}
use Rattle.ch_protocol.specs.declared.ask.Ask.TheVariants.{Chan, User}
use Rattle.ch_protocol.specs.declared.heard.Heard.{Heard}
use Rattle.ch_protocol.specs.declared.heard.Heard.TheVariants as heard
use Rattle.ch_base.specs.declared.error_codes.TheConstants.{UNAUTHORIZED}
use Rattle.ch_session.specs.declared.judged.Judged.{Judged}
use Rattle.ch_session.specs.Kept.{Kept, IsFit}
use Rattle.ch_session.specs.Waits.{Awaits, HoldsData}

-- what a session of this start second and number knows, after these settled asks
abbrev pub known : Config → ℕ → ℕ → List SettledAsk → ℕ → Session
known config start number asks now = record { config = config; start = start; number = number; asks = asks; now = now }

-- the asks that are to be made
abbrev pub asks_of : Heard → List Ask
asks_of (heard.Ask asks) = asks
asks_of _ = []

-- the ask is well formed, is on a shard that there is, and belongs to it
abbrev pub IsSoundAsk : Config → Ask → Type 0
IsSoundAsk config (Chan shard call) = IsWellFormed call × (shard < config.chan_shards) × BelongsTo (shard, config.chan_shards) call
IsSoundAsk config (User shard call) = IsUserWellFormed call × (shard < config.user_shards) × UserBelongsTo (shard, config.user_shards) call

-- the ask that signs the user in, and the one that watches it, by a socket at a moment, of so many user shards
abbrev pub sign_in_by : ℕ → ℕ → ℕ → List ℕ → Ask
sign_in_by socket now shards id = User (shard_of id shards) (user.SignIn socket id now)

abbrev pub watch_by : ℕ → ℕ → ℕ → List ℕ → Ask
watch_by socket now shards id = User (shard_of id shards) (user.Watch socket id now)

-- the user data of the message, if it is a sign-in
abbrev pub user_data_in : ClientMessage → List ℕ
user_data_in (SignIn auth user_data) = user_data
user_data_in _ = []

-- the same of a verdict
abbrev pub user_data_of : Verdict → List ℕ
user_data_of (Ok message) = user_data_in message
user_data_of (Err code) = []

-- a member joins a presence channel alone, and is a good one
abbrev pub IsJoiner : List ℕ → Option Member → Type 0
IsJoiner channel None = Unit {0}
IsJoiner channel (Some member) = IsTrue (is_presence channel) × IsMember member

-- who joins by the message is a joiner of its channel
abbrev pub IsJoinerBy : ClientMessage → Option Member → Type 0
IsJoinerBy (Subscribe channel auth channel_data) member = IsJoiner channel member
IsJoinerBy _ member = Unit {0}

-- the names and the body in what was read are good, and so is who joins or signs in by it
abbrev pub IsGoodReading : Verdict → Option Member → Option UserData → Type 0
IsGoodReading (Ok message) member u = IsGoodMessage message × IsJoinerBy message member × IfSome u IsGoodUser
IsGoodReading (Err code) member u = Unit {0}

-- a connection ends as unauthorized alone
abbrev pub EndsAsUnauthorized : Heard → Type 0
EndsAsUnauthorized (heard.End code) = code ≡ UNAUTHORIZED
EndsAsUnauthorized _ = Unit {0}

-- what waits then are the asks of the answer, which are sound, and the session may wait for it
pub record IsReady (s : Kept) (config : Config) (user_data : List ℕ) (j : Judged) : Type 0 where
  pub awaits : Awaits j.waits 0 (asks_of j.heard)
  pub holds : HoldsData j.waits user_data
  pub sound : All (IsSoundAsk config) (asks_of j.heard)
  pub ends : EndsAsUnauthorized j.heard
  pub fit : IsFit s.told s.chans j.waits

-- the text is read, and this is what the session does with it; what waits then holds the data of a sign-in as they were sent
pub record Hears (s : Session) (text : List ℕ) (waits : Waiting) (result : Heard) : Type 0 where
  pub reading : Reading
  pub reads : Reads text reading
  pub judged : result ≡ judged s reading
  pub holds : HoldsData waits (user_data_of reading.verdict)
