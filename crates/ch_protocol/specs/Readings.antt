-- What a client's text says with the data in it: who joins a presence channel, or who signs in.
use Rattle.std.specs.Prelude.{◌≡◌, ℕ, List, Option, Some, None, Ok, MatchBool}
use Rattle.ch_base.specs.declared.channel.Member.{Member}
use Rattle.ch_history.specs.ChannelName.{is_presence}
use Rattle.ch_protocol.specs.ClientMessages.{Verdict, Says}
use Rattle.ch_protocol.specs.ChannelData.{TellsMember}
use Rattle.ch_protocol.specs.UserDataText.{TellsUser}
use Rattle.ch_protocol.specs.declared.client_message.UserData.{UserData}
use Rattle.ch_protocol.specs.declared.client_message.ClientMessage.TheVariants.{Subscribe, SignIn}

-- the verdict on a text, the member of a subscribe to a presence channel, and the user of a sign-in
pub record Reading : Type 0 where
  pub verdict : Verdict
  pub member : Option Member
  pub user : Option UserData

-- the member whom the data of a subscribe tell; nobody where there are none
abbrev pub TellsJoiner : Option (List ℕ) → Option Member → Type 0
TellsJoiner None member = member ≡ None
TellsJoiner (Some channel_data) member = TellsMember channel_data member

-- who joins by the verdict
abbrev pub Joins : Verdict → Option Member → Type 0
Joins (Ok (Subscribe channel auth channel_data)) member =
    MatchBool (is_presence channel) (TellsJoiner channel_data member) (member ≡ None)
Joins _ member = member ≡ None

-- who signs in by the verdict
abbrev pub SignsIn : Verdict → Option UserData → Type 0
SignsIn (Ok (SignIn auth user_data)) user = TellsUser user_data user
SignsIn _ user = user ≡ None

-- the text is read so
pub record Reads (text : List ℕ) (r : Reading) : Type 0 where
  pub says : Says text r.verdict
  pub member : Joins r.verdict r.member
  pub user : SignsIn r.verdict r.user
