-- That each text has one meaning.
use Rattle.std.specs.Prelude.{◌≡◌, ℕ, List}
use Rattle.ch_base.specs.declared.channel.Member.{Member}
use Rattle.ch_protocol.specs.ClientMessages.{Verdict, Says}
use Rattle.ch_protocol.specs.ChannelData.{IsMemberData}
use Rattle.ch_protocol.specs.UserDataText.{IsUserData}
use Rattle.ch_protocol.specs.declared.client_message.UserData.{UserData}

-- a text has at most one verdict
abbrev pub OneVerdict : Type 0
OneVerdict = (text : List ℕ) (a b : Verdict) → Says text a → Says text b → a ≡ b

-- data are those of at most one member
abbrev pub OneMember : Type 0
OneMember = (text : List ℕ) (a b : Member) → IsMemberData text a → IsMemberData text b → a ≡ b

-- data are those of at most one user
abbrev pub OneUser : Type 0
OneUser = (text : List ℕ) (a b : UserData) → IsUserData text a → IsUserData text b → a ≡ b
