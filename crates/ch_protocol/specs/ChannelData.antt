-- Who joins a presence channel, as the data of a subscribe tell it (Pusher Channels documentation, "Authorizing users",
-- presence channels).
use Rattle.std.specs.Prelude.{◌≡◌, ◌≤◌, ◌||◌, ◌==◌, not, ℕ, Bool, List, length, IsTrue, Option, Some, None, codes}
use Rattle.std.specs.List.{list_any}
use Rattle.ch_base.specs.JsonTree.{Tree, plain, number, string, Members}
use Rattle.ch_base.specs.JsonText.{Unescapes, is_e}
use Rattle.ch_base.specs.declared.channel.Member.{Member}
use Rattle.ch_base.specs.JsonParts.{part}
use Rattle.ch_base.specs.ObjectMembers.{IsObjectText, AreDistinct, HasOne, HasSpelled}
use Rattle.ch_history.specs.Limits.{is_user_id}
use Rattle.ch_protocol.specs.declared.limits.TheConstants.{LONGEST_CHANNEL_DATA}

-- a number without fraction and exponent: no point and no e stands in it
abbrev pub is_whole : List ℕ → Bool
is_whole spelling = not (list_any (λ b. (b == 46) || is_e b) spelling)

-- the value is a good user id: a string, or a whole number, which is known as it is spelled
abbrev pub IsIdOf : List ℕ → Tree → List ℕ → Type 0
IsIdOf text (plain string s) id = Unescapes (part text s) id × IsTrue (is_user_id id)
IsIdOf text (plain number s) id = (id ≡ part text s) × IsTrue (is_whole id) × IsTrue (is_user_id id)
IsIdOf text _ id = ⊥

abbrev pub HasId : List ℕ → Members → List ℕ → Type 0
HasId text ms id = (v : Tree) × HasOne text ms (codes "user_id") v × IsIdOf text v id

-- the data are those of the member: an object in which no name stands twice, with a user id and any info
pub record IsMemberData (text : List ℕ) (member : Member) : Type 0 where
  pub short : length text ≤ LONGEST_CHANNEL_DATA
  pub members : Members
  pub spelled : IsObjectText text members
  pub distinct : AreDistinct text members
  pub id : HasId text members member.user_id
  pub info : HasSpelled text members (codes "user_info") member.info

-- the member whose data these are, or none where they are nobody's
abbrev pub TellsMember : List ℕ → Option Member → Type 0
TellsMember text (Some member) = IsMemberData text member
TellsMember text None = (member : Member) → IsMemberData text member → ⊥
