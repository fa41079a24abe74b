-- What a text that a session hears comes to.
use Rattle.std.specs.Prelude.{◌≡◌, ◌⊎◌, ℕ, List, [], ◌∷◌}
use Rattle.ch_base.specs.declared.error_codes.TheConstants.{OUT_OF_MEMORY}
use Rattle.ch_protocol.specs.Asks.{Asked}
use Rattle.ch_protocol.specs.Readings.{Reading, Reads}
use Rattle.ch_protocol.specs.Sessions.{Session, judged}
use Rattle.ch_protocol.specs.declared.heard.Heard.{Heard}
use Rattle.ch_protocol.specs.declared.heard.Heard.TheVariants as heard
use Rattle.ch_protocol.specs.declared.heard.Settled.{Settled}
use Rattle.ch_protocol.specs.declared.heard.Settled.TheVariants.{Reply, Refuse, End}
use Rattle.ch_session.specs.Judging.{asks_of, user_data_of}
use Rattle.ch_dispatch.specs.MadeAsks.{outcomes_from, AreMadeFrom}

-- what the session makes of the text, by some reading of it; where there is no memory for that, it is refused
abbrev pub IsHeard : Session → List ℕ → List ℕ → Heard → Type 0
IsHeard s text user_data h =
    (h ≡ heard.Refuse OUT_OF_MEMORY) ⊎ ((r : Reading) × Reads text r × (h ≡ judged s r) × (user_data ≡ user_data_of r.verdict))

-- what that comes to: the outcomes of its asks, or the one of a message without asks
abbrev pub comes_to : List ℕ → Heard → List Asked → List Settled
comes_to user_data heard.Nothing asked = []
comes_to user_data (heard.Reply frame) asked = Reply frame ∷ []
comes_to user_data (heard.Refuse code) asked = Refuse code ∷ []
comes_to user_data (heard.End code) asked = End code ∷ []
comes_to user_data (heard.Ask asks) asked = outcomes_from user_data 0 asked

-- the session hears the text: these of its asks are made, and these are the outcomes
pub record Answers (s : Session) (text : List ℕ) (asked : List Asked) (outcomes : List Settled) : Type 0 where
  pub user_data : List ℕ
  pub hears : Heard
  pub is_heard : IsHeard s text user_data hears
  pub made : AreMadeFrom user_data 0 (asks_of hears) asked
  pub comes : outcomes ≡ comes_to user_data hears asked
