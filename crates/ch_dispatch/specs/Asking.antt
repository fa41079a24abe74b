-- The asks of a message are made, settled and told, one after another. (Of private functions.)
use Rattle.std.specs.Prelude.{◌≡◌, ◌+◌, ℕ, List, [], ◌∷◌, length}
use Rattle.ch_desk.specs.OwnEntries.{Makes}
use Rattle.ch_protocol.specs.Asks.{Asked, ComesOf}
use Rattle.ch_protocol.specs.Sessions.{outcome}
use Rattle.ch_protocol.specs.Settling.{SettledAsk, settled_with}
use Rattle.ch_protocol.specs.declared.ask.Ask.{Ask}
use Rattle.ch_protocol.specs.declared.ask.Made.{Made}
use Rattle.ch_protocol.specs.declared.heard.Heard.{Heard}
use Rattle.ch_protocol.specs.declared.heard.Settled.{Settled}
use Rattle.ch_session.specs.Judging.{asks_of}
use Rattle.ch_session.specs.Kept.{IsSession, left_after}
use Rattle.ch_session.specs.Waits.{Awaits, HoldsData}
use Rattle.ch_session.specs.declared.waiting.Waiting.TheVariants.{Nothing}
use Rattle.ch_dispatch.specs.Hearing.{AtDesk}
use Rattle.ch_dispatch.specs.MadeAsks.{AreMadeFrom, settled_all}
use Rattle.ch_dispatch.specs.Messages.{comes_to}
use Rattle.ch_dispatch.specs.Outcomes.{IsResponseTo}
use Rattle.ch_dispatch.specs.declared.response.Response.{Response}

-- the ask at the place of its message was made and settled
pub record AsksOne (now place : ℕ) (ask : Ask) (old new : AtDesk) (means : Settled) : Type 0 where
  pub came : Made
  pub comes : ComesOf ask came
  pub meaning : (user_data : List ℕ) → HoldsData old.session.waits user_data → means ≡ outcome user_data place came
  pub calls : Makes (record { ask = ask; came = came } ∷ []) old.desk new.desk
  pub stands : (start number : ℕ) (asks : List SettledAsk) → IsSession old.session start number asks
      → IsSession new.session start number (settled_with asks ask came now)
  pub holds : (user_data : List ℕ) → HoldsData old.session.waits user_data → HoldsData new.session.waits user_data
  pub waits : (rest : List Ask) → Awaits old.session.waits place (ask ∷ rest)
      → Awaits new.session.waits (place + 1) (left_after means rest)
  pub same : new.session ≡ record old.session { told = new.session.told; waits = new.session.waits }
  pub used : length new.session.told.used ≡ length old.session.told.used

-- what the session made of a message was done
pub record Responds (now : ℕ) (hears : Heard) (old new : AtDesk) (response : Response) : Type 0 where
  pub asked : List Asked
  pub outcomes : List Settled
  pub made : (user_data : List ℕ) → HoldsData old.session.waits user_data → AreMadeFrom user_data 0 (asks_of hears) asked
  pub comes : (user_data : List ℕ) → HoldsData old.session.waits user_data → outcomes ≡ comes_to user_data hears asked
  pub tells : IsResponseTo outcomes response
  pub calls : Makes asked old.desk new.desk
  pub stands : (start number : ℕ) (asks : List SettledAsk) → IsSession old.session start number asks
      → IsSession new.session start number (settled_all now asks asked)
  pub idle : new.session.waits ≡ Nothing
  pub same : new.session ≡ record old.session { told = new.session.told; waits = new.session.waits }
  pub used : length new.session.told.used ≡ length old.session.told.used
