-- A session hears a text, and makes its asks at a desk.
use Rattle.std.specs.Prelude.{◌≡◌, ℕ, List, length}
use Rattle.ch_config.specs.declared.config.Config.{Config}
use Rattle.ch_desk.specs.OwnEntries.{Makes}
use Rattle.ch_desk.specs.Views.{DeskView}
use Rattle.ch_protocol.specs.Asks.{Asked}
use Rattle.ch_protocol.specs.Settling.{SettledAsk}
use Rattle.ch_protocol.specs.declared.heard.Settled.{Settled}
use Rattle.ch_rate.specs.Quiet.{quiet_from}
use Rattle.ch_session.specs.Judging.{known}
use Rattle.ch_session.specs.Kept.{Kept, IsSession}
use Rattle.ch_session.specs.declared.waiting.Waiting.TheVariants.{Nothing}
use Rattle.ch_dispatch.specs.MadeAsks.{settled_all}
use Rattle.ch_dispatch.specs.Messages.{Answers}
use Rattle.ch_dispatch.specs.Outcomes.{IsResponseTo}
use Rattle.ch_dispatch.specs.declared.response.Response.{Response}

-- a session, and the desk at which its asks are made
pub record AtDesk : Type 0 where
  pub session : Kept
  pub desk : DeskView

-- The session heard the text at the moment now: these asks were made, and this is the response.
pub record Hears (config : Config) (now : ℕ) (text : List ℕ) (asked : List Asked) (old new : AtDesk) (response : Response) : Type 0 where
  pub outcomes : List Settled
  -- the asks are those of the text, and the outcomes are theirs
  pub answers : (start number : ℕ) (asks : List SettledAsk) → IsSession old.session start number asks
      → Answers (known config start number asks now) text asked outcomes
  pub tells : IsResponseTo outcomes response
  -- the caller's own entries at the desk are those of the asks
  pub calls : Makes asked old.desk new.desk
  -- the session keeps each answer, and waits for none
  pub settles : (start number : ℕ) (asks : List SettledAsk) → IsSession old.session start number asks
      → IsSession new.session start number (settled_all now asks asked)
  pub idle : new.session.waits ≡ Nothing
  -- it was heard at this moment, and is else as it was
  pub same : new.session ≡ record old.session { told = new.session.told; waits = Nothing; quiet = quiet_from now }
  pub used : length new.session.told.used ≡ length old.session.told.used
