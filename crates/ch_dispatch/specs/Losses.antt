-- The losses of a session, made at a desk.
use Rattle.std.specs.Prelude.{◌≡◌, ℕ, List, take, drop, length, Some, All}
use Rattle.ch_config.specs.declared.config.Config.{Config}
use Rattle.ch_desk.specs.OwnEntries.{IsAnswered, Makes}
use Rattle.ch_desk.specs.Views.{DeskView, IsDeskOf}
use Rattle.ch_protocol.specs.Asks.{Asked, asks_of}
use Rattle.ch_protocol.specs.Settling.{SettledAsk}
use Rattle.ch_session.specs.Kept.{Kept, HasShardsOf, IsSession, losses_left}
use Rattle.ch_session.specs.Losses.{IsNextUsed}

-- the session and the desk have the shards of one configuration
pub record IsOverDesk (s : Kept) (desk : DeskView) : Type 0 where
  pub config : Config
  pub over : HasShardsOf s config
  pub shards : IsDeskOf config desk

-- the session has a loss that is still to be made
abbrev pub OwesLoss : Kept → Type 0
OwesLoss s = (place : ℕ) × IsNextUsed s.told.used s.lost (Some place)

-- These losses were made in order at the moment now, from the next one that was left. The others are left, whatever the
-- moment at which they will be made.
pub record MakesLosses (now : ℕ) (asked : List Asked) (old new : Kept) (desk desk_new : DeskView) : Type 0 where
  pub order : (start number : ℕ) (asks : List SettledAsk) → IsSession old start number asks
      → asks_of asked ≡ take (length asked) (losses_left old asks now)
  pub left : (start number at : ℕ) (asks : List SettledAsk) → IsSession old start number asks
      → losses_left new asks at ≡ drop (length asked) (losses_left old asks at)
  pub answered : All IsAnswered asked
  -- the caller's own entries at the desk are those of the losses
  pub calls : Makes asked desk desk_new
  pub same : new ≡ record old { lost = new.lost }

-- they are all that were left
abbrev pub AreAllLosses : ℕ → List Asked → Kept → Type 0
AreAllLosses now asked s =
    (start number : ℕ) (asks : List SettledAsk) → IsSession s start number asks → asks_of asked ≡ losses_left s asks now
