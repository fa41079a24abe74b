-- The losses that a live socket owes.
use Rattle.std.specs.Prelude.{◌≡◌, ℕ, List, [], Result, OnErr, OnOk}
use Rattle.ch_base.specs.declared.memory.Memory.{Memory}
use Rattle.ch_config.specs.declared.config.Config.{Config}
use Rattle.ch_desk.specs.OwnEntries.{Makes}
use Rattle.ch_desk.specs.Views.{DeskView, IsDeskOf}
use Rattle.ch_dispatch.specs.Losses.{OwesLoss, MakesLosses, AreAllLosses}
use Rattle.ch_protocol.specs.Asks.{Asked}
use Rattle.ch_live.specs.Peers.{IsPeerOver}
use Rattle.ch_live.specs.declared.peer.Peer.{Peer}
use Rattle.ch_live.specs.declared.peer.Peer.TheVariants.{Open, Refused}

-- the desk has the shards of a configuration, and the session, if one was opened, is over it
pub record MayLose (peer : Peer) (desk : DeskView) : Type 0 where
  pub config : Config
  pub over : IsPeerOver config peer
  pub shards : IsDeskOf config desk

-- the session, if one was opened, has a loss that is still to be made
abbrev pub Owes : Peer → Type 0
Owes (Refused code) = ⊥
Owes (Open c) = OwesLoss c.session

-- these losses were made; on Ok they are all that were left, and where no session was opened there is none
abbrev pub Loses : {T : Type 0} → ℕ → List Asked → Peer → Peer → DeskView → DeskView → Result T Memory → Type 0
Loses now asked (Refused code) (Refused same) desk desk_new result =
    (same ≡ code) × (asked ≡ []) × Makes asked desk desk_new × OnErr result ⊥
Loses now asked (Open c) (Open c_new) desk desk_new result =
    MakesLosses now asked c.session c_new.session desk desk_new × (c_new.backlog ≡ c.backlog)
    × OnOk result (AreAllLosses now asked c.session)
Loses now asked _ _ desk desk_new result = ⊥
