-- What links and wires over sockets tell of themselves: their counts, how a wire was closed, and no content.
use Rattle.std.specs.Prelude.{None}
use Rattle.ch_io.specs.declared.counts.Counts.{Counts}
use Rattle.ch_net.specs.Links.{LinkTold}
use Rattle.ch_net.specs.Wires.{WireTold}
use Rattle.ch_wswire.specs.declared.tung_wire.TungWire.{TungWire}

-- a link of these counts
abbrev pub link_told : Counts → LinkTold
link_told counts = record { left = None; gave = None; written = None; counts = counts }

-- a wire over tungstenite
abbrev pub wire_told : {S : Type 0} → TungWire S → WireTold
wire_told wire = record { left = None; sent = None; closes = wire.closes; code = wire.code; counts = wire.counts }
