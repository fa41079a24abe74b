-- How far the frames that wait are sent. (Of private functions.)
use Rattle.std.specs.Prelude.{◌≡◌, ◌≢◌, ℕ, List, [], ◌++◌, map}
use Rattle.ch_base.specs.declared.frame.Frame.{Frame}
use Rattle.ch_io.specs.Counts.{Rose}
use Rattle.ch_io.specs.declared.counts.Counts.{Counts}
use Rattle.ch_net.specs.Wires.{WireTold, WireMoves}
use Rattle.ch_base.specs.Printed.{printed}
use Rattle.ch_live.specs.Backlogs.{Held, still_waiting}
use Rattle.ch_live.specs.declared.sending.Sending.{Sending}
use Rattle.ch_live.specs.declared.sending.Sending.TheVariants.{All, Waiting, Memory, Failed}

-- why sending stopped
abbrev pub StopsAt : Sending → List Frame → Counts → Counts → Type 0
StopsAt All left old new = left ≡ []
StopsAt Waiting left old new = Rose old.stalls new.stalls
StopsAt Memory left old new = left ≢ []
StopsAt Failed left old new = Rose old.faults new.faults

-- the first of the waiting frames were sent, and the others still wait
pub record SendsFirst (start : ℕ) (old new : Held) (wire wire_new : WireTold) (result : Sending) : Type 0 where
  pub sent : List Frame
  pub frames : old.frames ≡ sent ++ new.frames
  pub marks : new ≡ still_waiting old new.frames
  pub moves : WireMoves wire wire_new [] (map (λ f. printed f start) sent) []
  pub stops : StopsAt result new.frames wire.counts wire_new.counts
