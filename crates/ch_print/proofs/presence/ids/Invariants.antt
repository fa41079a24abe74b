use Rattle.std.proofs.Common.{◌≡◌, map, take}
use Rattle.std.specs.Prelude.{string_bytes}
use Rattle.ch_base.specs.PresenceData.{id_of}
use Rattle.ch_print.proofs.presence.ids.Given as goal

abbrev pub invariant-loop-row : goal.invariant-loop-row
invariant-loop-row l = map string_bytes l.ids.items ≡ map id_of (take l.row-index l.rows)
