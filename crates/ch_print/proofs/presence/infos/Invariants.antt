use Rattle.std.proofs.Common.{◌≡◌, map, take}
use Rattle.std.specs.Prelude.{string_bytes}
use Rattle.ch_base.specs.PresenceData.{info_of}
use Rattle.ch_print.proofs.presence.infos.Given as goal

abbrev pub invariant-loop-row : goal.invariant-loop-row
invariant-loop-row l = map string_bytes l.infos.items ≡ map info_of (take l.row-index l.rows)
