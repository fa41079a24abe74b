use Rattle.std.proofs.Common.{◌≡◌, drop}
use Rattle.ch_history.specs.Placement.{fnv_from}
use Rattle.ch_history.specs.declared.limits.TheConstants.{FNV_OFFSET}
use Rattle.ch_names.proofs.placement.shard_of.Given as goal

abbrev pub invariant-bytes : goal.invariant-bytes
invariant-bytes l = fnv_from l.hash (drop l.byte-index l.byte-items) ≡ fnv_from FNV_OFFSET l.name
