use Rattle.std.proofs.Common.{◌≡◌, drop, bytes_eq}
use Rattle.std.specs.Prelude.{◌&&◌}
use Rattle.ch_api.proofs.authorization.is_same.Given as goal

abbrev pub invariant-bytes : goal.invariant-bytes
invariant-bytes l = (l.same && bytes_eq (drop l.i l.given) (drop l.i l.wanted)) ≡ bytes_eq l.given l.wanted
