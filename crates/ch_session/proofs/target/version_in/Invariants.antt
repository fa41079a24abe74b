use Rattle.std.proofs.Common.{◌≡◌}
use Rattle.std.specs.Prelude.{codes}
use Rattle.form_urlencoded.specs.Parse.{raw_pairs_left}
use Rattle.ch_protocol.specs.Targets.{version_in, first_value}
use Rattle.ch_session.proofs.target.version_in.Given as goal

abbrev pub invariant-members : goal.invariant-members
invariant-members l = version_in l.fn.query ≡ first_value (codes "protocol") (raw_pairs_left l.name-iterator)
