-- The worked bodies hold, by computing.
use Rattle.std.proofs.Common.{refl}
use Rattle.std.specs.Fmt.{digits}
use Rattle.ch_base.specs.Escape.{escaped_byte, quoted}
use Rattle.ch_webhooks.specs.Examples.{Bodies}

pub bodies : Bodies
unfolding quoted escaped_byte digits
bodies = record { existence = refl; member = refl; number = refl; string = refl }
