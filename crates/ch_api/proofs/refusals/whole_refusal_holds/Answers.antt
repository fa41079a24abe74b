use Rattle.std.proofs.Common.{refl}
use Rattle.std.specs.Fmt.{digits}
use Rattle.ch_base.specs.Escape.{escaped_byte, quoted}
use Rattle.ch_api.proofs.refusals.whole_refusal_holds.Goals as goal

pub returns : goal.returns
unfolding digits escaped_byte quoted
returns c = refl
