use Rattle.ch_api.proofs.Timestamps.{no_error}
use Rattle.ch_api.proofs.authorization.is_near_second.Goals as goal

pub returns-in-Err : goal.returns-in-Err
returns-in-Err c = absurd (no_error c.args.value.now c.in-Err.field-0 c.requires c.in-Err.ensures.value.0)
