-- A connection that is silent, and what is due then.
use Rattle.std.specs.Prelude.{◌≡◌, Some}
use Rattle.ch_rate.specs.Quiet.{Quiet, quiet_from, due_of, quiet_after}
use Rattle.ch_rate.specs.declared.activity.Due.TheVariants.{Nothing, Ping, Expired}

-- heard at the moment 0, and pinged at 120,000
abbrev pub pinged : Quiet
pinged = record { heard = 0; pinged = Some 120000 }

pub record QuietExamples : Type 0 where
  pub quiet : due_of (quiet_from 0) 119999 ≡ Nothing
  pub two_minutes : due_of (quiet_from 0) 120000 ≡ Ping
  pub ping_is_out : quiet_after (quiet_from 0) 120000 ≡ pinged
  pub nothing_is_out : quiet_after (quiet_from 0) 119999 ≡ quiet_from 0
  pub one_ping : due_of pinged 149999 ≡ Nothing
  pub no_answer : due_of pinged 150000 ≡ Expired
  pub answered : due_of (quiet_from 140000) 150000 ≡ Nothing
