-- How long a connection may be silent: it is pinged, and closed where it doesn't answer.
use Rattle.std.specs.Prelude.{ℕ, ◌+◌, nat_le, Option, None, Some, if◌then◌else◌}
use Rattle.ch_rate.specs.declared.limits.TheConstants.{SILENCE, PATIENCE}
use Rattle.ch_rate.specs.declared.activity.Due.{Due}
use Rattle.ch_rate.specs.declared.activity.Due.TheVariants.{Nothing, Ping, Expired}

-- when a connection was last heard, and since when a ping is out
pub record Quiet : Type 0 where
  pub heard : ℕ
  pub pinged : Option ℕ

-- just heard, with no ping out
abbrev pub quiet_from : ℕ → Quiet
quiet_from now = record { heard = now; pinged = None }

-- what is due now: with no ping out, a ping where the silence is long enough; with one out since a moment, the end where
-- the patience is over
abbrev pub due_by : ℕ → Option ℕ → ℕ → Due
due_by heard None now = if nat_le (heard + SILENCE) now then Ping else Nothing
due_by heard (Some since) now = if nat_le (since + PATIENCE) now then Expired else Nothing

-- what a connection of this quiet is due now
abbrev pub due_of : Quiet → ℕ → Due
due_of quiet now = due_by quiet.heard quiet.pinged now

-- the ping that is out after what was due was done
abbrev pub ping_after : Option ℕ → ℕ → Due → Option ℕ
ping_after pinged now Ping = Some now
ping_after pinged now _ = pinged

-- a ping that is due is then out since now; nothing else changes
abbrev pub quiet_after : Quiet → ℕ → Quiet
quiet_after quiet now = record { heard = quiet.heard; pinged = ping_after quiet.pinged now (due_of quiet now) }
