-- The frames that a call makes, by the sign-ins and the watches before it.
use Rattle.std.specs.Prelude.{ℕ, ◌<◌, false, List, Option, All, filter, map}
use Rattle.ch_base.specs.declared.frame.Frame.{Frame}
use Rattle.ch_base.specs.declared.limits.TheConstants.{MAX_CALLERS}
use Rattle.ch_history.specs.declared.rows.UserSocket.{UserSocket}
use Rattle.ch_history.specs.declared.rows.Delivery.{Delivery}
use Rattle.ch_history.specs.Frames.{is_other}
use Rattle.ch_history.specs.UserFrames.{to_socket, tell_watchers}
use Rattle.ch_watch.specs.Watches.{SignsAndWatches, without}

-- each owner is a caller's number
pub record HasOwners (w : SignsAndWatches) : Type 0 where
  pub signs : All (λ r. r.owner < MAX_CALLERS) w.signs
  pub watches : All (λ r. r.owner < MAX_CALLERS) w.watches

-- the frame for each of these sockets but the excepted one
abbrev pub told : Frame → Option ℕ → List UserSocket → List Delivery
told frame except xs = map (to_socket frame) (filter (λ r. is_other except r.socket) xs)

-- what the end of the socket's sign-in as the user makes, after the end of all its watches and sign-ins
abbrev pub farewell : SignsAndWatches → ℕ → List ℕ → List Delivery
farewell w socket user = tell_watchers false (without w.signs socket) (without w.watches socket) user
