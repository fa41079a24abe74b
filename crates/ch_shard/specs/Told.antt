-- Frames that many sockets get.
use Rattle.std.specs.Prelude.{ℕ, List, Option, filter, map}
use Rattle.ch_base.specs.declared.frame.Frame.{Frame}
use Rattle.ch_history.specs.declared.rows.Subscription.{Subscription}
use Rattle.ch_history.specs.declared.rows.Delivery.{Delivery}
use Rattle.ch_history.specs.Frames.{to, is_other}

-- the frame for each subscription but that of the excepted socket
abbrev pub told : Frame → Option ℕ → List Subscription → List Delivery
told frame except xs = map (to frame) (filter (λ s. is_other except s.socket) xs)
