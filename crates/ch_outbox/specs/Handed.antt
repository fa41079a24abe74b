-- The frames for many sockets.
use Rattle.std.specs.Prelude.{ℕ, List, Option, filter, map}
use Rattle.ch_base.specs.declared.frame.Frame.{Frame}
use Rattle.ch_history.specs.declared.rows.Delivery.{Delivery}
use Rattle.ch_history.specs.Deliveries.{delivery}
use Rattle.ch_history.specs.Frames.{is_other}
use Rattle.ch_index.specs.declared.holder.Holder.{Holder}

-- the frame for each of these sockets but the excepted one
abbrev pub handed : Frame → Option ℕ → List Holder → List Delivery
handed frame except hs = map (λ h. delivery h.owner h.socket frame) (filter (λ h. is_other except h.socket) hs)
