-- Frames on their way: each with its socket, and the caller that hands it over.
use Rattle.std.specs.Prelude.{ℕ, ◌==◌, List, filter, map}
use Rattle.ch_base.specs.declared.frame.Frame.{Frame}
use Rattle.ch_base.specs.declared.frame.FrameFor.{FrameFor}
use Rattle.ch_history.specs.declared.rows.Delivery.{Delivery}

-- the owner hands the frame to the socket
abbrev pub delivery : ℕ → ℕ → Frame → Delivery
delivery owner socket frame = record { owner = owner; item = record { socket = socket; frame = frame } }

-- the frames among these that the caller w hands over, each with its socket
abbrev pub for_owner : ℕ → List Delivery → List FrameFor
for_owner w ds = map (λ d. d.item) (filter (λ d. d.owner == w) ds)
