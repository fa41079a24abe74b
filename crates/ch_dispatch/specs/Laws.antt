-- What follows from the definitions of a message.
use Rattle.std.specs.Prelude.{◌≡◌, ◌≢◌, ◌⊎◌, ℕ, List, [], ◌∷◌}
use Rattle.ch_base.specs.declared.frame.Frame.{Frame}
use Rattle.ch_base.specs.declared.frame.Frame.TheVariants.{Kill}
use Rattle.ch_protocol.specs.Asks.{Asked}
use Rattle.ch_protocol.specs.Sessions.{Session}
use Rattle.ch_protocol.specs.declared.heard.Settled.{Settled}
use Rattle.ch_dispatch.specs.Messages.{Answers}
use Rattle.ch_dispatch.specs.Outcomes.{frames_in}

-- no frame, or one that is no Kill
abbrev pub IsOneAtMost : List Frame → Type 0
IsOneAtMost frames = (frames ≡ []) ⊎ ((f : Frame) × (frames ≡ f ∷ []) × (f ≢ Kill))

-- a text is answered by one frame at most, which is no Kill
abbrev pub AnsweredOnce : Type 0
AnsweredOnce = (s : Session) (text : List ℕ) (asked : List Asked) (outcomes : List Settled) → Answers s text asked outcomes
    → IsOneAtMost (frames_in outcomes)
