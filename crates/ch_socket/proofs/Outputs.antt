-- A turn whose lines were made apart is the same turn with the lines behind an output.
use Rattle.std.proofs.Common.{◌≡◌, ◌∙◌, ℕ, List, [], ◌++◌, ap}
use Rattle.std.specs.Prelude.{Option}
use Rattle.ch_config.specs.declared.config.Config.{Config}
use Rattle.ch_desk.specs.Views.{DeskView}
use Rattle.ch_protocol.specs.Shards.{Shards}
use Rattle.ch_session.specs.Kept.{Kept}
use Rattle.ch_socket.specs.Sockets.{TakesTurn}
use Rattle.ch_socket.specs.Turns.{HearsAs}
use Rattle.ch_transcript.specs.Progress.{Socket}
use Rattle.ch_transcript.specs.Turns.{Turn}

pub turn_onto : (number : ℕ) (left : Option Kept) (desk : DeskView) (old before lines new : List ℕ) (t : Turn) → before ≡ [] → new ≡ old ++ lines
    → TakesTurn number left desk before lines t → TakesTurn number left desk old new t
turn_onto number left desk old before lines new t empty added turn = record {
  text = added ∙ ap (λ z. old ++ z) (turn.text ∙ ap (λ z. z ++ t.text) empty);
  socket = turn.socket;
  shards = turn.shards;
}

pub heard_onto : (config : Config) (number at : ℕ) (text : List ℕ) (s : Socket) (shards : Shards) (left : Option Kept) (desk : DeskView) (old before lines new : List ℕ)
    → before ≡ [] → new ≡ old ++ lines → HearsAs config number at text s shards left desk before lines → HearsAs config number at text s shards left desk old new
heard_onto config number at text s shards left desk old before lines new empty added (r, reads, turn) =
    (r, reads, turn_onto number left desk old before lines new _ empty added turn)
