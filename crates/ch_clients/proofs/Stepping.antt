-- A client's turn, and what becomes of the client.
use Rattle.std.proofs.Common.{◌≡◌, ℕ, subst, refl}
use Rattle.ch_desk.specs.Views.{DeskView}
use Rattle.ch_exchange.specs.declared.stage.Stage.{Stage}
use Rattle.ch_exchange.specs.declared.turn.ExTurn.{ExTurn}
use Rattle.ch_exchange.specs.declared.turn.ExTurn.TheVariants as ex
use Rattle.ch_live.specs.declared.peer.Peer.{Peer}
use Rattle.ch_live.specs.declared.turn.Turn.{Turn}
use Rattle.ch_live.specs.declared.turn.Turn.TheVariants as live
use Rattle.ch_net.specs.Links.{LinkTold}
use Rattle.ch_net.specs.Wires.{WireTold}
use Rattle.ch_clients.specs.Clients.{Client, Speech, Http, WebSocket}
use Rattle.ch_clients.specs.Serving.{Setting, Turned, Fate, SpeaksInTurn, IsFateOfLive, IsFateOfExchange, part_of_live}
use Rattle.ch_clients.specs.Steps.{Becomes, IsStep, IsSpeechStep, step_of_live, step_of_exchange}
use Rattle.ch_clients.specs.declared.client.Step.{Step}
use Rattle.ch_clients.specs.declared.answer.WorkerTurn.{WorkerTurn}

becomes_live : (s : Setting) (number : ℕ) (peer : Peer) (wire : WireTold) (r : Turn) (part : WorkerTurn) (fate : Fate)
    → Becomes s (record { number = number; speech = WebSocket peer wire }) (step_of_live r) part fate
    → (part ≡ part_of_live r) × IsFateOfLive r number peer wire fate
becomes_live s number peer wire live.Moved part fate h = h
becomes_live s number peer wire live.Idle part fate h = h
becomes_live s number peer wire live.Memory part fate h = h
becomes_live s number peer wire (live.Ended e) part fate h = h

becomes_exchange : (s : Setting) (number : ℕ) (stage : Stage) (link : LinkTold) (r : ExTurn) (part : WorkerTurn) (fate : Fate)
    → Becomes s (record { number = number; speech = Http stage link }) (step_of_exchange r) part fate
    → IsFateOfExchange s r number stage link part fate
becomes_exchange s number stage link ex.Moved part fate h = h
becomes_exchange s number stage link ex.Idle part fate h = h
becomes_exchange s number stage link (ex.Upgrade target) part fate h = h
becomes_exchange s number stage link ex.Done part fate h = h
becomes_exchange s number stage link ex.Peer part fate h = h
becomes_exchange s number stage link ex.Fault part fate h = h

-- the turn of a client by which it had this part and fate
pub record ServedSo (s : Setting) (number : ℕ) (old : Speech) (a b : DeskView) (part : WorkerTurn) (fate : Fate) : Type 0 where
  pub turned : Turned
  pub served : SpeaksInTurn s number old turned a b
  pub is_part : turned.part ≡ part
  pub is_fate : turned.fate ≡ fate

speech_serves : (s : Setting) (number : ℕ) (old new : Speech) (a b : DeskView) (step : Step) (part : WorkerTurn) (fate : Fate)
    → IsSpeechStep s old new a b step → Becomes s (record { number = number; speech = new }) step part fate
    → ServedSo s number old a b part fate
speech_serves s number (Http stage link) (Http stage_new link_new) a b step part fate h becomes = record {
  turned = record { asked = h.course.asked; part = part; fate = fate };
  served = record {
    course = h.course;
    result = h.result;
    stage_new = stage_new;
    link_new = link_new;
    turn = h.turn;
    asked = refl;
    fate = becomes_exchange s number stage_new link_new h.result part fate
        (subst (λ x. Becomes s (record { number = number; speech = Http stage_new link_new }) x part fate) h.comes becomes);
  };
  is_part = refl;
  is_fate = refl;
}
speech_serves s number (WebSocket peer wire) (WebSocket peer_new wire_new) a b step part fate h becomes =
    let so = becomes_live s number peer_new wire_new h.result part fate
    (subst (λ x. Becomes s (record { number = number; speech = WebSocket peer_new wire_new }) x part fate) h.comes becomes) in
    record {
      turned = record { asked = h.course.asked; part = part; fate = fate };
      served = record {
        course = h.course;
        result = h.result;
        peer_new = peer_new;
        wire_new = wire_new;
        turn = h.turn;
        asked = refl;
        part = so.0;
        fate = so.1;
      };
      is_part = refl;
      is_fate = refl;
    }
speech_serves s number (Http stage link) (WebSocket peer wire) a b step part fate never becomes = absurd never
speech_serves s number (WebSocket peer wire) (Http stage link) a b step part fate never becomes = absurd never

-- the step of a client, and what becomes of it then, are its turn
pub step_serves : (s : Setting) (before after : Client) (a b : DeskView) (step : Step) (part : WorkerTurn) (fate : Fate)
    → IsStep s before after a b step → Becomes s after step part fate → ServedSo s before.number before.speech a b part fate
step_serves s before after a b step part fate h becomes =
    speech_serves s before.number before.speech after.speech a b step part fate h.speech
    (subst (λ n. Becomes s (record { number = n; speech = after.speech }) step part fate) h.number becomes)
