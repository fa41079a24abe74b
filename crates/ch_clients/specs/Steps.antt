-- A client's turn at its place, and then what becomes of the client. (Of private functions.)
use Rattle.std.specs.Prelude.{◌≡◌, ◌+◌, ◌++◌, ℕ, List, Option, Some, length, slice_get, slice_set, All}
use Rattle.std.specs.List.{remove}
use Rattle.ch_config.specs.declared.config.Config.{Config}
use Rattle.ch_desk.specs.Views.{DeskView}
use Rattle.ch_exchange.specs.Turns as exchange
use Rattle.ch_exchange.specs.declared.stage.Stage.{Stage}
use Rattle.ch_exchange.specs.declared.turn.ExTurn.{ExTurn}
use Rattle.ch_exchange.specs.declared.turn.ExTurn.TheVariants as ex
use Rattle.ch_live.specs.Courses.{Course}
use Rattle.ch_live.specs.Peers.{IsPeerOver}
use Rattle.ch_live.specs.Turns.{IsTurn}
use Rattle.ch_live.specs.declared.peer.Peer.{Peer}
use Rattle.ch_live.specs.declared.turn.Turn.{Turn}
use Rattle.ch_live.specs.declared.turn.Turn.TheVariants as live
use Rattle.ch_net.specs.Links.{LinkTold}
use Rattle.ch_net.specs.Wires.{WireTold}
use Rattle.ch_net.specs.declared.wire.Message.{Message}
use Rattle.ch_clients.specs.Clients.{Client, Speech, Http, WebSocket, MaySpeak, MayTurn}
use Rattle.ch_clients.specs.Passes.{replaced}
use Rattle.ch_clients.specs.Serving.{Setting, serving_of, IsFateOfEnded, IsFateOfUpgrade, Fate, Dropped, client_of, leaver_of}
use Rattle.ch_clients.specs.Serving as becomes
use Rattle.ch_clients.specs.declared.client.Step.{Step}
use Rattle.ch_clients.specs.declared.server.Server.{Server}
use Rattle.ch_clients.specs.declared.client.Step.TheVariants.{Stays, Upgrades, Ends}
use Rattle.ch_clients.specs.declared.answer.WorkerTurn.{WorkerTurn}
use Rattle.ch_clients.specs.declared.answer.WorkerTurn.TheVariants.{Idle, Moved, Memory}

-- what clients are served with at a moment
abbrev pub setting_with : Server → ℕ → (Option (List ℕ) → List ℕ → Option (List Message)) → Setting
setting_with server now messages = record { config = server.config; start = server.start; now = now; messages = messages }

-- ---- the turn

abbrev pub step_of_live : Turn → Step
step_of_live live.Moved = Stays Moved
step_of_live live.Idle = Stays Idle
step_of_live live.Memory = Stays Memory
step_of_live (live.Ended e) = Ends

abbrev pub step_of_exchange : ExTurn → Step
step_of_exchange ex.Moved = Stays Moved
step_of_exchange ex.Idle = Stays Idle
step_of_exchange (ex.Upgrade target) = Upgrades target
step_of_exchange _ = Ends

-- the turn of an exchange, by which this is its step
pub record IsHttpStep (s : Setting) (stage stage_new : Stage) (link link_new : LinkTold) (old new : DeskView) (step : Step) : Type 0 where
  pub course : exchange.Course
  pub result : ExTurn
  pub turn : exchange.TakesCourse (serving_of s) course (record { stage = stage; link = link; desk = old })
      (record { stage = stage_new; link = link_new; desk = new }) result
  pub comes : step ≡ step_of_exchange result

-- the same of a live socket
pub record IsLiveStep (s : Setting) (peer peer_new : Peer) (wire wire_new : WireTold) (old new : DeskView) (step : Step) : Type 0 where
  pub course : Course
  pub result : Turn
  pub turn : IsTurn s.config s.now course peer peer_new wire wire_new old new result
  pub comes : step ≡ step_of_live result

-- the turn of a client that speaks so, and which still does
abbrev pub IsSpeechStep : Setting → Speech → Speech → DeskView → DeskView → Step → Type 0
IsSpeechStep s (Http stage link) (Http stage_new link_new) old new step = IsHttpStep s stage stage_new link link_new old new step
IsSpeechStep s (WebSocket peer wire) (WebSocket peer_new wire_new) old new step = IsLiveStep s peer peer_new wire wire_new old new step
IsSpeechStep s _ _ old new step = ⊥

pub record IsStep (s : Setting) (before after : Client) (old new : DeskView) (step : Step) : Type 0 where
  pub number : after.number ≡ before.number
  pub speech : IsSpeechStep s before.speech after.speech old new step

-- after the step a client that stays may go on, an exchange may be over, and a session is over its shards
abbrev pub MayFollow : Config → Step → Speech → Type 0
MayFollow config (Stays part) speech = MaySpeak config speech
MayFollow config (Upgrades target) (Http stage link) = Unit {0}
MayFollow config (Upgrades target) (WebSocket peer wire) = ⊥
MayFollow config Ends (Http stage link) = Unit {0}
MayFollow config Ends (WebSocket peer wire) = IsPeerOver config peer

-- the step of the client at a place; the others stay as they are
pub record IsStepAt (s : Setting) (place : ℕ) (clients clients_new : List Client) (old new : DeskView) (step : Step) : Type 0 where
  pub before : Client
  pub after : Client
  pub there : slice_get clients place ≡ Some before
  pub set : clients_new ≡ slice_set clients place after
  pub steps : IsStep s before after old new step
  pub follows : MayFollow s.config step after.speech

-- ---- what becomes of the client

-- what becomes of a client that ended
abbrev pub IsFateOfEnd : Speech → Fate → Type 0
IsFateOfEnd (Http stage link) fate = fate ≡ Dropped
IsFateOfEnd (WebSocket peer wire) fate = IsFateOfEnded peer fate

-- what becomes of a client whose handshake's reply was written
abbrev pub IsFateOfHandshake : Setting → ℕ → List ℕ → Speech → WorkerTurn → Fate → Type 0
IsFateOfHandshake s number target (Http stage link) part fate = IsFateOfUpgrade s number target stage link part fate
IsFateOfHandshake s number target (WebSocket peer wire) part fate = ⊥

-- what becomes of the client after its turn, and what the turn comes to
abbrev pub Becomes : Setting → Client → Step → WorkerTurn → Fate → Type 0
Becomes s c (Stays turn) part fate = (part ≡ turn) × (fate ≡ becomes.Stays c)
Becomes s c (Upgrades target) part fate = IsFateOfHandshake s c.number target c.speech part fate
Becomes s c Ends part fate = (part ≡ Moved) × IsFateOfEnd c.speech fate

-- The fate of a client at a place: it is kept, is put among those who leave, or is dropped. next: the place of the next one.
pub record HasFate (place : ℕ) (fate : Fate) (clients clients_new : List Client) (leaving leaving_new : List Peer) (next : ℕ) : Type 0 where
  pub keeps : clients_new ≡ replaced place (client_of fate) clients
  pub leaves : leaving_new ≡ leaving ++ leaver_of fate
  pub follows : next ≡ place + length (client_of fate)

-- the clients after the one at a place took a step: the others may take their turn, and what becomes of this one may follow
pub record MayGoOn (config : Config) (place : ℕ) (step : Step) (clients : List Client) : Type 0 where
  pub others : All (MayTurn config) (remove clients place)
  pub follows : (client : Client) → slice_get clients place ≡ Some client → MayFollow config step client.speech
