-- One client's turn, and what becomes of the client.
use Rattle.std.specs.Prelude.{◌≡◌, ◌++◌, ℕ, List, [], ◌∷◌, map, Option, Some, None}
use Rattle.std.specs.List.{flat_map}
use Rattle.ch_config.specs.declared.config.Config.{Config}
use Rattle.ch_desk.specs.Views.{DeskView}
use Rattle.ch_answer.specs.Answers.{Serving}
use Rattle.ch_exchange.specs.Turns.{rest_of}
use Rattle.ch_exchange.specs.Turns as exchange
use Rattle.ch_exchange.specs.declared.stage.Stage.{Stage}
use Rattle.ch_exchange.specs.declared.turn.ExTurn.{ExTurn}
use Rattle.ch_exchange.specs.declared.turn.ExTurn.TheVariants as ex
use Rattle.ch_live.specs.Courses.{Course}
use Rattle.ch_live.specs.Losses.{Owes}
use Rattle.ch_live.specs.Peers.{connection_of}
use Rattle.ch_live.specs.Turns.{IsTurn}
use Rattle.ch_live.specs.declared.peer.Peer.{Peer}
use Rattle.ch_live.specs.declared.peer.Peer.TheVariants.{Open, Refused}
use Rattle.ch_live.specs.declared.turn.Turn.{Turn}
use Rattle.ch_live.specs.declared.turn.Turn.TheVariants as live
use Rattle.ch_net.specs.Links.{LinkTold}
use Rattle.ch_net.specs.Wires.{WireTold, IsNewWire}
use Rattle.ch_net.specs.declared.wire.Message.{Message}
use Rattle.ch_protocol.specs.Asks.{Asked}
use Rattle.ch_protocol.specs.Targets.{target_refusal}
use Rattle.ch_rate.specs.Quiet.{quiet_from}
use Rattle.ch_session.specs.Kept.{Kept, IsSession}
use Rattle.ch_clients.specs.Answers.{strongest}
use Rattle.ch_clients.specs.Clients.{Client, Speech, Http, WebSocket, ClientsView, AreAscending}
use Rattle.ch_clients.specs.InTurn.{InTurn}
use Rattle.ch_clients.specs.declared.answer.WorkerTurn.{WorkerTurn}
use Rattle.ch_clients.specs.declared.answer.WorkerTurn.TheVariants.{Idle, Moved, Memory}

-- what the clients are served with; and the messages behind a handshake's head, by the bytes that are left in a link and those
-- that were read behind it, where they are known
pub record Setting : Type 0 where
  pub config : Config
  pub start : ℕ
  pub now : ℕ
  pub messages : Option (List ℕ) → List ℕ → Option (List Message)

abbrev pub serving_of : Setting → Serving
serving_of s = record { config = s.config; start = s.start; now = s.now }

-- what becomes of a client: it stays, as it then is; it leaves, and its session has losses to make; or it is dropped
pub data Fate : Type 0 where
  Stays : Client → Fate
  Leaves : Peer → Fate
  Dropped : Fate

-- how a client's turn goes: the asks that it makes, what it comes to for the worker's turn, and what becomes of the client
pub record Turned : Type 0 where
  pub asked : List Asked
  pub part : WorkerTurn
  pub fate : Fate

-- ---- a live socket

abbrev pub part_of_live : Turn → WorkerTurn
part_of_live live.Moved = Moved
part_of_live live.Idle = Idle
part_of_live live.Memory = Memory
part_of_live (live.Ended e) = Moved

-- what becomes of one that ended: it leaves where it owes a loss, and is dropped where it doesn't
abbrev pub IsFateOfEnded : Peer → Fate → Type 0
IsFateOfEnded peer (Leaves left) = Owes peer × (left ≡ peer)
IsFateOfEnded peer Dropped = Owes peer → ⊥
IsFateOfEnded peer (Stays client) = ⊥

-- one that didn't end stays
abbrev pub IsFateOfLive : Turn → ℕ → Peer → WireTold → Fate → Type 0
IsFateOfLive (live.Ended e) number peer wire fate = IsFateOfEnded peer fate
IsFateOfLive _ number peer wire fate = fate ≡ Stays (record { number = number; speech = WebSocket peer wire })

-- the turn of the live socket with this number
pub record IsLiveTurn (s : Setting) (number : ℕ) (peer : Peer) (wire : WireTold) (t : Turned) (old new : DeskView) : Type 0 where
  pub course : Course
  pub result : Turn
  pub peer_new : Peer
  pub wire_new : WireTold
  pub turn : IsTurn s.config s.now course peer peer_new wire wire_new old new result
  pub asked : t.asked ≡ course.asked
  pub part : t.part ≡ part_of_live result
  pub fate : IsFateOfLive result number peer_new wire_new t.fate

-- ---- an exchange

-- who the live socket of a handshake's target is: its session is started and its first frame waits, or the target was refused
abbrev pub IsPeerOf : Setting → ℕ → List ℕ → Peer → Type 0
IsPeerOf s number target (Open c) =
    (session : Kept) × (c ≡ connection_of session) × IsSession session s.start number [] × (session.quiet ≡ quiet_from s.now)
    × (target_refusal s.config.key target ≡ None)
IsPeerOf s number target (Refused code) = target_refusal s.config.key target ≡ Some code

-- the live socket of a handshake: its wire is new, and the messages behind the head are those that are left in it
pub record IsUpgraded (s : Setting) (number : ℕ) (target : List ℕ) (stage : Stage) (link : LinkTold) (peer : Peer) (wire : WireTold) : Type 0 where
  pub starts : IsPeerOf s number target peer
  pub fresh : IsNewWire wire
  pub behind : wire.left ≡ s.messages link.left (rest_of stage)

-- after a handshake the client speaks WebSocket; where there was no memory for that, it is dropped
abbrev pub IsFateOfUpgrade : Setting → ℕ → List ℕ → Stage → LinkTold → WorkerTurn → Fate → Type 0
IsFateOfUpgrade s number target stage link Moved fate =
    (peer : Peer) × (wire : WireTold) × IsUpgraded s number target stage link peer wire
    × (fate ≡ Stays (record { number = number; speech = WebSocket peer wire }))
IsFateOfUpgrade s number target stage link part fate = (part ≡ Memory) × (fate ≡ Dropped)

-- the part and the fate of a client after its exchange's turn
abbrev pub IsFateOfExchange : Setting → ExTurn → ℕ → Stage → LinkTold → WorkerTurn → Fate → Type 0
IsFateOfExchange s ex.Moved number stage link part fate =
    (part ≡ Moved) × (fate ≡ Stays (record { number = number; speech = Http stage link }))
IsFateOfExchange s ex.Idle number stage link part fate =
    (part ≡ Idle) × (fate ≡ Stays (record { number = number; speech = Http stage link }))
IsFateOfExchange s (ex.Upgrade target) number stage link part fate = IsFateOfUpgrade s number target stage link part fate
IsFateOfExchange s _ number stage link part fate = (part ≡ Moved) × (fate ≡ Dropped)

-- the turn of the exchange with this number
pub record IsHttpTurn (s : Setting) (number : ℕ) (stage : Stage) (link : LinkTold) (t : Turned) (old new : DeskView) : Type 0 where
  pub course : exchange.Course
  pub result : ExTurn
  pub stage_new : Stage
  pub link_new : LinkTold
  pub turn : exchange.TakesCourse (serving_of s) course (record { stage = stage; link = link; desk = old })
      (record { stage = stage_new; link = link_new; desk = new }) result
  pub asked : t.asked ≡ course.asked
  pub fate : IsFateOfExchange s result number stage_new link_new t.part t.fate

-- ---- any client

-- the turn of the client with this number that speaks so, from this desk to that one
abbrev pub SpeaksInTurn : Setting → ℕ → Speech → Turned → DeskView → DeskView → Type 0
SpeaksInTurn s number (Http stage link) t old new = IsHttpTurn s number stage link t old new
SpeaksInTurn s number (WebSocket peer wire) t old new = IsLiveTurn s number peer wire t old new

abbrev pub IsServed : Setting → Client → Turned → DeskView → DeskView → Type 0
IsServed s c t old new = SpeaksInTurn s c.number c.speech t old new

-- ---- all clients

abbrev pub setting_of : ClientsView → ℕ → (Option (List ℕ) → List ℕ → Option (List Message)) → Setting
setting_of c now messages = record { config = c.config; start = c.start; now = now; messages = messages }

abbrev pub client_of : Fate → List Client
client_of (Stays client) = client ∷ []
client_of _ = []

abbrev pub leaver_of : Fate → List Peer
leaver_of (Leaves peer) = peer ∷ []
leaver_of _ = []

-- those who stay, and those who leave, in their order
abbrev pub staying : List Turned → List Client
staying turns = flat_map (λ t. client_of t.fate) turns

abbrev pub leavers : List Turned → List Peer
leavers turns = flat_map (λ t. leaver_of t.fate) turns

-- each client has its turn at the moment now, ascending by number
pub record ServesEach (s : Setting) (turns : List Turned) (c c_new : ClientsView) (old new : DeskView) (result : WorkerTurn) : Type 0 where
  pub each : InTurn (IsServed s) c.connected turns old new
  pub ascending : AreAscending c.connected
  pub clients : c_new ≡ record c { connected = staying turns; leaving = c.leaving ++ leavers turns }
  pub answer : result ≡ strongest (map (λ t. t.part) turns)
