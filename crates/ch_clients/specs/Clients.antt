-- The clients of a worker, as contracts see them.
use Rattle.std.specs.Prelude.{◌≡◌, ◌+◌, ◌≤◌, ◌==◌, ℕ, Bool, nat_le, nat_lt, List, [], ◌∷◌, length, All, if◌then◌else◌}
use Rattle.std.specs.List.{fold}
use Rattle.std.specs.List.Sorted.{IsNonDecreasingBy}
use Rattle.ch_base.specs.declared.frame.Frame.{Frame}
use Rattle.ch_base.specs.declared.frame.FrameFor.{FrameFor}
use Rattle.ch_clients.specs.declared.limits.TheConstants.{MOST_CLIENTS}
use Rattle.ch_config.specs.Config.{IsConfig}
use Rattle.ch_config.specs.declared.config.Config.{Config}
use Rattle.ch_exchange.specs.Turns.{IsUnfinished}
use Rattle.ch_exchange.specs.declared.stage.Stage.{Stage}
use Rattle.ch_exchange.specs.declared.stage.Stage.TheVariants.{Reading}
use Rattle.ch_live.specs.Peers.{delivered_to, IsPeerOver}
use Rattle.ch_live.specs.declared.peer.Peer.{Peer}
use Rattle.ch_net.specs.Links.{LinkTold}
use Rattle.ch_net.specs.Wires.{WireTold}
use Rattle.ch_net.specs.declared.arrivals.Arrival.{Arrival}

-- How a client speaks: HTTP, by an exchange over a link; or WebSocket, by a live socket over a wire. Of the link and the wire
-- contracts see what they tell.
pub data Speech : Type 0 where
  Http : (stage : Stage) (link : LinkTold) → Speech
  WebSocket : (peer : Peer) (wire : WireTold) → Speech

-- a client, with the number of its connection
pub record Client : Type 0 where
  pub number : ℕ
  pub speech : Speech

-- ---- frames

-- a frame is delivered to a live socket; where there is none, it is dropped
abbrev pub handed : Frame → Speech → Speech
handed frame (Http stage link) = Http stage link
handed frame (WebSocket peer wire) = WebSocket (delivered_to peer frame) wire

-- the client with the socket's number after the frame was handed to it
abbrev pub with_frame : Client → FrameFor → Client
with_frame c f = record { number = c.number; speech = handed f.frame c.speech }

-- the clients after a frame was handed to the first with the socket's number; where there is none, it is dropped
abbrev pub handed_to : List Client → FrameFor → List Client
handed_to [] f = []
handed_to (c ∷ cs) f = if c.number == f.socket then with_frame c f ∷ cs else c ∷ handed_to cs f

-- the same of several frames, in their order
abbrev pub all_handed : List Client → List FrameFor → List Client
all_handed clients frames = fold handed_to clients frames

-- ---- order

-- a client takes its place behind those whose numbers aren't above its own
abbrev pub placed : Client → List Client → List Client
placed client [] = client ∷ []
placed client (c ∷ cs) = if nat_le c.number client.number then c ∷ placed client cs else client ∷ c ∷ cs

-- the numbers ascend; one that comes twice stands beside itself
abbrev pub AreAscending : List Client → Type 0
AreAscending clients = IsNonDecreasingBy (λ c. c.number) clients

-- ---- arrivals

module _ {L : Type 0} where
  -- the client that a connection becomes that came in at the moment now: it speaks HTTP, and nothing was read
  abbrev pub newcomer : (L → LinkTold) → ℕ → Arrival L → Client
  newcomer told now a = record { number = a.number; speech = Http (Reading (record { bytes = []; since = now })) (told a.link) }

-- ---- all of them

-- what they are served with, the second of the server's start, the clients in ascending order of their numbers, and those who
-- leave: their connection ended, and their session has losses that are still to be made
pub record ClientsView : Type 0 where
  pub config : Config
  pub start : ℕ
  pub connected : List Client
  pub leaving : List Peer

-- none is there
abbrev pub no_clients : Config → ℕ → ClientsView
no_clients config start = record { config = config; start = start; connected = []; leaving = [] }

abbrev pub AreNone : ClientsView → Type 0
AreNone c = (c.connected ≡ []) × (c.leaving ≡ [])

-- whether there is room for one more
abbrev pub has_room : ClientsView → Bool
has_room c = nat_lt (length c.connected + length c.leaving) MOST_CLIENTS

-- ---- what holds of all clients between their turns

-- an exchange isn't over, and a session is over the shards of the configuration
abbrev pub MaySpeak : Config → Speech → Type 0
MaySpeak config (Http stage link) = IsUnfinished stage
MaySpeak config (WebSocket peer wire) = IsPeerOver config peer

abbrev pub MayTurn : Config → Client → Type 0
MayTurn config c = MaySpeak config c.speech

-- the configuration is within its bounds, there is room for those who are there, and each may take its turn
pub record AreSound (c : ClientsView) : Type 0 where
  pub config : IsConfig c.config
  pub room : length c.connected + length c.leaving ≤ MOST_CLIENTS
  pub clients : All (MayTurn c.config) c.connected
  pub leaving : All (IsPeerOver c.config) c.leaving
