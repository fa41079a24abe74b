-- How a client's protocol is seen.
use Rattle.ch_net.specs.Links.{LinkTold}
use Rattle.ch_net.specs.Wires.{WireTold}
use Rattle.ch_clients.specs.Clients.{Speech}
use Rattle.ch_clients.specs.Clients as clients
use Rattle.ch_clients.specs.declared.client.Protocol.{Protocol}
use Rattle.ch_clients.specs.declared.client.Protocol.TheVariants.{Http, WebSocket}

module _ {L W : Type 0} where
  -- of the link and the wire, what they tell
  abbrev pub spoken : (L → LinkTold) → (W → WireTold) → Protocol L W → Speech
  spoken link_told wire_told (Http exchange) = clients.Http exchange.stage (link_told exchange.link)
  spoken link_told wire_told (WebSocket live) = clients.WebSocket live.peer (wire_told live.wire)
