-- The connections of a drill.
use Rattle.std.specs.Prelude.{◌≡◌, ℕ, zero, suc, List, [], ◌∷◌, ◌++◌, codes, Some}
use Rattle.ch_net.specs.Arriving.{ArrivalsTold}
use Rattle.ch_net.specs.Links.{LinkTold}
use Rattle.ch_drill.specs.DrillCounts.{channel_of}

-- the head of a handshake (RFC 6455, section 4.1) for the app with the key `k`
unfoldable pub handshake : List ℕ
handshake = codes "GET /app/k?protocol=7 HTTP/1.1\r\nHost: localhost\r\nUpgrade: websocket\r\nConnection: Upgrade\r\nSec-WebSocket-Key: dGhlIHNhbXBsZSBub25jZQ==\r\nSec-WebSocket-Version: 13\r\n\r\n"

-- the messages of a round, each in a line: it subscribes to the round's channel, and unsubscribes
abbrev pub round_text : ℕ → List ℕ
round_text round = codes "{\"event\":\"pusher:subscribe\",\"data\":{\"channel\":\"" ++ channel_of round ++ codes "\"}}\n"
    ++ (codes "{\"event\":\"pusher:unsubscribe\",\"data\":{\"channel\":\"" ++ channel_of round ++ codes "\"}}\n")

-- those of so many rounds
abbrev pub rounds_text : ℕ → List ℕ
rounds_text zero = []
rounds_text (suc round) = rounds_text round ++ round_text round

-- one connection of this number comes in, with the handshake and the messages of so many rounds
abbrev pub HasOneLink : ℕ → ℕ → ArrivalsTold LinkTold → Type 0
HasOneLink number rounds arrivals = (link : LinkTold) × (arrivals.left ≡ Some (record { number = number; link = link } ∷ []))
    × (link.left ≡ Some (handshake ++ rounds_text rounds))
