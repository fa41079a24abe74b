-- How far a transcript has come: its sockets, its shards and its webhooks.
use Rattle.std.specs.Prelude.{ℕ, ◌-◌, ◌&&◌, Bool, false, nat_le, List, [], length, slice_index_or, slice_set}
use Rattle.ch_rate.specs.Quiet.{Quiet, quiet_from}
use Rattle.ch_protocol.specs.Settling.{SettledAsk}
use Rattle.ch_protocol.specs.Shards.{Shards, no_calls}
use Rattle.ch_base.specs.declared.webhook.Hook.{Hook}

-- a socket: whether its connection is open, how long it was silent, and its settled asks
pub record Socket : Type 0 where
  pub is_open : Bool
  pub quiet : Quiet
  pub asks : List SettledAsk

-- the webhook events that were taken and aren't cut yet, and the number of the next batch; each batch that was made is sent
pub record Webhooks : Type 0 where
  pub uncut : List Hook
  pub next : ℕ

abbrev pub no_webhooks : Webhooks
no_webhooks = record { uncut = []; next = 1 }

-- the moment of the last line, the sockets in order, of which the first has number 1, the shards, and the webhooks
pub record Progress : Type 0 where
  pub at : ℕ
  pub sockets : List Socket
  pub shards : Shards
  pub webhooks : Webhooks

abbrev pub beginning : Progress
beginning = record { at = 0; sockets = []; shards = no_calls; webhooks = no_webhooks }

-- what a line writes, and how far the transcript has come then
pub record Played : Type 0 where
  pub text : List ℕ
  pub next : Progress

-- nothing is written
abbrev pub quietly : Progress → Played
quietly p = record { text = []; next = p }

abbrev pub closed : Socket → Socket
closed s = record { is_open = false; quiet = s.quiet; asks = s.asks }

abbrev pub no_socket : Socket
no_socket = record { is_open = false; quiet = quiet_from 0; asks = [] }

abbrev pub has_socket : List Socket → ℕ → Bool
has_socket sockets number = nat_le 1 number && nat_le number (length sockets)

abbrev pub socket_of : List Socket → ℕ → Socket
socket_of sockets number = slice_index_or sockets (number - 1) no_socket

-- whether there is this socket, and its connection is open
abbrev pub is_live : List Socket → ℕ → Bool
is_live sockets number = has_socket sockets number && (socket_of sockets number).is_open

-- the sockets with this one in another state
abbrev pub with_socket : List Socket → ℕ → Socket → List Socket
with_socket sockets number s = slice_set sockets (number - 1) s
