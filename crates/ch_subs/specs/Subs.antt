-- The open subscriptions of all channels, the oldest first, and what each call leaves of them.
use Rattle.std.specs.Prelude.{ℕ, not, ◌&&◌, ◌==◌, List, [], ◌∷◌, ◌++◌, bytes_eq, Option, filter, map, if◌then◌else◌}
use Rattle.ch_base.specs.declared.channel.Member.{Member}
use Rattle.ch_history.specs.declared.rows.Subscription.{Subscription}
use Rattle.ch_history.specs.Subscriptions.{is_on, on_channel}
use Rattle.ch_index.specs.declared.holder.Holder.{Holder}
use Rattle.ch_index.specs.Holders.{holder_of}

-- the subscription of the socket to the channel c
abbrev pub subscription : ℕ → List ℕ → ℕ → Option Member → Subscription
subscription socket c owner member = record { channel = c; socket = socket; owner = owner; member = member }

-- with this one at the end, unless its socket is on its channel
abbrev pub joined : List Subscription → Subscription → List Subscription
joined xs s = if is_on xs s.socket s.channel then xs else xs ++ s ∷ []

-- without the socket's to the channel c
abbrev pub without_one : List Subscription → ℕ → List ℕ → List Subscription
without_one xs socket c = filter (λ s. not ((s.socket == socket) && bytes_eq s.channel c)) xs

-- without the socket's
abbrev pub without_all : List Subscription → ℕ → List Subscription
without_all xs socket = filter (λ s. not (s.socket == socket)) xs

-- the sockets that are subscribed to the channel c, each with its owner
abbrev pub holders_in : List Subscription → List ℕ → List Holder
holders_in xs c = map (holder_of (λ s. s.socket) (λ s. s.owner)) (on_channel xs c)
