-- Who is subscribed after a history (Pusher Channels documentation, Channels protocol, "Subscription events").
use Rattle.std.specs.Prelude.{ℕ, Bool, true, false, ◌&&◌, ◌==◌, List, bytes_eq, Option, Some, None, filter, map, if◌then◌else◌}
use Rattle.std.specs.List.{list_any}
use Rattle.ch_base.specs.declared.channel.ChanCall.{ChanCall}
use Rattle.ch_base.specs.declared.channel.ChanCall.TheVariants.{Join, Leave, Lost}
use Rattle.ch_base.specs.declared.channel.ChanAnswer.{ChanAnswer}
use Rattle.ch_base.specs.declared.channel.ChanAnswer.TheVariants.{Joined}
use Rattle.ch_history.specs.declared.rows.Subscription.{Subscription}
use Rattle.ch_history.specs.Entries.{ChanEntry, ChanHistory}
use Rattle.ch_history.specs.OpenRows.{open_rows, rows_after}
use Rattle.ch_history.specs.Texts.{ascending}

-- whether a Join is answered Joined
abbrev pub is_joined : ChanAnswer → Bool
is_joined Joined = true
is_joined _ = false

-- the subscription that a Join asks for
abbrev pub asked_by : ℕ → ChanCall → Option Subscription
asked_by caller (Join socket channel member at) =
    Some (record { channel = channel; socket = socket; owner = caller; member = member })
asked_by caller _ = None

-- the subscription that the entry opens: a Join that is answered Joined
abbrev pub opened_by : ChanEntry → Option Subscription
opened_by e = if is_joined e.answer then asked_by e.caller e.call else None

-- whether the call joins the channel anew with this socket, leaves it, or loses the socket
abbrev pub is_settled_by : Subscription → ChanAnswer → ChanCall → Bool
is_settled_by s answer (Join socket channel member at) = is_joined answer && (s.socket == socket) && bytes_eq s.channel channel
is_settled_by s answer (Leave socket channel at) = (s.socket == socket) && bytes_eq s.channel channel
is_settled_by s answer (Lost socket at) = s.socket == socket
is_settled_by s answer _ = false

-- whether the entry is a later word on this subscription
abbrev pub settles : Subscription → ChanEntry → Bool
settles s e = is_settled_by s e.answer e.call

-- the open subscriptions of all channels, in the order of their Joins
abbrev pub subscriptions : ChanHistory → List Subscription
subscriptions h = open_rows opened_by settles h

-- the open subscriptions after one more entry
abbrev pub subs_after : List Subscription → ChanEntry → List Subscription
subs_after xs e = rows_after opened_by settles xs e

-- those to the channel c
abbrev pub on_channel : List Subscription → List ℕ → List Subscription
on_channel xs c = filter (λ s. bytes_eq s.channel c) xs

-- whether the socket has one to the channel c
abbrev pub is_on : List Subscription → ℕ → List ℕ → Bool
is_on xs socket c = list_any (λ s. s.socket == socket) (on_channel xs c)

-- the channels of the socket, each once, ascending
abbrev pub channels_in : List Subscription → ℕ → List (List ℕ)
channels_in xs socket = ascending (map (λ s. s.channel) (filter (λ s. s.socket == socket) xs))

-- the open subscriptions to the channel c
abbrev pub subs : ChanHistory → List ℕ → List Subscription
subs h c = on_channel (subscriptions h) c

-- whether the socket is subscribed to the channel c
abbrev pub on : ChanHistory → ℕ → List ℕ → Bool
on h socket c = is_on (subscriptions h) socket c

-- the channels to which the socket is subscribed, ascending
abbrev pub channels_of : ChanHistory → ℕ → List (List ℕ)
channels_of h socket = channels_in (subscriptions h) socket
