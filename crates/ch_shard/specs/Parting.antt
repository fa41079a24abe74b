-- What the end of a socket's subscription to a channel makes, by the channel's subscriptions before it.
use Rattle.std.specs.Prelude.{ℕ, Bool, false, not, ◌==◌, List, [], ◌∷◌, Option, Some, None, bytes_eq, filter, map, if◌then◌else◌}
use Rattle.ch_base.specs.declared.channel.Member.{Member}
use Rattle.ch_base.specs.declared.frame.Frame.TheVariants.{Removed}
use Rattle.ch_base.specs.declared.webhook.Hook.{Hook}
use Rattle.ch_base.specs.declared.webhook.Hook.TheVariants as hook
use Rattle.ch_history.specs.declared.rows.Subscription.{Subscription}
use Rattle.ch_history.specs.declared.rows.Delivery.{Delivery}
use Rattle.ch_history.specs.Subscriptions.{on_channel}
use Rattle.ch_history.specs.Presence.{user_in}
use Rattle.ch_history.specs.Frames.{to, is_gone, member_removed_frames}
use Rattle.ch_history.specs.Webhooks.{parting}

-- whether the member is the user
abbrev pub is_user : List ℕ → Option Member → Bool
is_user id None = false
is_user id (Some m) = bytes_eq m.user_id id

-- the subscriptions of other sockets
abbrev pub others : List Subscription → ℕ → List Subscription
others xs socket = filter (λ s. not (s.socket == socket)) xs

-- the user, where it was there before and is not after
abbrev pub gone_of : List ℕ → List Subscription → List Subscription → Option (List ℕ) → Option (List ℕ)
gone_of c before after None = None
gone_of c before after (Some id) = if is_gone c before after id then Some id else None

-- the user of the socket, where it is gone from c with this socket
abbrev pub gone_user : List ℕ → List Subscription → ℕ → Option (List ℕ)
gone_user c xs socket = gone_of c xs (others xs socket) (user_in xs socket)

-- where a user is gone, each subscription that is left hears of it
abbrev pub farewell : List ℕ → Option (List ℕ) → List Subscription → List Delivery
farewell c None after = []
farewell c (Some id) after = map (to (Removed c id)) after

-- the webhook event of a user that is gone
abbrev pub farewell_hook : List ℕ → Option (List ℕ) → List Hook
farewell_hook c None = []
farewell_hook c (Some id) = hook.Removed c id ∷ []

-- the webhook event of a channel without other sockets
abbrev pub vacated_hook : List ℕ → Bool → List Hook
vacated_hook c has_other = if has_other then [] else hook.Vacated c ∷ []

-- the frames of the end of the socket's subscription to c
abbrev pub leave_frames : List Subscription → List ℕ → ℕ → List Delivery
leave_frames xs c socket = member_removed_frames c (on_channel xs c) (others (on_channel xs c) socket) socket

-- and its webhook events
abbrev pub leave_hooks : List Subscription → List ℕ → ℕ → List Hook
leave_hooks xs c socket = parting c (on_channel xs c) (others (on_channel xs c) socket) socket
