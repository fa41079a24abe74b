-- The latest event of a cache channel (Pusher Channels documentation, Cache channels), and how long it is kept.
use Rattle.std.specs.Prelude.{ℕ, ◌+◌, ◌-◌, List, [], ◌∷◌, bytes_eq, nat_lt, Option, Some, None, option_map, if◌then◌else◌}
use Rattle.std.specs.Int.{div_ceil}
use Rattle.ch_base.specs.declared.channel.CacheRow.{CacheRow}
use Rattle.ch_base.specs.declared.channel.ChanCall.{ChanCall}
use Rattle.ch_base.specs.declared.channel.ChanCall.TheVariants.{Publish}
use Rattle.ch_history.specs.declared.limits.TheConstants.{CACHED_FOR}
use Rattle.ch_history.specs.declared.rows.Cached.{Cached}
use Rattle.ch_history.specs.Entries.{ChanHistory}
use Rattle.ch_history.specs.ChannelName.{is_cache}
use Rattle.ch_history.specs.Clock.{clock_with, clock}

-- what the call publishes on the channel c; stamp: the clock with this call
abbrev pub published : List ℕ → ℕ → ChanCall → Option Cached
published c stamp (Publish channel event body except at) =
    if bytes_eq channel c then Some (record { event = event; body = body; ends = stamp + CACHED_FOR }) else None
published c stamp _ = None

-- the later of two, where it is there
abbrev pub latter : Option Cached → Option Cached → Option Cached
latter earlier (Some x) = Some x
latter earlier None = earlier

-- what the last Publish on the channel c had; before: the clock before the entries
abbrev pub last_published : List ℕ → ℕ → ChanHistory → Option Cached
last_published c before [] = None
last_published c before (e ∷ later) =
    latter (published c (clock_with before e.call) e.call) (last_published c (clock_with before e.call) later)

-- the event, where it hasn't ended by the moment
abbrev pub lasting : ℕ → Option Cached → Option Cached
lasting now None = None
lasting now (Some x) = if nat_lt now x.ends then Some x else None

-- what is kept at the moment where another event was published since, or none
abbrev pub renewed : ℕ → Option Cached → Option Cached → Option Cached
renewed now kept None = kept
renewed now kept (Some x) = lasting now (Some x)

-- the event that the channel keeps at the moment, where it is of a cache kind
abbrev pub latest_at : ChanHistory → List ℕ → ℕ → Option Cached
latest_at h c now = if is_cache c then lasting now (last_published c 0 h) else None

-- the event that it keeps when the call is made after h: at the clock with this call
abbrev pub latest : ChanHistory → ChanCall → List ℕ → Option Cached
latest h call c = latest_at h c (clock_with (clock h) call)

-- the event's body, and the seconds for which it is kept from the moment on, rounded up
abbrev pub cache_row : ℕ → Cached → CacheRow
cache_row now x = record { body = x.body; ttl = div_ceil (x.ends - now) 1000 }

-- the same of the event that the channel keeps when the call is made
abbrev pub latest_row : ChanHistory → ChanCall → List ℕ → Option CacheRow
latest_row h call c = option_map (cache_row (clock_with (clock h) call)) (latest h call c)
