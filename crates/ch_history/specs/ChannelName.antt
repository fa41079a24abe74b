-- Channel names, and the kind of channel that the beginning of a name decides (Pusher Channels documentation, Channels:
-- "Channel naming conventions" and the pages of the channel types).
use Rattle.std.specs.Prelude.{ℕ, Bool, true, false, ◌&&◌, ◌||◌, List, length, nat_eq, nat_le, codes, if◌then◌else◌}
use Rattle.std.specs.List.{list_any, list_all, starts_with}
use Rattle.ch_history.specs.declared.limits.TheConstants.{MAX_NAME}

-- the eight kinds of channel
pub data Kind : Type 0 where
  Public : Kind
  Private : Kind
  Presence : Kind
  Encrypted : Kind
  Cache : Kind
  PrivateCache : Kind
  PresenceCache : Kind
  EncryptedCache : Kind

-- whether the name begins with the prefix
abbrev pub begins : List ℕ → List ℕ → Bool
begins prefix name = starts_with nat_eq name prefix

-- the kind of the longest prefix with which the name begins: the longer ones are tried first
abbrev pub kind_of : List ℕ → Kind
kind_of name =
    if begins (codes "private-encrypted-cache-") name then EncryptedCache
    else if begins (codes "private-encrypted-") name then Encrypted
    else if begins (codes "presence-cache-") name then PresenceCache
    else if begins (codes "private-cache-") name then PrivateCache
    else if begins (codes "presence-") name then Presence
    else if begins (codes "private-") name then Private
    else if begins (codes "cache-") name then Cache
    else Public

-- a subscription to a channel of this kind has to be authorized
abbrev pub needs_auth : Kind → Bool
needs_auth Public = false
needs_auth Cache = false
needs_auth _ = true

-- a channel of this kind has members
abbrev pub has_members : Kind → Bool
has_members Presence = true
has_members PresenceCache = true
has_members _ = false

-- a channel of this kind keeps its latest event
abbrev pub keeps_event : Kind → Bool
keeps_event Cache = true
keeps_event PrivateCache = true
keeps_event PresenceCache = true
keeps_event EncryptedCache = true
keeps_event _ = false

-- a socket may send client events on a channel of this kind
abbrev pub may_say : Kind → Bool
may_say Private = true
may_say Presence = true
may_say PrivateCache = true
may_say PresenceCache = true
may_say _ = false

-- whether the channel has members
abbrev pub is_presence : List ℕ → Bool
is_presence name = has_members (kind_of name)

-- whether the channel keeps its latest event
abbrev pub is_cache : List ℕ → Bool
is_cache name = keeps_event (kind_of name)

-- a letter, a digit, or one of _ - = @ , . ;
abbrev pub is_name_byte : ℕ → Bool
is_name_byte x =
    (nat_le 65 x && nat_le x 90) || (nat_le 97 x && nat_le x 122) || (nat_le 48 x && nat_le x 57)
    || list_any (nat_eq x) (codes "_-=@,.;")

-- 1 to `MAX_NAME` bytes of the alphabet
abbrev pub is_good_name : List ℕ → Bool
is_good_name name = nat_le 1 (length name) && nat_le (length name) MAX_NAME && list_all is_name_byte name
