-- the kind of channel that a `Kind` stands for
use Rattle.ch_history.specs.ChannelName as channel
use Rattle.ch_names.specs.declared.channel_kind.Kind.{Kind}
use Rattle.ch_names.specs.declared.channel_kind.Kind.TheVariants.{Public, Private, Presence, Encrypted, Cache, PrivateCache, PresenceCache, EncryptedCache}

abbrev pub meaning : Kind → channel.Kind
meaning Public = channel.Public
meaning Private = channel.Private
meaning Presence = channel.Presence
meaning Encrypted = channel.Encrypted
meaning Cache = channel.Cache
meaning PrivateCache = channel.PrivateCache
meaning PresenceCache = channel.PresenceCache
meaning EncryptedCache = channel.EncryptedCache
