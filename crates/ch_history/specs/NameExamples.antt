-- Channel names, with the kind that each has, and the shards of some names.
use Rattle.std.specs.Prelude.{◌≡◌, true, false, [], codes}
use Rattle.ch_history.specs.ChannelName.{Public, Private, Presence, Encrypted, Cache, PrivateCache, PresenceCache, EncryptedCache, kind_of, is_good_name}
use Rattle.ch_history.specs.Placement.{fnv_from, shard_of}
use Rattle.ch_history.specs.declared.limits.TheConstants.{FNV_OFFSET}

-- each kind, by the beginning of the name; the rest may be empty
pub record KindExamples : Type 0 where
  pub public : kind_of (codes "chat") ≡ Public
  pub private : kind_of (codes "private-chat") ≡ Private
  pub presence : kind_of (codes "presence-chat") ≡ Presence
  pub encrypted : kind_of (codes "private-encrypted-chat") ≡ Encrypted
  pub cache : kind_of (codes "cache-chat") ≡ Cache
  pub private_cache : kind_of (codes "private-cache-chat") ≡ PrivateCache
  pub presence_cache : kind_of (codes "presence-cache-chat") ≡ PresenceCache
  pub encrypted_cache : kind_of (codes "private-encrypted-cache-") ≡ EncryptedCache
  pub upper_case : kind_of (codes "Private-chat") ≡ Public
  pub no_dash : kind_of (codes "presence") ≡ Public

pub record NameExamples : Type 0 where
  pub alphabet : is_good_name (codes "aZ09_-=@,.;") ≡ true
  pub empty : is_good_name [] ≡ false
  pub blank : is_good_name (codes "a b") ≡ false
  pub user_channel : is_good_name (codes "#server-to-user-u") ≡ false

-- the test values of the FNV draft, and the shards that follow from them
pub record PlaceExamples : Type 0 where
  pub empty : fnv_from FNV_OFFSET [] ≡ 0xcbf29ce484222325
  pub a : fnv_from FNV_OFFSET (codes "a") ≡ 0xaf63dc4c8601ec8c
  pub foobar : fnv_from FNV_OFFSET (codes "foobar") ≡ 0x85944171f73967e8
  pub of_a : shard_of (codes "a") 4 ≡ 0
  pub of_foobar : shard_of (codes "foobar") 64 ≡ 40
