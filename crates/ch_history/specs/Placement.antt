-- On which shard a channel or a user has its place, and which calls belong to a shard. The hash is FNV-1a of 64 bits (the
-- FNV Non-Cryptographic Hash Algorithm, IETF draft-eastlake-fnv, section 2).
use Rattle.std.specs.Prelude.{◌≡◌, ℕ, ◌*◌, ◌%◌, ◌^◌, List, [], ◌∷◌, Option, Some, None, MatchOption, All, bit_xor}
use Rattle.ch_base.specs.declared.channel.ChanCall.{ChanCall}
use Rattle.ch_base.specs.declared.channel.ChanCall.TheVariants as chan
use Rattle.ch_base.specs.declared.user.UserCall.{UserCall}
use Rattle.ch_base.specs.declared.user.UserCall.TheVariants as user
use Rattle.ch_history.specs.declared.limits.TheConstants.{FNV_OFFSET, FNV_PRIME}
use Rattle.ch_history.specs.Entries.{ChanHistory, UserHistory}
use Rattle.ch_history.specs.Legal.{IsLegal}
use Rattle.ch_history.specs.UserLegal.{IsUserLegal}

-- the hash with one more byte
abbrev pub fnv_next : ℕ → ℕ → ℕ
fnv_next hash byte = bit_xor hash byte * FNV_PRIME % 2 ^ 64

-- the hash of the bytes after those of which this is the hash
abbrev pub fnv_from : ℕ → List ℕ → ℕ
fnv_from hash [] = hash
fnv_from hash (x ∷ xs) = fnv_from (fnv_next hash x) xs

-- the shard of a channel or a user, of so many shards
abbrev pub shard_of : List ℕ → ℕ → ℕ
shard_of name shards = fnv_from FNV_OFFSET name % shards

-- the channel that a call names
abbrev pub named_channel : ChanCall → Option (List ℕ)
named_channel (chan.Join socket channel member at) = Some channel
named_channel (chan.Leave socket channel at) = Some channel
named_channel (chan.Publish channel event body except at) = Some channel
named_channel (chan.Say socket channel event body at) = Some channel
named_channel (chan.Look channel at) = Some channel
named_channel (chan.Users channel) = Some channel
named_channel _ = None

-- the user that a call names
abbrev pub named_user : UserCall → Option (List ℕ)
named_user (user.SignIn socket id at) = Some id
named_user (user.Watch socket id at) = Some id
named_user (user.Terminate id at) = Some id
named_user (user.SendTo id event body at) = Some id
named_user _ = None

-- what a call names has its place on the shard, which is a number and the number of shards; a call that names nothing belongs
-- to every shard
abbrev pub HasPlace : ℕ × ℕ → Option (List ℕ) → Type 0
HasPlace shard name = MatchOption name (Unit {0}) (λ x. shard_of x shard.1 ≡ shard.0)

-- the call belongs to the channel shard
abbrev pub BelongsTo : ℕ × ℕ → ChanCall → Type 0
BelongsTo shard call = HasPlace shard (named_channel call)

-- the call belongs to the user shard
abbrev pub UserBelongsTo : ℕ × ℕ → UserCall → Type 0
UserBelongsTo shard call = HasPlace shard (named_user call)

-- a legal history of which every call belongs to the channel shard
pub record IsLegalAt (shard : ℕ × ℕ) (h : ChanHistory) : Type 0 where
  pub legal : IsLegal h
  pub placed : All (λ e. BelongsTo shard e.call) h

-- a legal history of which every call belongs to the user shard
pub record IsUserLegalAt (shard : ℕ × ℕ) (h : UserHistory) : Type 0 where
  pub legal : IsUserLegal h
  pub placed : All (λ e. UserBelongsTo shard e.call) h
