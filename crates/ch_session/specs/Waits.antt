-- The asks of a message that wait to be settled, one after another.
use Rattle.std.specs.Prelude.{◌≡◌, ◌≤◌, ℕ, List, [], ◌∷◌}
use Rattle.ch_base.specs.declared.channel.ChanCall.TheVariants.{Join as JoinCall, Leave, Say}
use Rattle.ch_base.specs.declared.user.UserCall.TheVariants.{SignIn as SignInCall, Watch}
use Rattle.ch_protocol.specs.declared.ask.Ask.{Ask}
use Rattle.ch_protocol.specs.declared.ask.Ask.TheVariants.{Chan, User}
use Rattle.ch_session.specs.declared.waiting.Waiting.{Waiting}
use Rattle.ch_session.specs.declared.waiting.Waiting.TheVariants.{Nothing, Join, Call, SignIn, Watches}

-- ---- one ask

-- a Join on the channel shard
abbrev pub IsJoinOn : ℕ → Ask → Type 0
IsJoinOn k (Chan shard (JoinCall socket channel member at)) = shard ≡ k
IsJoinOn k _ = ⊥

-- a Leave or a Say on the channel shard
abbrev pub IsCallOn : ℕ → Ask → Type 0
IsCallOn k (Chan shard (Leave socket channel at)) = shard ≡ k
IsCallOn k (Chan shard (Say socket channel event body at)) = shard ≡ k
IsCallOn k _ = ⊥

-- a sign-in of the user on the user shard
abbrev pub IsSignInOn : ℕ → List ℕ → Ask → Type 0
IsSignInOn k user (User shard (SignInCall socket id at)) = (shard ≡ k) × (id ≡ user)
IsSignInOn k user _ = ⊥

-- a watch on the user shard
abbrev pub IsWatchOn : ℕ → Ask → Type 0
IsWatchOn k (User shard (Watch socket id at)) = shard ≡ k
IsWatchOn k _ = ⊥

-- watches on these shards
abbrev pub AreWatchesOn : List ℕ → List Ask → Type 0
AreWatchesOn [] [] = Unit {0}
AreWatchesOn (k ∷ ks) (ask ∷ asks) = IsWatchOn k ask × AreWatchesOn ks asks
AreWatchesOn _ _ = ⊥

-- ---- what waits

-- the ask at this place of its message is the next that waits, and behind it wait these asks
abbrev pub AwaitsNext : Waiting → ℕ → Ask → List Ask → Type 0
AwaitsNext Nothing place ask asks = ⊥
AwaitsNext (Join shard) place ask asks = (place ≡ 0) × IsJoinOn shard ask × (asks ≡ [])
AwaitsNext (Call shard) place ask asks = (place ≡ 0) × IsCallOn shard ask × (asks ≡ [])
AwaitsNext (SignIn shard user user_data watches) place ask asks = (place ≡ 0) × IsSignInOn shard user ask × AreWatchesOn watches asks
AwaitsNext (Watches shards) place ask asks = (1 ≤ place) × AreWatchesOn shards (ask ∷ asks)

-- these asks wait to be settled, the first of them at this place of its message; where there is none, nothing waits
abbrev pub Awaits : Waiting → ℕ → List Ask → Type 0
Awaits waits place [] = waits ≡ Nothing
Awaits waits place (ask ∷ asks) = AwaitsNext waits place ask asks

-- the user data of the sign-in that waits, if one does
abbrev pub HoldsData : Waiting → List ℕ → Type 0
HoldsData (SignIn shard user user_data watches) sent = user_data ≡ sent
HoldsData _ sent = Unit {0}

-- ---- what it takes to settle

-- the channel shard on which a call waits; 0 where none does
abbrev pub chan_shard_of : Waiting → ℕ
chan_shard_of (Join shard) = shard
chan_shard_of (Call shard) = shard
chan_shard_of _ = 0

-- watches on these shards, or nothing where there is none
abbrev pub waits_on : List ℕ → Waiting
waits_on [] = Nothing
waits_on (k ∷ ks) = Watches (k ∷ ks)
