-- What the settled asks of a session have told it.
use Rattle.std.specs.Prelude.{◌≡◌, ℕ, ◌-◌, ◌<◌, Bool, true, false, nat_lt, List, [], ◌∷◌, ◌++◌, length, slice_index_or, slice_set, Option, if◌then◌else◌}
use Rattle.ch_base.specs.declared.channel.ChanAnswer.{ChanAnswer}
use Rattle.ch_base.specs.declared.channel.ChanAnswer.TheVariants.{Said}
use Rattle.ch_rate.specs.Rate.{IsRateOf}
use Rattle.ch_protocol.specs.Settling.{SettledAsk, count, user_of, accepted, uses_chan, uses_user, holds}
use Rattle.ch_protocol.specs.declared.ask.Made.{Made}

-- how many subscriptions there are, who is signed in, when client events were accepted, and which shards are used
pub record Told : Type 0 where
  pub subscriptions : ℕ
  pub user : Option (List ℕ)
  pub rate : List ℕ
  pub used : List Bool

-- The shards stand in one row: so many channel shards, and then the user shards.

-- whether the session uses the shard at this place of the row
abbrev pub uses_place : ℕ → List SettledAsk → ℕ → Bool
uses_place chans asks place = if nat_lt place chans then uses_chan asks place else uses_user asks (place - chans)

-- this is what the settled asks have told, where there are so many channel shards
pub record IsToldBy (asks : List SettledAsk) (chans : ℕ) (told : Told) : Type 0 where
  pub subscriptions : told.subscriptions ≡ count asks
  pub user : told.user ≡ user_of asks
  pub rate : IsRateOf told.rate (accepted asks)
  pub used : (place : ℕ) → place < length told.used → slice_index_or told.used place false ≡ uses_place chans asks place

-- ---- one more answer

-- the moments at which client events were accepted, with one more where the answer is Said
abbrev pub accepted_with : List ℕ → ChanAnswer → ℕ → List ℕ
accepted_with accepted Said now = accepted ++ now ∷ []
accepted_with accepted _ now = accepted

-- the shards that are used, with the one at the place where the answer leaves something there
abbrev pub used_with : List Bool → ℕ → Made → List Bool
used_with used place made = if holds made then slice_set used place true else used
