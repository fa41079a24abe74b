-- What the settled asks of a session tell of it.
use Rattle.std.specs.Prelude.{ℕ, Bool, true, false, ◌+◌, ◌-◌, ◌==◌, ◌&&◌, List, [], ◌∷◌, ◌++◌, Option, Some, None, fold, filter_map, if◌then◌else◌}
use Rattle.std.specs.List.{list_any}
use Rattle.std.specs.Option.{option_or}
use Rattle.ch_base.specs.declared.channel.ChanAnswer.TheVariants as chan
use Rattle.ch_base.specs.declared.user.UserAnswer.TheVariants as user
use Rattle.ch_base.specs.declared.user.UserCall.{UserCall}
use Rattle.ch_base.specs.declared.user.UserCall.TheVariants.{SignIn}
use Rattle.ch_protocol.specs.declared.ask.Ask.{Ask}
use Rattle.ch_protocol.specs.declared.ask.Ask.TheVariants.{Chan, User}
use Rattle.ch_protocol.specs.declared.ask.Made.{Made}
use Rattle.ch_protocol.specs.declared.ask.Made.TheVariants as made

-- an ask that was settled, with its answer and the moment of that; an ask that found no memory isn't one
pub record SettledAsk : Type 0 where
  pub ask : Ask
  pub answer : Made
  pub at : ℕ

-- the settled asks with one more, unless it found no memory
abbrev pub settled_with : List SettledAsk → Ask → Made → ℕ → List SettledAsk
settled_with asks ask made.Memory at = asks
settled_with asks ask answer at = asks ++ record { ask = ask; answer = answer; at = at } ∷ []

-- ---- subscriptions

abbrev pub count_after : ℕ → Made → ℕ
count_after n (made.Chan chan.Joined) = n + 1
count_after n (made.Chan chan.Left) = n - 1
count_after n _ = n

-- how many subscriptions there are: one more at each Joined, one less at each Left
abbrev pub count : List SettledAsk → ℕ
count asks = fold (λ n x. count_after n x.answer) 0 asks

-- ---- the user

abbrev pub is_sign_in_answer : Made → Bool
is_sign_in_answer (made.User user.SignedIn) = true
is_sign_in_answer (made.User user.AlreadyIn) = true
is_sign_in_answer _ = false

abbrev pub user_in_call : UserCall → Option (List ℕ)
user_in_call (SignIn socket id at) = Some id
user_in_call _ = None

abbrev pub user_in_ask : Ask → Option (List ℕ)
user_in_ask (Chan shard call) = None
user_in_ask (User shard call) = user_in_call call

-- the user whom the ask signs in
abbrev pub signed_in_by : SettledAsk → Option (List ℕ)
signed_in_by x = if is_sign_in_answer x.answer then user_in_ask x.ask else None

-- the user of the first sign-in that was answered so
abbrev pub user_of : List SettledAsk → Option (List ℕ)
user_of [] = None
user_of (x ∷ asks) = option_or (signed_in_by x) (user_of asks)

-- ---- client events

abbrev pub accepted_as : Made → ℕ → Option ℕ
accepted_as (made.Chan chan.Said) at = Some at
accepted_as _ at = None

abbrev pub accepted_by : SettledAsk → Option ℕ
accepted_by x = accepted_as x.answer x.at

-- the moments at which client events were accepted
abbrev pub accepted : List SettledAsk → List ℕ
accepted asks = filter_map accepted_by asks

-- ---- shards

-- whether the answer leaves something on the shard that a loss has to end
abbrev pub holds : Made → Bool
holds (made.Chan chan.Joined) = true
holds (made.User user.SignedIn) = true
holds (made.User user.AlreadyIn) = true
holds (made.User user.Watching) = true
holds (made.User user.AlreadyWatching) = true
holds _ = false

abbrev pub is_on_chan : ℕ → Ask → Bool
is_on_chan k (Chan shard call) = shard == k
is_on_chan k (User shard call) = false

abbrev pub is_on_user : ℕ → Ask → Bool
is_on_user k (Chan shard call) = false
is_on_user k (User shard call) = shard == k

-- whether the session uses the channel shard, or the user shard
abbrev pub uses_chan : List SettledAsk → ℕ → Bool
uses_chan asks k = list_any (λ x. holds x.answer && is_on_chan k x.ask) asks

abbrev pub uses_user : List SettledAsk → ℕ → Bool
uses_user asks k = list_any (λ x. holds x.answer && is_on_user k x.ask) asks
