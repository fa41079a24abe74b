-- What the calls of a caller that is alone make of the shards.
use Rattle.std.specs.Prelude.{ℕ, ◌==◌, List, [], ◌∷◌, if◌then◌else◌}
use Rattle.ch_base.specs.declared.channel.ChanCall.{ChanCall}
use Rattle.ch_base.specs.declared.channel.ChanCall.TheVariants.{Lost}
use Rattle.ch_base.specs.declared.user.UserCall.{UserCall}
use Rattle.ch_base.specs.declared.user.UserCall.TheVariants as user
use Rattle.ch_history.specs.Alone.{with_call, with_user_call}
use Rattle.ch_history.specs.Answers.{answer_of}
use Rattle.ch_history.specs.Entries.{ChanHistory, UserHistory}
use Rattle.ch_history.specs.UserAnswers.{user_answer_of}
use Rattle.ch_protocol.specs.Settling.{SettledAsk, uses_chan, uses_user}
use Rattle.ch_protocol.specs.declared.ask.Ask.{Ask}
use Rattle.ch_protocol.specs.declared.ask.Ask.TheVariants.{Chan, User}
use Rattle.ch_protocol.specs.declared.ask.Made.{Made}
use Rattle.ch_protocol.specs.declared.ask.Made.TheVariants as made

-- the history of each channel shard, and of each user shard
pub record Shards : Type 0 where
  pub chans : ℕ → ChanHistory
  pub users : ℕ → UserHistory

-- no call was made
abbrev pub no_calls : Shards
no_calls = record { chans = λ k. []; users = λ k. [] }

-- the call is made on the channel shard k, or on the user shard k
abbrev pub calls : Shards → ℕ → ChanCall → Shards
calls shards k call = record {
  chans = λ j. if j == k then with_call (shards.chans k) call else shards.chans j;
  users = shards.users;
}

abbrev pub user_calls : Shards → ℕ → UserCall → Shards
user_calls shards k call = record {
  chans = shards.chans;
  users = λ j. if j == k then with_user_call (shards.users k) call else shards.users j;
}

-- what comes of an ask
abbrev pub made_of : Shards → Ask → Made
made_of shards (Chan k call) = made.Chan (answer_of (shards.chans k) 0 call)
made_of shards (User k call) = made.User (user_answer_of (shards.users k) 0 call)

-- the ask's call is made
abbrev pub after_ask : Shards → Ask → Shards
after_ask shards (Chan k call) = calls shards k call
after_ask shards (User k call) = user_calls shards k call

-- what comes of asks that are made one after another
abbrev pub made_of_all : Shards → List Ask → List Made
made_of_all shards [] = []
made_of_all shards (ask ∷ asks) = made_of shards ask ∷ made_of_all (after_ask shards ask) asks

abbrev pub after_asks : Shards → List Ask → Shards
after_asks shards [] = shards
after_asks shards (ask ∷ asks) = after_asks (after_ask shards ask) asks

-- a Lost is made on each shard that the session with these settled asks uses
abbrev pub loses : ℕ → ℕ → List SettledAsk → Shards → Shards
loses number at asks shards = record {
  chans = λ k. if uses_chan asks k then with_call (shards.chans k) (Lost number at) else shards.chans k;
  users = λ k. if uses_user asks k then with_user_call (shards.users k) (user.Lost number at) else shards.users k;
}
