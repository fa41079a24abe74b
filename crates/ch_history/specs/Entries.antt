-- The entries and the histories of the two kinds of shard.
use Rattle.std.specs.Prelude.{ℕ, List, [], ◌∷◌, ◌++◌}
use Rattle.ch_base.specs.Growth.{entry}
use Rattle.ch_base.specs.declared.entry.Entry.{Entry}
use Rattle.ch_base.specs.declared.channel.ChanCall.{ChanCall}
use Rattle.ch_base.specs.declared.channel.ChanAnswer.{ChanAnswer}
use Rattle.ch_base.specs.declared.user.UserCall.{UserCall}
use Rattle.ch_base.specs.declared.user.UserAnswer.{UserAnswer}

-- one entry of a channel shard: who called, the call, and the answer
abbrev pub ChanEntry : Type 0
ChanEntry = Entry ChanCall ChanAnswer

-- the entries of a channel shard, the oldest first
abbrev pub ChanHistory : Type 0
ChanHistory = List ChanEntry

-- one entry of a user shard
abbrev pub UserEntry : Type 0
UserEntry = Entry UserCall UserAnswer

-- the entries of a user shard, the oldest first
abbrev pub UserHistory : Type 0
UserHistory = List UserEntry

-- the history with one more entry
abbrev pub called : {C A : Type 0} → List (Entry C A) → ℕ → C → A → List (Entry C A)
called h caller call answer = h ++ entry caller call answer ∷ []
