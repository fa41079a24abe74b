-- Which histories of a channel shard are legal.
use Rattle.std.specs.Prelude.{◌≡◌, []}
use Rattle.ch_history.specs.Entries.{ChanEntry, ChanHistory}
use Rattle.ch_history.specs.Steps.{AllHold}
use Rattle.ch_history.specs.Answers.{answer_of}
use Rattle.ch_history.specs.WellFormed.{IsWellFormed}

-- the entry may come after h: its call is well formed, and is answered as it has to be
pub record Follows (h : ChanHistory) (e : ChanEntry) : Type 0 where
  pub formed : IsWellFormed e.call
  pub answered : e.answer ≡ answer_of h e.caller e.call

-- each entry follows those before it
abbrev pub IsLegal : ChanHistory → Type 0
IsLegal h = AllHold Follows [] h
