-- The last entries of a history, in brief.
use Rattle.std.specs.Prelude.{◌-◌, List, drop, length, map}
use Rattle.ch_history.specs.declared.limits.TheConstants.{LONGEST_TAIL}
use Rattle.ch_history.specs.Entries.{ChanEntry, ChanHistory}
use Rattle.ch_history.specs.Letters.{letter_of}
use Rattle.ch_shard.specs.declared.brief.Brief.{Brief}

-- an entry in brief
abbrev pub brief_of : ChanEntry → Brief
brief_of e = record { caller = e.caller; letter = letter_of e.call }

-- the last entries, the oldest first
abbrev pub tail_of : ChanHistory → List Brief
tail_of h = map brief_of (drop (length h - LONGEST_TAIL) h)
