-- Calls at one desk, one after another.
use Rattle.std.specs.Prelude.{List, [], ◌++◌}
use Rattle.ch_protocol.specs.Asks.{Asked}
use Rattle.ch_desk.specs.OwnEntries.{Makes}
use Rattle.ch_desk.specs.Views.{DeskView}

-- where no ask is made, nothing need change
abbrev pub NoCalls : Type 0
NoCalls = (desk : DeskView) → Makes [] desk desk

-- asks that were made, and then others, are all of them in this order
abbrev pub CallsChain : Type 0
CallsChain = (xs ys : List Asked) (a b c : DeskView) → Makes xs a b → Makes ys b c → Makes (xs ++ ys) a c
