use Rattle.std.proofs.Common.{take}
use Rattle.ch_base.specs.JsonTree.{Items}
use Rattle.ch_base.specs.JsonParts.{items_of}
use Rattle.ch_members.specs.Readings.{IsArrayOf}
use Rattle.ch_members.specs.ArrayStrings.{AreStrings}
use Rattle.ch_members.proofs.strings.strings_of.Given as goal

abbrev pub invariant-loop-i : goal.invariant-loop-i
invariant-loop-i l = (vs : Items) → IsArrayOf l.text l.doc l.array vs → AreStrings l.text (take l.i (items_of vs)) l.strings
