use Rattle.std.proofs.Common.{take}
use Rattle.ch_base.specs.JsonTree.{Items}
use Rattle.ch_base.specs.JsonParts.{items_of}
use Rattle.ch_members.specs.Readings.{IsArrayOf}
use Rattle.ch_requests.specs.Triggers.{AreEvents}
use Rattle.ch_triggers.proofs.batch.events_of.Given as goal

abbrev pub invariant-loop-i : goal.invariant-loop-i
invariant-loop-i l = (vs : Items) → IsArrayOf l.text l.doc l.array vs → AreEvents l.text (take l.i (items_of vs)) l.events
