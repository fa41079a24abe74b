use Rattle.ch_base.specs.JsonTree.{Members}
use Rattle.ch_members.specs.Readings.{IsObjectOf}
use Rattle.ch_members.proofs.Distinct.{NamesSoFar}
use Rattle.ch_members.proofs.object.is_plain_object.Given as goal

abbrev pub invariant-loop-i : goal.invariant-loop-i
invariant-loop-i l = (ms : Members) → IsObjectOf l.text l.doc l.node ms → NamesSoFar l.text ms l.i l.names
