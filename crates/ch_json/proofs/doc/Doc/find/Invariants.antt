use Rattle.ch_base.specs.JsonTree.{Span, Members, object}
use Rattle.ch_json.specs.NodeOf.{IsNode}
use Rattle.ch_json.proofs.Finding.{FoundSoFar}
use Rattle.ch_json.proofs.doc.Doc.find.Given as goal

abbrev pub invariant-loop-i : goal.invariant-loop-i
invariant-loop-i l = (ms : Members) (s : Span) → IsNode l.text l.self l.node (object ms s) → FoundSoFar l.text l.self l.name ms l.i l.found
