use Rattle.std.proofs.Common.{subst}
use Rattle.ch_base.specs.JsonTree.{object as object_form}
use Rattle.ch_members.specs.Readings.{ReadsText}
use Rattle.ch_triggers.proofs.reading.event_in_text.Goals as goal

pub event_of-requires : goal.event_of-requires
event_of-requires c = subst (ReadsText c.args.text.now) c.in-Some.is c.in_ok-doc.ensures

pub returns-in-None : goal.returns-in-None
returns-in-None c = λ t k.
    let none = subst (ReadsText c.args.text.now) c.in-None.is c.in_ok-doc.ensures in
    none (object_form k.1.0 k.1.1.0) k.1.1.1
