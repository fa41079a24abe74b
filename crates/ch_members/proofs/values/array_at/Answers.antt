use Rattle.std.proofs.Common.{ap, ◌∙◌, length, subst}
use Rattle.ch_base.specs.JsonParts.{items_of}
use Rattle.ch_json.specs.NodeOf.{IsNode, form_of}
use Rattle.ch_json.proofs.Forms.{array_from_form}
use Rattle.ch_members.proofs.values.array_at.Goals as goal

pub returns-in-List : goal.returns-in-List
returns-in-List c = λ text v node.
    let k = array_from_form v _ (c.in-List.ensures text v node) in
    (k.0, k.1, k.2, record { span = k.1; node = subst (IsNode text c.args.doc.now c.args.node) k.2 node; count = k.3 })

pub returns-in_default : goal.returns-in_default
returns-in_default c = λ text v node vs s e. c.in_default.not-List (length (items_of vs)) (c.form.ensures text v node ∙ ap form_of e)
