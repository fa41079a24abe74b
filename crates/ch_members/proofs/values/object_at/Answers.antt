use Rattle.std.proofs.Common.{refl, ap, ◌∙◌, length}
use Rattle.ch_base.specs.JsonParts.{members_of}
use Rattle.ch_json.specs.NodeOf.{form_of}
use Rattle.ch_json.proofs.Forms.{object_from_form}
use Rattle.ch_members.proofs.values.object_at.Goals as goal

pub returns-in-Object : goal.returns-in-Object
returns-in-Object c = λ text v node. let k = object_from_form v _ (c.in-Object.ensures text v node) in (refl, (k.0, k.1, k.2))

pub returns-in_default : goal.returns-in_default
returns-in_default c = λ text v node ms s e. c.in_default.not-Object (length (members_of ms)) (c.form.ensures text v node ∙ ap form_of e)
