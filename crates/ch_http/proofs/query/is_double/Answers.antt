use Rattle.std.proofs.Common.{Ok, ap, sym, ◌∙◌}
use Rattle.ch_http.proofs.MemberLemmas.{has_name, has_no_name}
use Rattle.ch_http.proofs.query.is_double.Goals as goal

pub returns-in-Ok-Fresh-clause-params : goal.returns-in-Ok-Fresh-clause-params
returns-in-Ok-Fresh-clause-params c =
    let fresh = c.in-Ok-Fresh.is ∙ ap Ok c.in-Ok-Fresh.field-0-is in
    let absent = has_no_name c.args.params.now c.args.name
    (λ there. let double = c.insert.ensures.double.1 there in cc (sym fresh ∙ double)) in
    rw absent (c.insert.ensures.fresh fresh)

pub returns-in-Ok-Fresh-clause-double : goal.returns-in-Ok-Fresh-clause-double
returns-in-Ok-Fresh-clause-double c =
    let fresh = c.in-Ok-Fresh.is ∙ ap Ok c.in-Ok-Fresh.field-0-is in
    sym (has_no_name c.args.params.now c.args.name
    (λ there. let double = c.insert.ensures.double.1 there in cc (sym fresh ∙ double)))

pub returns-in-Ok-Double-clause-params : goal.returns-in-Ok-Double-clause-params
returns-in-Ok-Double-clause-params c =
    let double = c.in-Ok-Double.is ∙ ap Ok c.in-Ok-Double.field-0-is in
    rw (has_name c.args.params.now c.args.name (c.insert.ensures.double.0 double)) (c.insert.ensures.kept double)

pub returns-in-Ok-Double-clause-double : goal.returns-in-Ok-Double-clause-double
returns-in-Ok-Double-clause-double c =
    let double = c.in-Ok-Double.is ∙ ap Ok c.in-Ok-Double.field-0-is in
    sym (has_name c.args.params.now c.args.name (c.insert.ensures.double.0 double))
