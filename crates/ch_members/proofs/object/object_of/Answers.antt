use Rattle.std.proofs.Common.{◌≡◌, true, subst}
use Rattle.ch_base.specs.JsonTree.{object as object_form}
use Rattle.ch_base.specs.JsonText.{Spells}
use Rattle.ch_base.specs.declared.limits.TheConstants.{MAX_DEPTH}
use Rattle.ch_json.specs.NodeOf.{HasTree}
use Rattle.ch_json.proofs.Fronts.{one_tree}
use Rattle.ch_members.specs.Readings.{ReadsText}
use Rattle.ch_members.proofs.object.object_of.Goals as goal

pub is_plain_object-requires : goal.is_plain_object-requires
is_plain_object-requires c =
    let t = subst (ReadsText c.args.text.now) c.in-Some.is c.in_ok-document_of.ensures in
    (t.0, c.top-top.ensures c.args.text.now t.0 t.1 t.2)

pub returns-in-None : goal.returns-in-None
returns-in-None c =
    let t = subst (ReadsText c.args.text.now) c.in-None.is c.in_ok-document_of.ensures in
    λ ms object distinct. t (object_form ms object.0) object.1

pub returns-then-branch : goal.returns-then-branch
returns-then-branch c =
    let text = c.args.text.now in
    let doc = c.in-Some.doc in
    let t = subst (ReadsText text) c.in-Some.is c.in_ok-document_of.ensures in
    let plain = (c.in_ok-is_plain_object-in-Some.ensures t.0 (c.top-top.ensures text t.0 t.1 t.2)).0 c.if-branch.true in
    record {
      members = plain.0;
      span = plain.1;
      spelled = subst (Spells text) plain.2 t.1;
      tree = subst (HasTree doc) plain.2 t.2;
      distinct = plain.3;
    }

pub returns-else-branch : goal.returns-else-branch
returns-else-branch c = λ ms object distinct.
    let text = c.args.text.now in
    let t = subst (ReadsText text) c.in-Some.is c.in_ok-document_of.ensures in
    let same = one_tree MAX_DEPTH text t.0 (object_form ms object.0) t.1 object.1 in
    let plain : c.in_ok-is_plain_object-in-Some.field-0 ≡ true = (c.in_ok-is_plain_object-in-Some.ensures t.0 (c.top-top.ensures text t.0 t.1 t.2)).1 (ms, object.0, same, distinct) in
    absurd (cc (plain, c.if-branch.false))
