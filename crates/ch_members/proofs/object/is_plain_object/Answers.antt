use Rattle.std.proofs.Common.{◌≡◌, ◌<◌, ℕ, length, Bool, true, false, not, refl, ap, ◌∙◌, subst, arith}
use Rattle.std.specs.List.{list_any}
use Rattle.std.specs.Ordering.{nat_cmp}
use Rattle.std.specs.Cmp.Lexicographic.{slice_cmp}
use Rattle.std.specs.BTreeMap.{is_at}
use Rattle.ch_base.specs.JsonTree.{Span, Tree, object as object_form}
use Rattle.ch_base.specs.JsonText.{Unescapes}
use Rattle.ch_base.specs.JsonParts.{part, members_of}
use Rattle.ch_json.specs.Entries.{span_of}
use Rattle.ch_json.specs.NodeOf.{IsNode, form_of}
use Rattle.ch_json.specs.declared.node.Form.TheVariants.{Object}
use Rattle.ch_json.proofs.Lists.{inside_some, some_on}
use Rattle.ch_json.proofs.Finding.{object_strings}
use Rattle.ch_json.proofs.Forms.{object_from_form, member_name}
use Rattle.ch_members.proofs.Distinct.{names_first, names_more, names_twice, names_all}
use Rattle.ch_members.proofs.object.is_plain_object.Goals as goal

object_count : (n m : ℕ) → Object n ≡ Object m → n ≡ m
object_count n m e = cc

was_there : (a b : Bool) → a ≡ false → a ≡ not b → b ≡ true
was_there a true e f = refl
was_there a false e f = absurd (cc)

was_new : (a b : Bool) → a ≡ true → a ≡ not b → b ≡ false
was_new a true e f = absurd (cc)
was_new a false e f = refl

pub returns-in_default : goal.returns-in_default
returns-in_default c = λ v node. (
  λ no. absurd (cc),
  λ plain. absurd (c.in_default.not-Object (length (members_of plain.0)) (c.form.ensures c.args.text.now v node ∙ ap form_of plain.2)),
)

pub loop-i-init : goal.loop-i-init
loop-i-init c = λ ms object. names_first c.args.text.now ms c.new-names.result (λ q. ap (list_any (is_at (slice_cmp nat_cmp q))) c.new-names.ensures.empty)

pub key-requires : goal.key-requires
key-requires c =
    let text = c.args.text.now in
    let v = c.requires.0 in
    let node = c.requires.1 in
    let k = member_name v _ c.loop-i.i (c.in-Object.ensures text v node) (omega arith) in
    (text, v, node, k.0)

pub unescape-requires : goal.unescape-requires
unescape-requires c =
    let text = c.args.text.now in
    let v = c.requires.0 in
    let node = c.requires.1 in
    let k = member_name v _ c.loop-i.i (c.in-Object.ensures text v node) (omega arith) in
    c.key.ensures.name text v k.1.0 node k.1.1

pub returns-then-not-branch : goal.returns-then-not-branch
returns-then-not-branch c = λ v node. (
  λ no. absurd (cc),
  λ plain.
      let text = c.args.text.now in
      let i = c.loop-i.i in
      let ms = plain.0 in
      let s = plain.1 in
      let at = subst (IsNode text c.args.doc.now c.args.node) plain.2 node in
      let count : c.in-Object.count ≡ length (members_of ms) = object_count _ _ (c.in-Object.ensures text (object_form ms s) at) in
      let inside : i < length (members_of ms) = omega (arith, count, c.loop-i-test.true) in
      let m = inside_some (members_of ms) i inside in
      let place : span_of c.key.result ≡ m.0.0 = c.key.ensures.place text (object_form ms s) m.0.0 at (some_on (λ (y : Span × Tree). y.0) (members_of ms) i m.0 m.1) in
      let named : Unescapes (part text m.0.0) c.in_ok-name.name = subst (λ (y : Span). Unescapes (part text y) c.in_ok-name.name) place c.in_ok-name.ensures in
      absurd
      (names_twice text ms i c.loop-i.names m.0 c.in_ok-name.name (object_strings text ms s at.spelled) m.1 named
      (was_there _ _ c.if-not-branch.true c.in_ok-insert.ensures.added) (c.loop-i.invariant ms (s, at)) plain.3),
)

pub loop-i-preserved : goal.loop-i-preserved
loop-i-preserved c = λ ms object.
    let text = c.args.text.now in
    let i = c.loop-i.i in
    let s = object.0 in
    let at = object.1 in
    let count : c.in-Object.count ≡ length (members_of ms) = object_count _ _ (c.in-Object.ensures text (object_form ms s) at) in
    let inside : i < length (members_of ms) = omega (arith, count, c.loop-i-test.true) in
    let m = inside_some (members_of ms) i inside in
    let place : span_of c.key.result ≡ m.0.0 = c.key.ensures.place text (object_form ms s) m.0.0 at (some_on (λ (y : Span × Tree). y.0) (members_of ms) i m.0 m.1) in
    let named : Unescapes (part text m.0.0) c.in_ok-name.name = subst (λ (y : Span). Unescapes (part text y) c.in_ok-name.name) place c.in_ok-name.ensures in
    names_more text ms i c.loop-i.names c.insert.new.self m.0 c.in_ok-name.name m.1 named (was_new _ _ c.if-not-branch.false c.in_ok-insert.ensures.added)
    c.in_ok-insert.ensures.updates (c.loop-i.invariant ms object)

pub returns : goal.returns
returns c = λ v node.
    let text = c.args.text.now in
    let k = object_from_form v _ (c.in-Object.ensures text v node) in
    let at = subst (IsNode text c.args.doc.now c.args.node) k.2 node in (
      λ yes. (k.0, k.1, k.2, names_all text k.0 c.loop-i.i c.loop-i.names (omega (arith, k.3, c.loop-i-test.false)) (c.loop-i.invariant k.0 (k.1, at))),
      λ plain. refl,
    )
