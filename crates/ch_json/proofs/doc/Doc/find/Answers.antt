use Rattle.std.proofs.Common.{arith, refl, sym, subst, ap, ◌∙◌, ◌≡◌, ◌+◌, ◌<◌, ℕ, length, true}
use Rattle.std.proofs.lemmas.List.{length-map}
use Rattle.ch_base.specs.JsonTree.{Span, Tree, plain, string, object, Members}
use Rattle.ch_base.specs.JsonText.{Unescapes}
use Rattle.ch_base.specs.JsonParts.{part, members_of, names_of, values_of}
use Rattle.ch_json.specs.Entries.{span_of}
use Rattle.ch_json.specs.Pieces.{IsString}
use Rattle.ch_json.specs.declared.node.Form.TheVariants.{Object}
use Rattle.ch_json.proofs.Lists.{inside_some, some_on}
use Rattle.ch_json.proofs.Unescaped.{string_of_span}
use Rattle.ch_json.proofs.Finding.{FoundSoFar, object_strings, is_absent, found_first, found_other, found_one, found_many, found_all}
use Rattle.ch_json.proofs.doc.Doc.find.Goals as goal
use Rattle.ch_json.proofs.doc.Doc.find.Goals.{then-is_named+in_default-found, else-is_named}

object_count : (n m : ℕ) → Object n ≡ Object m → n ≡ m
object_count n m e = cc

names_length : (ms : Members) (s : Span) → length (names_of (object ms s)) ≡ length (members_of ms)
names_length ms s = simp length-map refl

values_length : (ms : Members) (s : Span) → length (values_of (object ms s)) ≡ length (members_of ms)
values_length ms s = simp length-map refl

pub returns-in_default : goal.returns-in_default
returns-in_default c = λ ms s node. absurd (c.in_default.not-Object (length (members_of ms)) (c.form.ensures c.args.text.now (object ms s) node))

pub loop-i-init : goal.loop-i-init
loop-i-init c = λ ms s node. found_first c.args.text.now c.args.self.now c.args.name.now ms

pub key-requires : goal.key-requires
key-requires c =
    let ms = c.requires.0 in
    let s = c.requires.1 in
    let count : c.in-Object.count ≡ length (members_of ms) = object_count _ _ (c.in-Object.ensures c.args.text.now (object ms s) c.requires.2) in
    (c.args.text.now, object ms s, c.requires.2, omega (arith, names_length ms s, count, c.loop-i-test.true))

pub part-requires : goal.part-requires
part-requires c =
    let ms = c.requires.0 in
    let s = c.requires.1 in
    let count : c.in-Object.count ≡ length (members_of ms) = object_count _ _ (c.in-Object.ensures c.args.text.now (object ms s) c.requires.2) in
    let inside : c.loop-i.i < length (names_of (object ms s)) = omega (arith, names_length ms s, count, c.loop-i-test.true) in
    let name = inside_some (names_of (object ms s)) c.loop-i.i inside in
    (plain string (span_of c.key.result), c.key.ensures.name c.args.text.now (object ms s) name.0 c.requires.2 name.1, refl)

pub is_named-requires : goal.is_named-requires
is_named-requires c =
    let ms = c.requires.0 in
    let s = c.requires.1 in
    let count : c.in-Object.count ≡ length (members_of ms) = object_count _ _ (c.in-Object.ensures c.args.text.now (object ms s) c.requires.2) in
    let inside : c.loop-i.i < length (names_of (object ms s)) = omega (arith, names_length ms s, count, c.loop-i-test.true) in
    let name = inside_some (names_of (object ms s)) c.loop-i.i inside in
    subst IsString (sym c.part.ensures) (string_of_span c.args.text.now (span_of c.key.result) (c.key.ensures.name c.args.text.now (object ms s) name.0 c.requires.2 name.1))

pub item-requires : goal.item-requires
item-requires c =
    let ms = c.requires.0 in
    let s = c.requires.1 in
    let count : c.in-Object.count ≡ length (members_of ms) = object_count _ _ (c.in-Object.ensures c.args.text.now (object ms s) c.requires.2) in
    (c.args.text.now, object ms s, c.requires.2, omega (arith, values_length ms s, count, c.loop-i-test.true))

pub returns-in-One : goal.returns-in-One
returns-in-One c = λ ms s node.
    let text = c.args.text.now in
    let i = c.loop-i.i in
    let count : c.in-Object.count ≡ length (members_of ms) = object_count _ _ (c.in-Object.ensures text (object ms s) node) in
    let inside : i < length (members_of ms) = omega (arith, count, c.loop-i-test.true) in
    let m = inside_some (members_of ms) i inside in
    let place : span_of c.key.result ≡ m.0.0 = c.key.ensures.place text (object ms s) m.0.0 node (some_on (λ (y : Span × Tree). y.0) (members_of ms) i m.0 m.1) in
    let named : Unescapes (part text m.0.0) c.args.name.now = subst (λ y. Unescapes (part text y) c.args.name.now) place (subst (λ y. Unescapes y c.args.name.now) c.part.ensures (c.is_named.ensures.0 c.if-is_named.true)) in
    found_many text c.args.self.now c.args.name.now ms i c.in-One.field-0 m.0 (object_strings text ms s node.spelled) m.1 named
    (subst (FoundSoFar text c.args.self.now c.args.name.now ms i) c.in-One.is (c.loop-i.invariant ms s node))

pub loop-i-preserved : goal.loop-i-preserved
loop-i-preserved c = λ ms s node.
    let text = c.args.text.now in
    let d = c.args.self.now in
    let name = c.args.name.now in
    let i = c.loop-i.i in
    let count : c.in-Object.count ≡ length (members_of ms) = object_count _ _ (c.in-Object.ensures text (object ms s) node) in
    let inside : i < length (members_of ms) = omega (arith, count, c.loop-i-test.true) in
    let m = inside_some (members_of ms) i inside in
    let place : span_of c.key.result ≡ m.0.0 = c.key.ensures.place text (object ms s) m.0.0 node (some_on (λ (y : Span × Tree). y.0) (members_of ms) i m.0 m.1) in
    let bytes : c.part.result.now ≡ part text m.0.0 = c.part.ensures ∙ ap (part text) place in
    let so_far = c.loop-i.invariant ms s node in
    elim c.if-is_named.branch [
      | then-is_named+in_default-found w ↦
          let named : Unescapes (part text m.0.0) name = subst (λ y. Unescapes y name) bytes (c.is_named.ensures.0 w.if-is_named.true) in
          let absent = is_absent c.loop-i.found w.in_default-found.not-One so_far.few in
          let shown = w.item.ensures text (object ms s) m.0.1 node (some_on (λ (y : Span × Tree). y.1) (members_of ms) i m.0 m.1) in
          subst (FoundSoFar text d name ms (i + 1)) (sym w.found-is) (found_one text d name ms i w.item.result m.0 m.1 named shown (subst (FoundSoFar text d name ms i) absent so_far))
      | else-is_named w ↦
          let other = λ (h : Unescapes (part text m.0.0) name). let t : c.is_named.result ≡ true = c.is_named.ensures.1 (subst (λ y. Unescapes y name) (sym bytes) h) in absurd (cc (t, w.if-is_named.false)) in
          subst (FoundSoFar text d name ms (i + 1)) (sym w.found-is) (found_other text d name ms i c.loop-i.found m.0 m.1 other so_far)
    ]

pub returns : goal.returns
returns c = λ ms s node.
    let text = c.args.text.now in
    let count : c.in-Object.count ≡ length (members_of ms) = object_count _ _ (c.in-Object.ensures text (object ms s) node) in
    found_all text c.args.self.now c.args.name.now ms c.loop-i.i c.loop-i.found (omega (arith, count, c.loop-i-test.false)) (c.loop-i.invariant ms s node)
