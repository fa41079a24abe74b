use Rattle.std.proofs.Common.{arith, sym, subst, ap, ◌∙◌, ◌≡◌, ◌<◌, length, map}
use Rattle.ch_json.specs.Document.{Document, Shows}
use Rattle.ch_json.specs.Entries.{held, span_of}
use Rattle.ch_base.specs.JsonTree.{plain, string}
use Rattle.ch_base.specs.JsonParts.{IsSpelledIn}
use Rattle.ch_json.proofs.PartsOf.{name_spelled}
use Rattle.ch_json.proofs.Nodes.{node_inside, stores, stored_name, name_inside}
use Rattle.ch_json.proofs.doc.Doc.key.Goals as goal

pub index-requires : goal.index-requires
index-requires c =
    let items = c.self.inside.entries.items in
    let nodes : c.args.self.now.nodes ≡ map held items = sym (ap (λ (d : Document). d.nodes) c.self.view_is) in
    let inside : c.args.node.index < length items = node_inside items c.args.node.index c.requires.1 (subst (λ ds. Shows ds c.args.node.index c.requires.1) nodes c.requires.2.shown) in
    omega arith

pub key-requires : goal.key-requires
key-requires c =
    let v = c.requires.1 in
    let node = c.requires.2 in
    let items = c.self.inside.entries.items in
    let nodes : c.args.self.now.nodes ≡ map held items = sym (ap (λ (d : Document). d.nodes) c.self.view_is) in
    let stored = stores items c.args.node.index c.index.result.now v c.index.ensures (subst (λ ds. Shows ds c.args.node.index v) nodes node.shown) in
    name_inside (map held items) c.index.result.now v c.args.i stored c.requires.3

pub returns-clause-place : goal.returns-clause-place
returns-clause-place c = λ text v s node at.
    let items = c.self.inside.entries.items in
    let nodes : c.args.self.now.nodes ≡ map held items = sym (ap (λ (d : Document). d.nodes) c.self.view_is) in
    let stored = stores items c.args.node.index c.index.result.now v c.index.ensures (subst (λ ds. Shows ds c.args.node.index v) nodes node.shown) in
    let k = stored_name (map held items) c.index.result.now v s c.args.i stored at in
    let same : k.0 ≡ c.key.result = cc (k.1, c.key.ensures) in
    ap span_of (sym same) ∙ k.2

pub returns-clause-name : goal.returns-clause-name
returns-clause-name c = λ text v s node at. subst (λ y. IsSpelledIn text (plain string y)) (sym (returns-clause-place c text v s node at)) (name_spelled text v s c.args.i node.spelled at)
