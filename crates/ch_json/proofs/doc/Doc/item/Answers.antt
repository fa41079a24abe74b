use Rattle.std.proofs.Common.{arith, sym, subst, ap, ◌≡◌, ◌<◌, length, map}
use Rattle.ch_json.specs.Document.{Document, Shows}
use Rattle.ch_json.specs.Entries.{held}
use Rattle.ch_json.proofs.PartsOf.{value_spelled}
use Rattle.ch_json.proofs.Nodes.{node_inside, stores, stored_value, value_inside}
use Rattle.ch_json.proofs.doc.Doc.item.Goals as goal

pub index-requires : goal.index-requires
index-requires c =
    let items = c.self.inside.entries.items in
    let nodes : c.args.self.now.nodes ≡ map held items = sym (ap (λ (d : Document). d.nodes) c.self.view_is) in
    let inside : c.args.node.index < length items = node_inside items c.args.node.index c.requires.1 (subst (λ ds. Shows ds c.args.node.index c.requires.1) nodes c.requires.2.shown) in
    omega arith

pub value-requires : goal.value-requires
value-requires c =
    let v = c.requires.1 in
    let node = c.requires.2 in
    let items = c.self.inside.entries.items in
    let nodes : c.args.self.now.nodes ≡ map held items = sym (ap (λ (d : Document). d.nodes) c.self.view_is) in
    let stored = stores items c.args.node.index c.index.result.now v c.index.ensures (subst (λ ds. Shows ds c.args.node.index v) nodes node.shown) in
    value_inside (map held items) c.index.result.now v c.args.i stored c.requires.3

pub returns : goal.returns
returns c = λ text v w node at.
    let items = c.self.inside.entries.items in
    let nodes : c.args.self.now.nodes ≡ map held items = sym (ap (λ (d : Document). d.nodes) c.self.view_is) in
    let stored = stores items c.args.node.index c.index.result.now v c.index.ensures (subst (λ ds. Shows ds c.args.node.index v) nodes node.shown) in
    let k = stored_value (map held items) c.index.result.now v w c.args.i stored at in
    let same : k.0 ≡ c.value.result = cc (k.1, c.value.ensures) in
    record { shown = subst (λ ds. Shows ds c.value.result w) (sym nodes) (subst (λ y. Shows (map held items) y w) same k.2); spelled = value_spelled text v w c.args.i node.spelled at }
