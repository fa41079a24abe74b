use Rattle.std.proofs.Common.{arith, sym, subst, ap, ◌∙◌, ◌≡◌, ◌<◌, length, map}
use Rattle.ch_json.specs.Document.{Document, Shows}
use Rattle.ch_json.specs.Entries.{held}
use Rattle.ch_json.proofs.Nodes.{node_inside, stores, stored_form}
use Rattle.ch_json.proofs.doc.Doc.form.Goals as goal

pub index-requires : goal.index-requires
index-requires c =
    let items = c.self.inside.entries.items in
    let nodes : c.args.self.now.nodes ≡ map held items = sym (ap (λ (d : Document). d.nodes) c.self.view_is) in
    let inside : c.args.node.index < length items = node_inside items c.args.node.index c.requires.1 (subst (λ ds. Shows ds c.args.node.index c.requires.1) nodes c.requires.2.shown) in
    omega arith

pub returns : goal.returns
returns c = λ text v node.
    let items = c.self.inside.entries.items in
    let nodes : c.args.self.now.nodes ≡ map held items = sym (ap (λ (d : Document). d.nodes) c.self.view_is) in
    let stored = stores items c.args.node.index c.index.result.now v c.index.ensures (subst (λ ds. Shows ds c.args.node.index v) nodes node.shown) in
    c.form.ensures ∙ stored_form (map held items) c.index.result.now v stored
