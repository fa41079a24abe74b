use Rattle.std.proofs.Common.{subst, ap, ◌≡◌}
use Rattle.ch_json.specs.Document.{Document, Shows}
use Rattle.ch_json.proofs.PartsOf.{top_spelled}
use Rattle.ch_json.proofs.doc.Doc.top.Goals as goal

pub returns : goal.returns
returns c = λ text v spells tree. record {
  shown = let same : c.args.self.now.top ≡ c.self.inside.top = cc (ap (λ (d : Document). d.top) c.self.view_is) in subst (λ k. Shows c.args.self.now.nodes k v) same tree.top;
  spelled = top_spelled text v spells;
}
