use Rattle.std.proofs.Common.{sym, ◌∙◌, []}
use Rattle.ch_base.specs.JsonTree as tree
use Rattle.ch_json.specs.Machine.{span}
use Rattle.ch_json.specs.States.{in_number_of}
use Rattle.ch_json.proofs.Follow as follow
use Rattle.ch_json.proofs.reader.Reader.last_number.Goals as goal

pub returns : goal.returns
returns c = λ room open_.
    let s = span c.args.from c.args.at in
    follow.number_finish c.push_node.new.self c.args.at c.push_node.result c.args.from (in_number_of c.args.state) room (sym c.number_may_end.ensures ∙ c.if-not-number_may_end.false)
    (c.push_node.ensures (tree.plain tree.number s) room [] open_ (follow.adds_plain c.args.self.now tree.number s))
