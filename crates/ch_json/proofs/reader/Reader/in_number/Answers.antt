use Rattle.std.proofs.Common.{refl, sym, ap, ◌∙◌}
use Rattle.std.proofs.lemmas.Result.{err_from_is_err_and}
use Rattle.ch_base.specs.JsonTree as tree
use Rattle.ch_json.specs.Machine as spec
use Rattle.ch_json.specs.Machine.{step, start, after_step, span, in_array, in_object, onto, onto_members}
use Rattle.ch_json.specs.States.{in_number_of}
use Rattle.ch_json.proofs.Follow as follow
use Rattle.ch_json.proofs.reader.Reader.in_number.Goals as goal

pub returns-in_err-node-in-Stop : goal.returns-in_err-node-in-Stop
unfolding step
returns-in_err-node-in-Stop c = λ room fs open_.
    let s = span c.args.from c.args.at in
    let p = err_from_is_err_and c.from_residual.result c.from_residual.ensures.1 in
    rw (p.1, p.2) (follow.added_err c.args.at _ c.push_node.new.self room fs (tree.plain tree.number s) _ (c.in_err-node-in-Stop.ensures (tree.plain tree.number s) room fs open_ (follow.adds_plain c.args.self.now tree.number s)))

pub returns-in-More : goal.returns-in-More
unfolding step
returns-in-More c = λ room fs open_.
    (_, room, fs, ap (spec.number_outcome (in_number_of c.args.state) c.args.from c.args.at room fs c.args.byte) (sym c.in-More.ensures), record { mode = refl; brackets = open_ })

pub returns-in_ok-node-in-Stop : goal.returns-in_ok-node-in-Stop
unfolding step
returns-in_ok-node-in-Stop c = λ room fs open_.
    let s = span c.args.from c.args.at in
    let n = c.in_ok-node-in-Stop.ensures (tree.plain tree.number s) room fs open_ (follow.adds_plain c.args.self.now tree.number s) in
    follow.number_stop _ c.args.at c.after_value.result (in_number_of c.args.state) c.args.from room fs c.args.byte _ c.in-Stop.ensures (sym c.number_may_end.ensures ∙ c.if-number_may_end.true)
    (c.after_value.ensures (tree.plain tree.number s) room fs n.brackets n.shows)

pub returns-in-Stop-2 : goal.returns-in-Stop-2
unfolding step
returns-in-Stop-2 c = λ room fs open_. (refl, follow.number_wrong (in_number_of c.args.state) c.args.from c.args.at room fs c.args.byte _ c.in-Stop-2.ensures (sym c.number_may_end.ensures ∙ c.if-number_may_end.false))
