use Rattle.std.proofs.Common.{refl, sym, subst, ap, ◌+◌}
use Rattle.ch_base.specs.JsonTree as tree
use Rattle.ch_json.specs.Machine as spec
use Rattle.ch_json.specs.Machine.{step, start, after_step, span, in_array, in_object, onto, onto_members}
use Rattle.ch_json.specs.ReaderView.{Follows}
use Rattle.ch_json.proofs.Follow as follow
use Rattle.ch_json.proofs.reader.Reader.in_string.Goals as goal

pub returns-in-Ends : goal.returns-in-Ends
unfolding step
returns-in-Ends c = λ room fs open_.
    let s = span c.args.from (c.args.at + 1) in
    subst (λ x. Follows c.args.at c.made.result c.made.new.self (spec.string_outcome c.args.from c.args.at room fs x)) c.in-Ends.ensures
    (c.made.ensures (tree.plain tree.string s) room fs open_ (follow.adds_plain c.args.self.now tree.string s))

pub returns-in-On : goal.returns-in-On
unfolding step
returns-in-On c = λ room fs open_. (_, room, fs, ap (spec.string_outcome c.args.from c.args.at room fs) (sym c.in-On.ensures), record { mode = refl; brackets = open_ })

pub returns-in-Fault : goal.returns-in-Fault
unfolding step
returns-in-Fault c = λ room fs open_. (refl, ap (spec.string_outcome c.args.from c.args.at room fs) (sym c.in-Fault.ensures))
