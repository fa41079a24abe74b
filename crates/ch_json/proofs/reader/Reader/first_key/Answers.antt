use Rattle.std.proofs.Common.{arith, refl, sym, subst, ap, ◌+◌, map, suc}
use Rattle.ch_base.specs.JsonTree as tree
use Rattle.ch_json.specs.Machine as spec
use Rattle.ch_json.specs.Machine.{step, start, after_step, span, in_array, in_object, onto, onto_members}
use Rattle.ch_json.specs.Entries.{member_of}
use Rattle.ch_json.specs.ReaderView.{Follows}
use Rattle.ch_json.proofs.Follow as follow
use Rattle.ch_json.proofs.reader.Reader.first_key.Goals as goal

pub returns-then-is_blank_byte : goal.returns-then-is_blank_byte
unfolding step
returns-then-is_blank_byte c = λ room fs open_. (_, room, fs, grind arith, record { mode = refl; brackets = open_ })

pub returns-in-125 : goal.returns-in-125
unfolding step
returns-in-125 c = λ room fs open_.
    let s = span c.args.from (c.args.at + 1) in
    subst (λ y. Follows c.args.at c.made.result c.made.new.self (step (spec.first_key c.args.from) room fs c.args.at y)) (sym c.in-125.is)
    (c.made.ensures (tree.object tree.no_members s) (suc room) fs (follow.close_bracket c.args.self.now room fs open_) (follow.adds_object c.args.self.now _ tree.no_members s (ap (map member_of) c.new-members.ensures.items)))

pub returns-in-34 : goal.returns-in-34
unfolding step
returns-in-34 c = λ room fs open_. (_, room, fs, grind arith, record { mode = (tree.no_members, refl, ap (map member_of) c.new-members.ensures.items); brackets = open_ })

pub returns-in_default : goal.returns-in_default
unfolding step
returns-in_default c = λ room fs open_. (refl, grind arith)
