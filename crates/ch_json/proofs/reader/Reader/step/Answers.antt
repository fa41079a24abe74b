use Rattle.std.proofs.Common.{arith, refl, sym, subst, ◌∙◌}
use Rattle.ch_json.specs.Machine as spec
use Rattle.ch_json.specs.Machine.{step, start, after_step, span, in_array, in_object, onto, onto_members}
use Rattle.ch_json.specs.ReaderView.{Follows, Sees}
use Rattle.ch_json.proofs.Follow as follow
use Rattle.ch_json.proofs.reader.Reader.step.Goals as goal

pub returns-in-Value : goal.returns-in-Value
unfolding step
returns-in-Value c = λ m room fs sees.
    let k = subst (λ y. Sees c.args.self.now y m room fs) c.in-Value.is sees in
    (spec.value, room, fs, rw k.mode (grind arith), record { mode = refl; brackets = k.brackets })

pub returns-in-Value-2 : goal.returns-in-Value-2
returns-in-Value-2 c = λ m room fs sees.
    let k = subst (λ y. Sees c.args.self.now y m room fs) c.in-Value-2.is sees in
    subst (λ y. Follows c.args.at c.begin.result c.args.self.now (step y room fs c.args.at c.args.byte)) (sym k.mode) (follow.value_on c.args.self.now c.args.at c.begin.result room fs c.args.byte (sym c.is_blank_byte.ensures ∙ c.if-is_blank_byte.false) (c.begin.ensures room fs k.brackets))

pub returns-in-After : goal.returns-in-After
unfolding step
returns-in-After c = λ m room fs sees.
    let k = subst (λ y. Sees c.args.self.now y m room fs) c.in-After.is sees in
    subst (λ y. Follows c.args.at c.after_value.result c.after_value.new.self (step y room fs c.args.at c.args.byte)) (sym k.mode.1) (c.after_value.ensures k.mode.0 room fs k.brackets k.mode.2)
