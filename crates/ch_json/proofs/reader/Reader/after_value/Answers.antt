use Rattle.std.proofs.Common.{arith, refl, sym, ◌∙◌}
use Rattle.ch_json.specs.Machine as spec
use Rattle.ch_json.specs.Machine.{step, start, after_step, span, in_array, in_object, onto, onto_members}
use Rattle.ch_json.proofs.Follow as follow
use Rattle.ch_json.proofs.reader.Reader.after_value.Goals as goal

pub returns-then-is_blank_byte : goal.returns-then-is_blank_byte
returns-then-is_blank_byte c = λ v room fs open_ shows.
    (spec.after v, room, fs, follow.after_blank v room fs c.args.at c.args.byte (sym c.is_blank_byte.ensures ∙ c.if-is_blank_byte.true), record { mode = (v, refl, shows); brackets = open_ })

pub returns-in-None : goal.returns-in-None
returns-in-None c = λ v room fs open_ shows.
    (refl, follow.after_none c.args.self.now v room fs c.args.at c.args.byte open_ (λ some. let no = c.in-None.ensures.variant.1 (omega arith) in cc no) (sym c.is_blank_byte.ensures ∙ c.if-is_blank_byte.false))

pub returns-in-Some-Array : goal.returns-in-Some-Array
returns-in-Some-Array c = λ v room fs open_ shows.
    let not_blank = sym c.is_blank_byte.ensures ∙ c.if-is_blank_byte.false in
    follow.array_popped _ _ c.args.at room c.args.byte _ v c.in-Some-Array.from c.in-Some-Array.items c.in-Some-Array.field-0 fs c.in-Some-Array.field-0-is (λ vs gs open2 so_far. c.after_item.ensures v vs room gs open2 so_far shows not_blank)
    (follow.pop_top c.args.self.now _ c.in-Some-Array.field-0 room fs refl c.in-Some-Array.ensures.items open_)

pub returns-in-Some-Object : goal.returns-in-Some-Object
returns-in-Some-Object c = λ v room fs open_ shows.
    let not_blank = sym c.is_blank_byte.ensures ∙ c.if-is_blank_byte.false in
    follow.object_popped _ _ c.args.at room c.args.byte _ v c.in-Some-Object.from c.in-Some-Object.members c.in-Some-Object.key c.in-Some-Object.field-0 fs c.in-Some-Object.field-0-is
    (λ ms gs open2 so_far. c.after_member.ensures v ms room gs open2 so_far shows not_blank)
    (follow.pop_top c.args.self.now _ c.in-Some-Object.field-0 room fs refl c.in-Some-Object.ensures.items open_)
