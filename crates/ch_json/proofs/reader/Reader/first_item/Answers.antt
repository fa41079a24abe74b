use Rattle.std.proofs.Common.{arith, refl, sym, subst, ◌∙◌, ◌∷◌, ◌+◌, suc}
use Rattle.ch_base.specs.JsonTree as tree
use Rattle.ch_json.specs.Machine as spec
use Rattle.ch_json.specs.Machine.{step, start, after_step, span, in_array, in_object, onto, onto_members}
use Rattle.ch_json.specs.ReaderView.{Follows}
use Rattle.ch_json.proofs.Follow as follow
use Rattle.ch_json.proofs.reader.Reader.first_item.Goals as goal

pub returns-then-is_blank_byte : goal.returns-then-is_blank_byte
unfolding step
returns-then-is_blank_byte c = λ room fs open_. (_, room, fs, grind arith, record { mode = refl; brackets = open_ })

pub returns-then-byte-eq93 : goal.returns-then-byte-eq93
unfolding step
returns-then-byte-eq93 c = λ room fs open_.
    let s = span c.args.from (c.args.at + 1) in
    subst (λ y. Follows c.args.at c.made.result c.made.new.self (step (spec.first_item c.args.from) room fs c.args.at y)) (sym c.if-byte-eq93.true)
    (c.made.ensures (tree.array tree.no_items s) (suc room) fs (follow.close_bracket c.args.self.now room fs open_) (follow.adds_array c.args.self.now _ tree.no_items s c.new-items.ensures.items))

pub returns : goal.returns
returns c = λ room fs open_.
    let not_blank = sym c.is_blank_byte.ensures ∙ c.if-is_blank_byte.false in
    follow.first_on _ c.args.at c.begin.result c.args.from room fs c.args.byte not_blank c.if-byte-eq93.false
    (c.begin.ensures room (in_array c.args.from tree.no_items ∷ fs) (follow.push_array c.args.self.now _ _ c.args.from tree.no_items room fs refl c.in_ok-push.ensures.items (refl, c.new-items.ensures.items) open_))
