use Rattle.std.proofs.Common.{arith, refl, sym, subst, ap, ◌∙◌, ◌≡◌, ◌+◌, ◌<◌, length, length-drop, get_or, Ok}
use Rattle.ch_base.specs.JsonTree as tree
use Rattle.ch_json.specs.Machine as spec
use Rattle.ch_json.specs.Machine.{step, start, after_step, span, in_array, in_object, onto, onto_members}
use Rattle.ch_json.specs.Entries.{plain_of}
use Rattle.ch_json.specs.ReaderView.{Follows, letters_of}
use Rattle.ch_json.proofs.Follow as follow
use Rattle.ch_json.proofs.reader.Reader.in_word.Goals as goal

pub returns-then-seen-letters : goal.returns-then-seen-letters
returns-then-seen-letters c = λ next rest room fs open_ e.
    let k = follow.rest_of_word c.args.seen (letters_of c.args.word) next rest e in
    absurd (omega (arith, ap length c.letters-letters.ensures))

pub returns-then-letters-seen : goal.returns-then-letters-seen
returns-then-letters-seen c = λ next rest room fs open_ e.
    let k = follow.rest_of_word c.args.seen (letters_of c.args.word) next rest e in
    (refl, follow.word_wrong (plain_of c.args.word) c.args.from room fs c.args.at c.args.byte next rest (λ same. c.if-letters-seen.true (ap (λ l. get_or l c.args.seen 0) c.letters-letters.ensures ∙ k.1 ∙ same)))

pub returns-then-seen-letters-2 : goal.returns-then-seen-letters-2
returns-then-seen-letters-2 c = λ next rest room fs open_ e.
    let k = follow.rest_of_word c.args.seen (letters_of c.args.word) next rest e in
    let p = plain_of c.args.word in
    let some : 0 < length rest = omega (arith, ap length k.2, length-drop (c.args.seen + 1) (letters_of c.args.word), ap length c.letters-letters.ensures) in
    let w = follow.word_more p c.args.from c.args.at room fs rest some in
    let same : next ≡ c.args.byte = sym k.1 ∙ sym (ap (λ l. get_or l c.args.seen 0) c.letters-letters.ensures) ∙ c.if-letters-seen.false in
    follow.word_right c.args.self.now (Ok _) p c.args.from room fs c.args.at c.args.byte next rest same
    (spec.word p c.args.from w.0 w.1, room, fs, w.3, record { mode = (w.0, w.1, refl, k.2 ∙ w.2); brackets = open_ })

pub returns : goal.returns
returns c = λ next rest room fs open_ e.
    let k = follow.rest_of_word c.args.seen (letters_of c.args.word) next rest e in
    let p = plain_of c.args.word in
    let s = span c.args.from (c.args.at + 1) in
    let none : length rest ≡ 0 = omega (arith, ap length k.2, length-drop (c.args.seen + 1) (letters_of c.args.word), ap length c.letters-letters.ensures) in
    let same : next ≡ c.args.byte = sym k.1 ∙ sym (ap (λ l. get_or l c.args.seen 0) c.letters-letters.ensures) ∙ c.if-letters-seen.false in
    follow.word_right c.made.new.self c.made.result p c.args.from room fs c.args.at c.args.byte next rest same
    (subst (λ o. Follows c.args.at c.made.result c.made.new.self o) (sym (follow.word_done p c.args.from c.args.at room fs rest none)) (c.made.ensures (tree.plain p s) room fs open_ (follow.adds_plain c.args.self.now p s)))
