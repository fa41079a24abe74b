use Rattle.std.proofs.Common.{arith, refl, sym, subst, ◌∷◌, []}
use Rattle.ch_json.specs.Machine as spec
use Rattle.ch_json.specs.Machine.{step, start, after_step, span}
use Rattle.ch_json.specs.ReaderView.{Follows}
use Rattle.ch_json.proofs.reader.Reader.begin.Goals as goal

pub returns-in-34 : goal.returns-in-34
unfolding start
returns-in-34 c = λ room fs open_. (_, room, fs, rw c.in-34.is refl, record { mode = refl; brackets = open_ })

pub returns-in-91 : goal.returns-in-91
unfolding start
returns-in-91 c = λ room fs open_. subst (λ y. Follows c.args.at c.open.result c.args.self.now (start room fs c.args.at y)) (sym c.in-91.is) (c.open.ensures (spec.first_item c.args.at) room fs open_ refl refl)

pub returns-in-123 : goal.returns-in-123
unfolding start
returns-in-123 c = λ room fs open_. subst (λ y. Follows c.args.at c.open-in-123.result c.args.self.now (start room fs c.args.at y)) (sym c.in-123.is) (c.open-in-123.ensures (spec.first_key c.args.at) room fs open_ refl refl)

pub returns-in-110 : goal.returns-in-110
unfolding start
returns-in-110 c = λ room fs open_. (_, room, fs, rw c.in-110.is refl, record { mode = (117, 108 ∷ 108 ∷ [], refl, refl); brackets = open_ })

pub returns-in-102 : goal.returns-in-102
unfolding start
returns-in-102 c = λ room fs open_. (_, room, fs, rw c.in-102.is refl, record { mode = (97, 108 ∷ 115 ∷ 101 ∷ [], refl, refl); brackets = open_ })

pub returns-in-116 : goal.returns-in-116
unfolding start
returns-in-116 c = λ room fs open_. (_, room, fs, rw c.in-116.is refl, record { mode = (114, 117 ∷ 101 ∷ [], refl, refl); brackets = open_ })

pub returns-in-45 : goal.returns-in-45
unfolding start
returns-in-45 c = λ room fs open_. (_, room, fs, rw c.in-45.is refl, record { mode = refl; brackets = open_ })

pub returns-in-More : goal.returns-in-More
unfolding start
returns-in-More c = λ room fs open_. (_, room, fs, grind (arith, c.in-More.ensures), record { mode = refl; brackets = open_ })

pub returns-in-Stop : goal.returns-in-Stop
unfolding start
returns-in-Stop c = λ room fs open_. (refl, grind (arith, c.in-Stop.ensures))
