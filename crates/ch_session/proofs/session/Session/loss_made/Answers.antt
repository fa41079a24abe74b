use Rattle.std.proofs.Common.{◌+◌, ap, sym, ◌∙◌, subst}
use Rattle.std.specs.Prelude.{drop, Some, None}
use Rattle.ch_session.specs.Kept.{Kept, losses_left}
use Rattle.ch_session.specs.Losses.{IsNextUsed}
use Rattle.ch_session.proofs.LossLemmas.{left_none, left_some, next_once, next_some}
use Rattle.ch_session.proofs.session.Session.loss_made.Goals as goal

pub returns-in-Some-clause-made : goal.returns-in-Some-clause-made
returns-in-Some-clause-made c = λ start number now asks stands.
    let P : Kept → Type 0 = λ s. IsNextUsed s.told.used s.lost (Some c.in-Some.place) in
    let some = left_some c.args.self.now start number asks now c.in-Some.place stands (subst P c.self.view_is c.in-Some.ensures) in
    let same = ap (λ (s : Kept). losses_left (record s { lost = c.in-Some.place + 1 }) asks now) c.self.view_is in
    same ∙ sym (ap (λ xs. drop 1 xs) some)

pub returns-in_default-clause-made : goal.returns-in_default-clause-made
returns-in_default-clause-made c = λ start number now asks stands.
    let P : Kept → Type 0 = λ s. IsNextUsed s.told.used s.lost None in
    let none = left_none c.args.self.now start number asks now stands (subst P c.self.view_is c.in_default.ensures) in
    none ∙ sym (ap (λ xs. drop 1 xs) none)

pub returns-in-Some-clause-moves : goal.returns-in-Some-clause-moves
returns-in-Some-clause-moves c = λ place next.
    let P : Kept → Type 0 = λ s. IsNextUsed s.told.used s.lost (Some c.in-Some.place) in
    ap (λ p. p + 1) (next_once c.args.self.now.told.used c.args.self.now.lost c.in-Some.place place (subst P c.self.view_is c.in-Some.ensures) next)

pub returns-in_default-clause-moves : goal.returns-in_default-clause-moves
returns-in_default-clause-moves c = λ place next.
    let P : Kept → Type 0 = λ s. IsNextUsed s.told.used s.lost None in
    absurd (next_some c.args.self.now.told.used c.args.self.now.lost place (subst P c.self.view_is c.in_default.ensures) next)
