use Rattle.std.proofs.Common.{ap, sym, ◌∙◌, subst}
use Rattle.std.specs.Prelude.{slice_get, Some, None}
use Rattle.ch_history.specs.Limits.{IsSocket}
use Rattle.ch_session.specs.Judging.{IsSoundAsk}
use Rattle.ch_session.specs.Kept.{Kept}
use Rattle.ch_session.specs.Losses.{IsNextUsed, loss_at}
use Rattle.ch_session.proofs.LossLemmas.{left_none, left_some, loss_sound}
use Rattle.ch_session.proofs.session.Session.next_loss.Goals as goal

pub returns-in-None-clause-left : goal.returns-in-None-clause-left
returns-in-None-clause-left c = λ start number asks stands.
    let P : Kept → Type 0 = λ s. IsNextUsed s.told.used s.lost None in
    let none = left_none c.args.self.now start number asks c.args.now stands (subst P c.self.view_is c.in-None.ensures) in
    sym (ap (λ xs. slice_get xs 0) none)

pub returns-in-Some-clause-left : goal.returns-in-Some-clause-left
returns-in-Some-clause-left c = λ start number asks stands.
    let P : Kept → Type 0 = λ s. IsNextUsed s.told.used s.lost (Some c.in-Some.place) in
    let some = left_some c.args.self.now start number asks c.args.now c.in-Some.place stands (subst P c.self.view_is c.in-Some.ensures) in
    let same = ap (λ (s : Kept). loss_at s.chans s.number c.args.now c.in-Some.place) c.self.view_is in
    ap Some (c.loss_at.ensures ∙ same) ∙ sym (ap (λ xs. slice_get xs 0) some)

pub returns-in-None-clause-next : goal.returns-in-None-clause-next
returns-in-None-clause-next c =
    let P : Kept → Type 0 = λ s. IsNextUsed s.told.used s.lost None in
    subst P c.self.view_is c.in-None.ensures

pub returns-in-Some-clause-next : goal.returns-in-Some-clause-next
returns-in-Some-clause-next c =
    let P : Kept → Type 0 = λ s. IsNextUsed s.told.used s.lost (Some c.in-Some.place) in
    let same = ap (λ (s : Kept). loss_at s.chans s.number c.args.now c.in-Some.place) c.self.view_is in
    (c.in-Some.place, subst P c.self.view_is c.in-Some.ensures, c.loss_at.ensures ∙ same)

pub returns-in-Some-clause-sound : goal.returns-in-Some-clause-sound
returns-in-Some-clause-sound c = λ config over moment.
    let P : Kept → Type 0 = λ s. IsNextUsed s.told.used s.lost (Some c.in-Some.place) in
    let next = subst P c.self.view_is c.in-Some.ensures in
    let same = ap (λ (s : Kept). loss_at s.chans s.number c.args.now c.in-Some.place) c.self.view_is in
    let socket = subst (λ (s : Kept). IsSocket s.number) c.self.view_is c.self.invariant.3 in
    subst (λ a. IsSoundAsk config a) (sym (c.loss_at.ensures ∙ same))
    (loss_sound c.args.self.now config c.args.now c.in-Some.place socket moment over next.1)
