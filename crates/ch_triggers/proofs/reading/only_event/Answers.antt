use Rattle.std.proofs.Common.{◌≡◌, List, [], ◌∷◌, Some, refl, sym, subst}
use Rattle.std.specs.Prelude.{Option}
use Rattle.ch_members.specs.Readings.{Gives}
use Rattle.ch_members.proofs.Gives.{gives_some, on_ok}
use Rattle.ch_requests.specs.Triggers.{TellsEvent}
use Rattle.ch_requests.specs.declared.trigger.Trigger.{Trigger}
use Rattle.ch_triggers.specs.Bodies.{IsOnly}
use Rattle.ch_triggers.proofs.reading.only_event.Goals as goal

pub returns-in-Some : goal.returns-in-Some
returns-in-Some c =
    let tells = TellsEvent c.args.body.now in
    let t = c.in-Some.trigger in
    let is = gives_some tells c.in_ok-trigger.field-0 t c.in_ok-trigger.ensures c.in-Some.is in
    on_ok (λ (o : Option (List Trigger)). o ≡ Some (t ∷ [])) (Gives (IsOnly tells)) c.only.result (λ o e. subst (Gives (IsOnly tells)) (sym e) (t, is, refl)) c.only.ensures

pub returns-in-None : goal.returns-in-None
returns-in-None c = λ ts k. let none = subst (Gives (TellsEvent c.args.body.now)) c.in-None.is c.in_ok-trigger.ensures in none k.0 k.1
