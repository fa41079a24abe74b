-- That each body has one meaning.
use Rattle.std.specs.Prelude.{◌≡◌, ℕ, List, Option}
use Rattle.ch_requests.specs.Triggers.{ReadsBody}
use Rattle.ch_requests.specs.declared.request.Route.{Route}
use Rattle.ch_requests.specs.declared.trigger.Trigger.{Trigger}

-- a body is read in at most one way: as these events, or as none
abbrev pub OneReading : Type 0
OneReading = (route : Route) (body : List ℕ) (a b : Option (List Trigger)) → ReadsBody route body a → ReadsBody route body b → a ≡ b
