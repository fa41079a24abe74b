-- The asks of a message that were made, one after another.
use Rattle.std.specs.Prelude.{◌≡◌, ◌+◌, ℕ, List, [], ◌∷◌, MatchBool}
use Rattle.std.specs.List.{fold}
use Rattle.ch_protocol.specs.Asks.{Asked, ComesOf}
use Rattle.ch_protocol.specs.Sessions.{outcome}
use Rattle.ch_protocol.specs.Settling.{SettledAsk, settled_with}
use Rattle.ch_protocol.specs.declared.ask.Ask.{Ask}
use Rattle.ch_protocol.specs.declared.heard.Settled.{Settled}
use Rattle.ch_dispatch.specs.Outcomes.{stops}

-- what each of these means that were made from this place of the message on; user_data: those of a sign-in
abbrev pub outcomes_from : List ℕ → ℕ → List Asked → List Settled
outcomes_from user_data place [] = []
outcomes_from user_data place (x ∷ xs) = outcome user_data place x.came ∷ outcomes_from user_data (place + 1) xs

-- the asks from this place of the message on were made in order, up to the first that stops: all where none does
abbrev pub AreMadeFrom : List ℕ → ℕ → List Ask → List Asked → Type 0
AreMadeFrom user_data place [] asked = asked ≡ []
AreMadeFrom user_data place (ask ∷ asks) [] = ⊥
AreMadeFrom user_data place (ask ∷ asks) (x ∷ xs) =
    (x.ask ≡ ask) × ComesOf ask x.came
    × MatchBool (stops (outcome user_data place x.came)) (xs ≡ []) (AreMadeFrom user_data (place + 1) asks xs)

-- the settled asks of a session with these, which were settled at the moment now
abbrev pub settled_all : ℕ → List SettledAsk → List Asked → List SettledAsk
settled_all now asks asked = fold (λ l x. settled_with l x.ask x.came now) asks asked
