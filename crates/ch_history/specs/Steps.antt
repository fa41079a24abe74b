-- What the histories of all objects have in common. A history is a list of steps, the oldest first; h ++ e ∷ [] is the
-- history h with one more step.
use Rattle.std.specs.Prelude.{Bool, List, [], ◌∷◌, ◌++◌, if◌then◌else◌}
use Rattle.std.specs.List.{list_any}

-- what f makes of each step after the last one that stops, in order; h is the history before the steps
abbrev pub gathered : {S A : Type 0} → (S → Bool) → (List S → S → List A) → List S → List S → List A
gathered stops f h [] = []
gathered stops f h (e ∷ later) =
    (if list_any stops (e ∷ later) then [] else f h e) ++ gathered stops f (h ++ e ∷ []) later

-- what f makes of the last step that starts and of each step after it, in order; h is the history before the steps
abbrev pub gathered_from : {S A : Type 0} → (S → Bool) → (List S → S → List A) → List S → List S → List A
gathered_from starts f h [] = []
gathered_from starts f h (e ∷ later) =
    (if list_any starts later then [] else f h e) ++ gathered_from starts f (h ++ e ∷ []) later

-- each step holds after the steps before it; h is the history before the first
abbrev pub AllHold : {S : Type 0} → (List S → S → Type 0) → List S → List S → Type 0
AllHold holds h [] = Unit {0}
AllHold holds h (e ∷ later) = holds h e × AllHold holds (h ++ e ∷ []) later

-- what f makes of a by each step in turn; h is the history before the steps
abbrev pub folded : {S A : Type 0} → (List S → S → A → A) → A → List S → List S → A
folded f a h [] = a
folded f a h (e ∷ later) = folded f (f h e a) (h ++ e ∷ []) later
