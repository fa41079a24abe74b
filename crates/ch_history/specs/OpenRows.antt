-- Rows that some steps of a history open and later ones settle: subscriptions, sign-ins and watches.
use Rattle.std.specs.Prelude.{Bool, true, false, not, List, [], ◌∷◌, ◌++◌, Option, Some, None, filter, option_to_list, if◌then◌else◌}
use Rattle.std.specs.List.{list_any, cons_option}

-- the row, unless a later step settles it
abbrev pub unsettled : {S R : Type 0} → (R → S → Bool) → List S → Option R → Option R
unsettled settles later None = None
unsettled settles later (Some r) = if list_any (settles r) later then None else Some r

-- the rows that the steps open and no later step settles, in the order of the steps that opened them
abbrev pub open_rows : {S R : Type 0} → (S → Option R) → (R → S → Bool) → List S → List R
open_rows opens settles [] = []
open_rows opens settles (e ∷ later) = cons_option (unsettled settles later (opens e)) (open_rows opens settles later)

-- the rows after one more step: those that it doesn't settle, and then the one that it opens
abbrev pub rows_after : {S R : Type 0} → (S → Option R) → (R → S → Bool) → List R → S → List R
rows_after opens settles rows e = filter (λ r. not (settles r e)) rows ++ option_to_list (opens e)

-- whether there is no row
abbrev pub is_empty : {R : Type 0} → List R → Bool
is_empty [] = true
is_empty (r ∷ rows) = false
