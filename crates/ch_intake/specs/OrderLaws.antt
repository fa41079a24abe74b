-- What a legal order says of the items.
use Rattle.std.specs.Prelude.{◌≡◌, ◌≤◌, List, ◌++◌, length}
use Rattle.ch_intake.specs.declared.limits.TheConstants.{PLACES}
use Rattle.ch_intake.specs.declared.step.Step.{Step}
use Rattle.ch_intake.specs.Orders.{items_pushed, items_popped, items_waiting}

-- first in, first out: what was pushed is what was popped and then what waits, and at most `PLACES` items wait
abbrev pub ComeOutInOrder : {C : Type 0} → List (Step C) → Type 0
ComeOutInOrder steps =
    (items_pushed steps ≡ items_popped steps ++ items_waiting steps) × (length (items_waiting steps) ≤ PLACES)
