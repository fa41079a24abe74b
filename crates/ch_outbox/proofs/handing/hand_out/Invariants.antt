use Rattle.std.proofs.Common.{◌≡◌, ℕ, ◌<◌, ◌++◌, All}
use Rattle.std.specs.Arc.{arc_value}
use Rattle.ch_outbox.specs.Handed.{handed}
use Rattle.ch_outbox.proofs.handing.hand_out.Given as goal

abbrev pub invariant-holders : goal.invariant-holders
invariant-holders l =
    goal.iterator-holders.can_next l.holders × goal.iterator-holders.is_finite l.holders
    × (l.made.items ++ handed (arc_value l.printed) l.except l.holders ≡ l.initial.made.items ++ handed (arc_value l.printed) l.except l.initial.holders)
    × ((n : ℕ) → All (λ d. d.owner < n) l.initial.made.items → All (λ h. h.owner < n) l.initial.holders → All (λ d. d.owner < n) l.made.items × All (λ h. h.owner < n) l.holders)
