use Rattle.std.proofs.Common.{◌≡◌, find, length}
use Rattle.ch_index.specs.Nest.{is_used}
use Rattle.ch_index.proofs.nest.first_used.Given as goal

abbrev pub invariant-keys : goal.invariant-keys
invariant-keys g l = find (λ e. is_used e.1) l.later ≡ find (λ e. is_used e.1) l.initial.later

abbrev pub decreases-keys : goal.decreases-keys
decreases-keys g l = length l.later
