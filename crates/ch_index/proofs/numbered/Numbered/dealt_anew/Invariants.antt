use Rattle.std.proofs.Common.{◌≡◌, ◌+◌, ◌++◌, length}
use Rattle.std.specs.Map.{keys_of, values_of}
use Rattle.ch_index.specs.Numbered.{AreBelow}
use Rattle.ch_index.proofs.numbered.Numbered.dealt_anew.Given as goal

abbrev pub invariant-rows : goal.invariant-rows
invariant-rows g l =
    (goal.iterator-rows g).can_next l.left × (goal.iterator-rows g).is_finite l.left
    × (values_of l.anew ++ l.left ≡ values_of l.self-inside.rows.entries)
    × (l.number + length l.left ≡ length l.self-inside.rows.entries)
    × AreBelow l.number (keys_of l.anew)
