use Rattle.std.proofs.Common.{◌≡◌, flat_map, take}
use Rattle.ch_history.specs.SignIns.{users_of}
use Rattle.ch_ushard.specs.Effects.{farewell}
use Rattle.ch_ushard.proofs.parting.farewells.Given as goal

abbrev pub invariant-loop-i : goal.invariant-loop-i
invariant-loop-i l = l.made ≡ flat_map (farewell l.watches l.socket) (take l.i (users_of l.watches.signs l.socket))
