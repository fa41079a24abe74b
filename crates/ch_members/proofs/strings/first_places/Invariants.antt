use Rattle.std.proofs.Common.{◌≡◌, take}
use Rattle.ch_base.specs.FirstPlaces.{first_places}
use Rattle.ch_members.proofs.strings.first_places.Given as goal

abbrev pub invariant-loop-text : goal.invariant-loop-text
invariant-loop-text l = l.kept ≡ first_places (take l.text-index l.texts)
