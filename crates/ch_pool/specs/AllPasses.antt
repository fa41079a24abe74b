-- The passes of all callers of a house.
use Rattle.std.specs.Prelude.{◌≡◌, ℕ, List, length, Some, None, slice_get, slice_index_or}
use Rattle.ch_house.specs.Houses.{HouseModel, PassesModel, PassesListModel, ArePassesOf}

-- these are the passes of each caller of the house, in the order of their numbers
abbrev pub AreAllOf : HouseModel → List PassesModel → Type 0
AreAllOf house taken = (length taken ≡ house.chans.callers)
    × ((i : ℕ) (p : PassesModel) → slice_get taken i ≡ Some p → ArePassesOf house i p)

-- all passes are taken
abbrev pub IsEmptied : PassesListModel → Type 0
IsEmptied passes = (length passes.slots ≡ passes.house.chans.callers)
    × ((i : ℕ) → slice_index_or passes.slots i None ≡ None)
