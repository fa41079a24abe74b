-- A caller's passes, as what a desk shows of them.
use Rattle.std.specs.Prelude.{◌≡◌, ℕ, List, ◌∷◌, [], length, map}
use Rattle.ch_desk.specs.Views.{DeskView, House}
use Rattle.ch_house.specs.Houses.{HouseModel, PassesModel, seen, seen_user}
use Rattle.ch_house.specs.Rows.{RowModel}
use Rattle.ch_turn.specs.PassModels.{LockModel}

-- the numbers that name a lock
abbrev pub lock_name : LockModel → List ℕ
lock_name lock = let table = lock.table in
    lock.callers ∷ lock.place.0 ∷ lock.place.1 ∷ table.words ∷ table.slots ∷ table.views_name
    ∷ table.atom ∷ table.block ∷ table.offset ∷ table.slot_names

-- those of a row's locks, behind the number of its callers
abbrev pub row_names : RowModel → List (List ℕ)
row_names row = (row.callers ∷ []) ∷ map lock_name row.locks

abbrev pub house_names : HouseModel → House
house_names house = (row_names house.chans, row_names house.users)

-- the house, the caller, how many shards of each kind there are, and of each the history as the caller knows it
abbrev pub view_of : PassesModel → DeskView
view_of passes = record {
  house = house_names passes.house;
  caller = passes.caller;
  chan_shards = length passes.chans;
  user_shards = length passes.users;
  chans = seen passes;
  users = seen_user passes;
}

-- the names tell a house from any other
abbrev pub NamesTellHouses : Type 0
NamesTellHouses = (a b : HouseModel) → house_names a ≡ house_names b → a ≡ b
