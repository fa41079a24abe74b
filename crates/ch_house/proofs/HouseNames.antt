-- The numbers that name a house's locks tell the house.
use Rattle.std.proofs.Common.{◌≡◌, refl, sym, ◌∙◌, ap, ℕ, List, [], ◌∷◌, map}
use Rattle.atomic_table.specs.Seated.{TableId}
use Rattle.ch_desk.specs.Views.{House}
use Rattle.ch_house.specs.DeskViews.{lock_name, row_names, house_names, NamesTellHouses}
use Rattle.ch_house.specs.Houses.{HouseModel}
use Rattle.ch_house.specs.Rows.{RowModel, row_model}
use Rattle.ch_turn.specs.PassModels.{LockModel}

abbrev some_table : TableId
some_table = record { words = 0; slots = 0; views_name = 0; atom = 0; block = 0; offset = 0; slot_names = [] }

abbrev named : List ℕ → LockModel
named (callers ∷ k ∷ n ∷ words ∷ slots ∷ views ∷ atom ∷ block ∷ offset ∷ slot_names) = record {
  table = record { words = words; slots = slots; views_name = views; atom = atom; block = block; offset = offset; slot_names = slot_names };
  callers = callers;
  place = (k, n);
}
named _ = record { table = some_table; callers = 0; place = (0, 0) }

named-name : (lock : LockModel) → named (lock_name lock) ≡ lock
named-name lock = refl

named-names : (locks : List LockModel) → map named (map lock_name locks) ≡ locks
named-names [] = refl
named-names (lock ∷ locks) = ap (λ rest. lock ∷ rest) (named-names locks)

abbrev named_row : List (List ℕ) → RowModel
named_row ((callers ∷ []) ∷ names) = row_model (map named names) callers
named_row _ = row_model [] 0

named_row-names : (row : RowModel) → named_row (row_names row) ≡ row
named_row-names row = ap (λ locks. row_model locks row.callers) (named-names row.locks)

abbrev named_house : House → HouseModel
named_house (chans, users) = record { chans = named_row chans; users = named_row users }

named_house-names : (house : HouseModel) → named_house (house_names house) ≡ house
named_house-names house = ap (λ row. record { chans = row; users = named_row (row_names house.users) }) (named_row-names house.chans)
    ∙ ap (λ row. record { chans = house.chans; users = row }) (named_row-names house.users)

pub names_tell_houses : NamesTellHouses
names_tell_houses a b same = sym (named_house-names a) ∙ ap named_house same ∙ named_house-names b
