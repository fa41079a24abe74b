-- The threads of the workers before they start.
use Rattle.std.proofs.Common.{◌≡◌, ℕ, List, [], ◌∷◌, ◌++◌, length, Some, sym, subst}
use Rattle.std.specs.Prelude.{slice_get}
use Rattle.ch_config.specs.declared.config.Config.{Config}
use Rattle.ch_house.proofs.Places.{each_more}
use Rattle.ch_house.specs.Houses.{HouseModel, fresh_passes}
use Rattle.ch_worker.specs.Workers.{new_worker}
use Rattle.ch_serve.specs.Served.{Seat, seat}

-- each is a new worker at the desk of the caller with its number, which has seen nothing
abbrev pub AreNew : Config → ℕ → HouseModel → List Seat → Type 0
AreNew config start house threads = (i : ℕ) (t : Seat) → slice_get threads i ≡ Some t → t ≡ seat (new_worker config start) (fresh_passes house i)

pub new_more : (config : Config) (start : ℕ) (house : HouseModel) (n : ℕ) (threads now : List Seat) (t : Seat) → length threads ≡ n → now ≡ threads ++ t ∷ []
    → t ≡ seat (new_worker config start) (fresh_passes house n) → AreNew config start house threads → AreNew config start house now
new_more config start house n threads now t long is here before =
    let P : ℕ → Seat → Type 0 = λ i t. t ≡ seat (new_worker config start) (fresh_passes house i) in
    each_more P threads now t is before (subst (λ (k : ℕ). P k t) (sym long) here)
