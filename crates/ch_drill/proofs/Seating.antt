-- The passes of those who sat down and worked.
use Rattle.std.proofs.Common.{◌≡◌, ℕ, zero, suc, List, [], ◌∷◌, length, map, Some, ap, sym, ◌∙◌, refl, subst, arith}
use Rattle.std.proofs.lemmas.List.{length-map}
use Rattle.std.specs.Prelude.{slice_get}
use Rattle.std.proofs.lemmas.Option.{same_Some}
use Rattle.ch_house.specs.Houses.{HouseModel, PassesModel, ArePassesOf}
use Rattle.ch_pool.specs.AllPasses.{AreAllOf}
use Rattle.ch_drill.specs.declared.seat.Seat.{Seat}

abbrev pub desks : List Seat → List PassesModel
desks seats = map (λ (s : Seat). s.desk) seats

-- each desk has the passes of the same caller of the same house as before
abbrev pub KeepsPasses : List Seat → List Seat → Type 0
KeepsPasses was now = (i : ℕ) (old new : Seat) → slice_get was i ≡ Some old → slice_get now i ≡ Some new → ArePassesOf old.desk.house old.desk.caller new.desk

-- the seat of these passes, and the one that stood in its place before
record Found (was now : List Seat) (i : ℕ) (p : PassesModel) : Type 0 where
  old : Seat
  new : Seat
  old_at : slice_get was i ≡ Some old
  new_at : slice_get now i ≡ Some new
  desk_is : new.desk ≡ p
  passes_at : slice_get (desks was) i ≡ Some old.desk

found : (was now : List Seat) (i : ℕ) (p : PassesModel) → length now ≡ length was → slice_get (desks now) i ≡ Some p → Found was now i p
found was [] i p long at = absurd (cc)
found [] (s ∷ now) i p long at = absurd (omega arith)
found (w ∷ was) (s ∷ now) zero p long at = record { old = w; new = s; old_at = refl; new_at = refl; desk_is = same_Some s.desk p at; passes_at = refl }
found (w ∷ was) (s ∷ now) (suc i) p long at =
    let f = found was now i p (omega arith) at in
    record { old = f.old; new = f.new; old_at = f.old_at; new_at = f.new_at; desk_is = f.desk_is; passes_at = f.passes_at }

-- so those who get up have the passes of all callers, where those who sat down had them
pub all_get_up : (house : HouseModel) (was now : List Seat) (taken back : List PassesModel) → AreAllOf house taken → desks was ≡ taken → length now ≡ length was
    → KeepsPasses was now → back ≡ desks now → AreAllOf house back
all_get_up house was now taken back own sat long kept up = (
  omega (arith, ap length up, length-map now (λ (s : Seat). s.desk), long, length-map was (λ (s : Seat). s.desk), ap length sat, own.0),
  λ i p at.
      let f = found was now i p long (ap (λ l. slice_get l i) (sym up) ∙ at) in
      let first = own.1 i f.old.desk (ap (λ l. slice_get l i) (sym sat) ∙ f.passes_at) in
      let then = kept i f.old f.new f.old_at f.new_at in
      subst (ArePassesOf house i) f.desk_is (then.0 ∙ first.0, then.1 ∙ first.1),
)
