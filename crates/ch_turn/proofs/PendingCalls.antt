-- What a seat knows once a pending call was entered.
use Rattle.std.proofs.Common.{◌≡◌, ℕ, List, [], ◌∷◌, ◌++◌, Result, Ok, sym, ap, ◌∙◌, subst}
use Rattle.ch_base.specs.declared.entry.Entry.{Entry}
use Rattle.ch_base.specs.Growth.{entry, own}
use Rattle.ch_turn.specs.declared.table.View.{View}
use Rattle.ch_turn.specs.declared.table.Stage.TheVariants.{Recorded}

module _ {C A M : Type 0} where
  -- the entry that is pending is legal, as that of the call is
  pub pending_legal : (legal : ℕ × ℕ → List (Entry C A) → Type 0) (v u : View C A) (call told : C) (answer : A) (r : Result A M) → v ≡ u → told ≡ call → Ok answer ≡ r
      → legal v.place (v.seen ++ own v.low call r) → legal u.place (u.seen ++ entry u.low told answer ∷ [])
  pending_legal legal v u call told answer r same calls answers h =
      subst (λ (z : View C A × C × Result A M). legal z.0.place (z.0.seen ++ own z.0.low z.1 z.2)) (λ i. (same i, sym calls i, sym answers i)) h

  -- the seat has then seen the entry of the call
  pub pending_view : (v u w : View C A) (t : ℕ) (call told : C) (answer : A) (r : Result A M) → v ≡ u → told ≡ call → Ok answer ≡ r
      → w ≡ record u { stage = Recorded t; seen = u.seen ++ entry u.low told answer ∷ [] } → w ≡ record v { stage = w.stage; seen = v.seen ++ own v.low call r }
  pending_view v u w t call told answer r same calls answers is =
      is ∙ (λ i. let x : View C A = record (sym same i) { stage = sym (ap (λ (z : View C A). z.stage) is) i; seen = (sym same i).seen ++ own (sym same i).low (calls i) (answers i) } in x)
