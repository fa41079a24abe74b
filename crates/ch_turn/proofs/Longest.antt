-- The history of a closed lock is the longest of the passes' lists: its last entry stands in its caller's list.
use Rattle.std.proofs.Common.{◌≡◌, ◌⊎◌, inl, inr, ℕ, ◌+◌, ◌-◌, ◌<◌, List, [], ◌∷◌, ◌++◌, length, get_or, Option, None, IsSome, sym, refl, ap, ◌∙◌, arith, length-append}
use Rattle.std.proofs.lemmas.List.{append-nil, get_or-append-add}
use Rattle.ch_base.specs.declared.entry.Entry.{Entry}
use Rattle.ch_base.specs.Growth.{NotBy}
use Rattle.ch_turn.specs.Callers.{CallersBelow}
use Rattle.ch_turn.specs.PassModels.{LockModel, PassModel, IsListOfOne, EachGrowsByOthers, AllInPlace}
use Rattle.ch_turn.proofs.Entries.{not_by-at}
use Rattle.ch_turn.proofs.PassLists.{some_of}

module _ {C A : Type 0} where
  -- the last entry, or d where there is none
  abbrev last_or : Entry C A → List (Entry C A) → Entry C A
  last_or d log = get_or log (length log - 1) d

  last_in_rest : (d : Entry C A) (front rest : List (Entry C A)) → 0 < length rest → last_or d (front ++ rest) ≡ last_or d rest
  last_in_rest d front rest l =
      let at : length (front ++ rest) - 1 ≡ length front + (length rest - 1) = omega (arith, length-append front rest) in
      ap (λ k. get_or (front ++ rest) k d) at ∙ get_or-append-add front rest (length rest - 1) d

  -- where the last entry of the log is of the caller whose list is a front of it, nothing follows that front
  whole : (d : Entry C A) (caller : ℕ) (front log : List (Entry C A)) → (last_or d log).caller ≡ caller
      → (more : List (Entry C A)) → front ++ more ≡ log → NotBy caller more → front ≡ log
  whole d caller front log last [] is others = sym (append-nil front) ∙ is
  whole d caller front log last (x ∷ xs) is others =
      let same : last_or d log ≡ last_or d (x ∷ xs) = ap (last_or d) (sym is) ∙ last_in_rest d front (x ∷ xs) (omega arith) in
      let apart = not_by-at caller (x ∷ xs) (length (x ∷ xs) - 1) d others (omega arith) in
      absurd (apart (ap (λ (e : Entry C A). e.caller) (sym same) ∙ last))

  pub is_longest : (legal : ℕ × ℕ → List (Entry C A) → Type 0) (lock : LockModel) (slots : List (Option (PassModel C A))) (log : List (Entry C A))
      → AllInPlace legal lock slots → ((i : ℕ) → i < lock.callers → IsSome (get_or slots i None))
      → EachGrowsByOthers slots log → CallersBelow lock.callers log → IsListOfOne slots log ⊎ (log ≡ [])
  is_longest legal lock slots [] in_place all each known = inr refl
  is_longest legal lock slots (e ∷ es) in_place all each known =
      let log : List (Entry C A) = e ∷ es in
      let i : ℕ = (last_or e log).caller in
      let there = some_of (get_or slots i None) (all i (known (length log - 1) e (omega arith))) in
      let grows = each i there.0 there.1 in
      let is : i ≡ there.0.caller = sym (in_place i there.0 there.1).0 in
      inl (i, there.0, there.1, whole e there.0.caller there.0.seen log is grows.0 grows.1 grows.2)
