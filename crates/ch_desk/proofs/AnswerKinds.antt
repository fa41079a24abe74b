-- The kinds of the answers of legal histories.
use Rattle.std.proofs.Common.{◌≡◌, ℕ, List, [], ◌∷◌, ◌++◌, sym, subst}
use Rattle.std.specs.Prelude.{Result, IfOk, Ok, Err}
use Rattle.ch_base.specs.Growth.{entry, GrowsBy}
use Rattle.ch_base.specs.declared.entry.Entry.{Entry}

module _ {C A : Type 0} (legal : ℕ × ℕ → List (Entry C A) → Type 0) (answer_by_law : List (Entry C A) → ℕ → C → A) (Kind : C → A → Type 0)
    (answered_by_law : (at : ℕ × ℕ) (h : List (Entry C A)) (e : Entry C A) → legal at (h ++ e ∷ []) → e.answer ≡ answer_by_law h e.caller e.call)
    (kind_by_law : (h : List (Entry C A)) (caller : ℕ) (call : C) → Kind call (answer_by_law h caller call)) where
  -- where a call's entry ends a legal history, the answer is of a kind that the call can have
  pub answer_kind : {M : Type 0} (at : ℕ × ℕ) (caller : ℕ) (call : C) (r : Result A M) (before after : List (Entry C A)) → GrowsBy caller call r before after → legal at after → IfOk r (Kind call)
  answer_kind at caller call (Ok a) before after grows is =
      let h = before ++ grows.0 in
      subst (Kind call) (sym (answered_by_law at h (entry caller call a) (subst (legal at) grows.2 is))) (kind_by_law h caller call)
  answer_kind at caller call (Err m) before after grows is = tt
