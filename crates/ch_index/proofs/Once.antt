-- Rows of which no two have one socket and one name.
use Rattle.std.proofs.Common.{◌≡◌, ℕ, Bool, true, false, ◌&&◌, ◌||◌, cond, List, [], ◌∷◌, ◌++◌, Some, None, refl, ap, ap₂, sym, ◌∙◌, is_some, find, option_map}
use Rattle.std.specs.Map.{values_of, remove_entry}
use Rattle.std.proofs.lemmas.List.Folds.{list_any-append}
use Rattle.ch_history.proofs.Lists.{neither}
use Rattle.ch_index.specs.Rows.{is_of, has_row, EachOnce}
use Rattle.ch_index.specs.Numbered.{number_of}
use Rattle.ch_index.proofs.Compared.{number_swap, text_swap}

module _ {R : Type 0} (name : R → List ℕ) (socket : R → ℕ) where
  pub is_of-swap : (x r : R) → is_of name socket (socket x) (name x) r ≡ is_of name socket (socket r) (name r) x
  is_of-swap x r = ap₂ ◌&&◌ (number_swap (socket r) (socket x)) (text_swap (name r) (name x))

  pub EachOnce-push : (xs : List R) (r : R) → has_row name socket xs (socket r) (name r) ≡ false → EachOnce name socket xs → EachOnce name socket (xs ++ r ∷ [])
  EachOnce-push [] r none once = (refl, tt)
  EachOnce-push (x ∷ xs) r none once =
      let parts = neither (is_of name socket (socket r) (name r) x) (has_row name socket xs (socket r) (name r)) none in (
        list_any-append (is_of name socket (socket x) (name x)) xs (r ∷ [])
            ∙ ap₂ ◌||◌ once.0 (ap (λ b. b || false) (is_of-swap x r ∙ parts.0)),
        EachOnce-push xs r parts.1 once.1,
      )

  -- a row has a number exactly where it is there
  pub has_number : (es : List (ℕ × R)) (s : ℕ) (c : List ℕ) → is_some (number_of name socket es s c) ≡ has_row name socket (values_of es) s c
  has_number [] s c = refl
  has_number (e ∷ es) s c =
      (elim (is_of name socket s c e.1) as (λ b. is_of name socket s c e.1 ≡ b → is_some (number_of name socket (e ∷ es) s c) ≡ (b || has_row name socket (values_of es) s c)) [
        | true ↦ (λ is. ap (λ b. is_some (option_map (λ e. e.0) (cond b (Some e) (find (λ e. is_of name socket s c e.1) es)))) is)
        | false ↦ (λ is. ap (λ b. is_some (option_map (λ e. e.0) (cond b (Some e) (find (λ e. is_of name socket s c e.1) es)))) is ∙ has_number es s c)
      ]) refl

  pub no_row : (es : List (ℕ × R)) (s : ℕ) (c : List ℕ) → number_of name socket es s c ≡ None → has_row name socket (values_of es) s c ≡ false
  no_row es s c none = sym (has_number es s c) ∙ ap is_some none

  -- what isn't there isn't there once one is taken out
  pub has_row-remove : (test : ℕ → Bool) (es : List (ℕ × R)) (s : ℕ) (c : List ℕ) → has_row name socket (values_of es) s c ≡ false → has_row name socket (values_of (remove_entry test es)) s c ≡ false
  has_row-remove test [] s c none = refl
  has_row-remove test (e ∷ es) s c none =
      let parts = neither (is_of name socket s c e.1) (has_row name socket (values_of es) s c) none in
      elim (test e.0) as (λ b. has_row name socket (values_of (cond b es (e ∷ remove_entry test es))) s c ≡ false) [
        | true ↦ parts.1
        | false ↦ ap₂ ◌||◌ parts.0 (has_row-remove test es s c parts.1)
      ]

  pub EachOnce-remove : (test : ℕ → Bool) (es : List (ℕ × R)) → EachOnce name socket (values_of es) → EachOnce name socket (values_of (remove_entry test es))
  EachOnce-remove test [] once = tt
  EachOnce-remove test (e ∷ es) once =
      elim (test e.0) as (λ b. EachOnce name socket (values_of (cond b es (e ∷ remove_entry test es)))) [
        | true ↦ once.1
        | false ↦ (has_row-remove test es (socket e.1) (name e.1) once.0, EachOnce-remove test es once.1)
      ]
