-- A row's number taken out of the indexes again.
use Rattle.std.proofs.Common.{◌≡◌, ℕ, true, false, ◌&&◌, ◌==◌, cond, List, [], ◌∷◌, ◌++◌, Some, None, bytes_eq, refl, ap, ap₂, sym, ◌∙◌, append-nil}
use Rattle.std.specs.Option.{option_or}
use Rattle.std.specs.Ordering.{is_eq, nat_cmp}
use Rattle.std.specs.Cmp.Lexicographic.{slice_cmp}
use Rattle.std.specs.Map.{keys_of, lookup, remove_entry}
use Rattle.std.specs.BTreeMap.{BTreeMap, is_at}
use Rattle.std.proofs.lemmas.Map.Text.{is_eq-slice_cmp}
use Rattle.ch_history.proofs.Texts.{same_text, text_itself}
use Rattle.ch_index.specs.Nest.{inner}
use Rattle.ch_index.specs.Numbered.{AreBelow, marks_at, number_of}
use Rattle.ch_index.proofs.Compared.{is_eq-nat_cmp, same_number, number_itself, not_at}
use Rattle.ch_index.proofs.Adding.{marks_below, marks_push, number_push}

pub without_last : {X : Type 0} (n : ℕ) (x : X) (es : List (ℕ × X)) → AreBelow n (keys_of es) → remove_entry (is_at (nat_cmp n)) (es ++ (n, x) ∷ []) ≡ es
without_last n x [] below = ap (λ b. cond b [] ((n, x) ∷ [])) (is_eq-nat_cmp n n ∙ number_itself n)
without_last n x (e ∷ es) below =
    ap (λ b. cond b (es ++ (n, x) ∷ []) (e ∷ remove_entry (is_at (nat_cmp n)) (es ++ (n, x) ∷ []))) (not_at n e.0 below.0)
    ∙ ap (λ ys. e ∷ ys) (without_last n x es below.1)

module _ {R : Type 0} (name : R → List ℕ) where
  module _ {M : Type 0} (mark : R → M) where
    pub untake_name : (mid new : BTreeMap (List ℕ) (BTreeMap ℕ M)) (es : List (ℕ × R)) (n : ℕ) (r : R) (key c : List ℕ) → key ≡ name r → ((d : List ℕ) → inner (slice_cmp nat_cmp) mid d ≡ marks_at name mark (es ++ (n, r) ∷ []) d) → AreBelow n (keys_of es) → inner (slice_cmp nat_cmp) new c ≡ cond (is_eq (slice_cmp nat_cmp key c)) (remove_entry (is_at (nat_cmp n)) (inner (slice_cmp nat_cmp) mid key)) (inner (slice_cmp nat_cmp) mid c) → inner (slice_cmp nat_cmp) new c ≡ marks_at name mark es c
    untake_name mid new es n r key c its agrees below is =
        let was = λ (d : List ℕ). inner (slice_cmp nat_cmp) mid d in
        let t = is_at (nat_cmp n) in
        is
        ∙ ap (λ d. cond (is_eq (slice_cmp nat_cmp d c)) (remove_entry t (was d)) (was c)) its
        ∙ ap (λ b. cond b (remove_entry t (was (name r))) (was c)) (is_eq-slice_cmp (name r) c)
        ∙ (elim (bytes_eq (name r) c) as (λ b. bytes_eq (name r) c ≡ b → cond b (remove_entry t (was (name r))) (was c) ≡ marks_at name mark es c) [
          | true ↦ (λ same.
              ap (remove_entry t) (agrees (name r) ∙ marks_push name mark es n r (name r) ∙ ap (λ b. marks_at name mark es (name r) ++ cond b ((n, mark r) ∷ []) []) (text_itself (name r)))
              ∙ without_last n (mark r) (marks_at name mark es (name r)) (marks_below name mark n es (name r) below)
              ∙ ap (marks_at name mark es) (same_text (name r) c same))
          | false ↦ (λ other.
              agrees c ∙ marks_push name mark es n r c ∙ ap (λ b. marks_at name mark es c ++ cond b ((n, mark r) ∷ []) []) other ∙ append-nil (marks_at name mark es c))
        ]) refl

  module _ (socket : R → ℕ) where
    pub untake_socket : (mid new : BTreeMap ℕ (BTreeMap (List ℕ) ℕ)) (es : List (ℕ × R)) (n : ℕ) (r : R) (at s : ℕ) (key c : List ℕ) → at ≡ socket r → key ≡ name r → ((t : ℕ) (d : List ℕ) → lookup (is_at (slice_cmp nat_cmp d)) (inner nat_cmp mid t) ≡ number_of name socket (es ++ (n, r) ∷ []) t d) → number_of name socket es (socket r) (name r) ≡ None → lookup (is_at (slice_cmp nat_cmp c)) (inner nat_cmp new s) ≡ cond (is_eq (nat_cmp at s)) (cond (is_eq (slice_cmp nat_cmp key c)) None (lookup (is_at (slice_cmp nat_cmp c)) (inner nat_cmp mid at))) (lookup (is_at (slice_cmp nat_cmp c)) (inner nat_cmp mid s)) → lookup (is_at (slice_cmp nat_cmp c)) (inner nat_cmp new s) ≡ number_of name socket es s c
    untake_socket mid new es n r at s key c here_is its agrees absent is =
        let was = λ (t : ℕ). lookup (is_at (slice_cmp nat_cmp c)) (inner nat_cmp mid t) in
        let without = number_of name socket es s c in
        let with = option_or without (Some n) in
        is
        ∙ ap₂ (λ t d. cond (is_eq (nat_cmp t s)) (cond (is_eq (slice_cmp nat_cmp d c)) None (was t)) (was s)) here_is its
        ∙ ap₂ (λ a b. cond a (cond b None (was (socket r))) (was s)) (is_eq-nat_cmp (socket r) s) (is_eq-slice_cmp (name r) c)
        ∙ (elim (socket r == s) as (λ a. (socket r == s) ≡ a → cond a (cond (bytes_eq (name r) c) None (was (socket r))) (was s) ≡ without) [
          | true ↦ (λ here. (elim (bytes_eq (name r) c) as (λ b. bytes_eq (name r) c ≡ b → cond b None (was (socket r)) ≡ without) [
            | true ↦ (λ same. sym (ap₂ (number_of name socket es) (sym (same_number (socket r) s here)) (sym (same_text (name r) c same)) ∙ absent))
            | false ↦ (λ other.
                ap was (same_number (socket r) s here) ∙ agrees s c ∙ number_push name socket es n r s c ∙ ap₂ (λ a b. cond (a && b) with without) here other)
          ]) refl)
          | false ↦ (λ there. agrees s c ∙ number_push name socket es n r s c ∙ ap (λ a. cond (a && bytes_eq (name r) c) with without) there)
        ]) refl
