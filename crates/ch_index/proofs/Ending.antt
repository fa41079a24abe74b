-- The row with a number taken out of the rows and of both indexes.
use Rattle.std.proofs.Common.{◌≡◌, ℕ, ◌<◌, Bool, true, false, not, ◌&&◌, ◌==◌, cond, List, [], ◌∷◌, Option, Some, None, Less, bytes_eq, filter, find, map, option_map, refl, ap, ap₂, sym, ◌∙◌, subst}
use Rattle.std.specs.List.{AllByRecursion}
use Rattle.std.specs.List.Sorted.{IsStrictlySortedBy}
use Rattle.std.specs.Ordering.{is_eq, nat_cmp}
use Rattle.std.specs.Cmp.Lexicographic.{slice_cmp}
use Rattle.std.specs.Map.{keys_of, values_of, lookup, remove_entry}
use Rattle.std.specs.BTreeMap.{BTreeMap, is_at}
use Rattle.std.proofs.lemmas.Map.Keys.{sorted_head, sorted_tail}
use Rattle.std.proofs.lemmas.Map.Text.{is_eq-slice_cmp}
use Rattle.ch_history.proofs.Lists.{both, neither}
use Rattle.ch_history.proofs.Texts.{same_text, text_itself}
use Rattle.ch_index.specs.Nest.{inner}
use Rattle.ch_index.specs.Rows.{is_of, has_row, EachOnce}
use Rattle.ch_index.specs.Numbered.{marks_at, number_of}
use Rattle.ch_index.proofs.Compared.{less_number, is_eq-nat_cmp, same_number, number_itself, not_at, number_swap, text_swap}
use Rattle.ch_index.proofs.Once.{is_of-swap}

module _ {R : Type 0} (name : R → List ℕ) (socket : R → ℕ) where
  is_of_itself : (r : R) → is_of name socket (socket r) (name r) r ≡ true
  is_of_itself r = ap₂ ◌&&◌ (number_itself (socket r)) (text_itself (name r))

  -- a row that a number finds is among the rows
  found_there : (test : ℕ → Bool) (es : List (ℕ × R)) (r : R) (s : ℕ) (c : List ℕ) → lookup test es ≡ Some r → has_row name socket (values_of es) s c ≡ false → is_of name socket s c r ≡ false
  found_there test [] r s c found none = cc
  found_there test (e ∷ es) r s c found none =
      let parts = neither (is_of name socket s c e.1) (has_row name socket (values_of es) s c) none in
      (elim (test e.0) as (λ b. cond b (Some e.1) (lookup test es) ≡ Some r → is_of name socket s c r ≡ false) [
        | true ↦ (λ is. let same : e.1 ≡ r = cc in ap (is_of name socket s c) (sym same) ∙ parts.0)
        | false ↦ (λ is. found_there test es r s c is parts.1)
      ]) found

  -- the number that finds a row is the row's
  pub number_found : (n : ℕ) (es : List (ℕ × R)) (r : R) → EachOnce name socket (values_of es) → lookup (is_at (nat_cmp n)) es ≡ Some r → number_of name socket es (socket r) (name r) ≡ Some n
  number_found n [] r once found = cc
  number_found n (e ∷ es) r once found =
      let p : ℕ × R → Bool = λ e. is_of name socket (socket r) (name r) e.1 in
      (elim (is_eq (nat_cmp n e.0)) as (λ b. is_eq (nat_cmp n e.0) ≡ b → cond b (Some e.1) (lookup (is_at (nat_cmp n)) es) ≡ Some r → option_map (λ e. e.0) (cond (p e) (Some e) (find p es)) ≡ Some n) [
        | true ↦ (λ at is.
            let same : e.1 ≡ r = cc in
            let its : e.0 ≡ n = sym (same_number n e.0 (sym (is_eq-nat_cmp n e.0) ∙ at)) in
            ap (λ b. option_map (λ e. e.0) (cond b (Some e) (find p es))) (ap (is_of name socket (socket r) (name r)) same ∙ is_of_itself r) ∙ ap (λ k. Some k) its)
        | false ↦ (λ past is.
            ap (λ b. option_map (λ e. e.0) (cond b (Some e) (find p es))) (is_of-swap name socket r e.1 ∙ found_there (is_at (nat_cmp n)) es r (socket e.1) (name e.1) is once.0)
            ∙ number_found n es r once.1 is)
      ]) refl found

  number_above : (k n : ℕ) (es : List (ℕ × R)) (s : ℕ) (c : List ℕ) → AllByRecursion (λ y. nat_cmp k y ≡ Less) (keys_of es) → number_of name socket es s c ≡ Some n → k < n
  number_above k n [] s c above is = cc
  number_above k n (e ∷ es) s c above is =
      let p : ℕ × R → Bool = λ e. is_of name socket s c e.1 in
      (elim (p e) as (λ b. option_map (λ e. e.0) (cond b (Some e) (find p es)) ≡ Some n → k < n) [
        | true ↦ (λ is. let same : e.0 ≡ n = cc in subst (λ m. k < m) same (less_number k e.0 above.0))
        | false ↦ (λ is. number_above k n es s c above.1 is)
      ]) is

  -- what the rows are without the one that has the number n
  pub record Taken {M : Type 0} (mark : R → M) (es : List (ℕ × R)) (n s : ℕ) (c : List ℕ) : Type 0 where
    pub rows : remove_entry (is_at (nat_cmp n)) es ≡ filter (λ e. not (is_of name socket s c e.1)) es
    pub own : remove_entry (is_at (nat_cmp n)) (marks_at name mark es c) ≡ marks_at name mark (remove_entry (is_at (nat_cmp n)) es) c
    pub others : (d : List ℕ) → bytes_eq c d ≡ false → marks_at name mark (remove_entry (is_at (nat_cmp n)) es) d ≡ marks_at name mark es d

  none_other : (es : List (ℕ × R)) (s : ℕ) (c : List ℕ) → has_row name socket (values_of es) s c ≡ false → filter (λ e. not (is_of name socket s c e.1)) es ≡ es
  none_other [] s c none = refl
  none_other (e ∷ es) s c none =
      let parts = neither (is_of name socket s c e.1) (has_row name socket (values_of es) s c) none in
      ap (λ b. cond (not b) (e ∷ filter (λ e. not (is_of name socket s c e.1)) es) (filter (λ e. not (is_of name socket s c e.1)) es)) parts.0
      ∙ ap (λ ys. e ∷ ys) (none_other es s c parts.1)

  same_row : (e r : R) (s : ℕ) (c : List ℕ) → is_of name socket s c e ≡ true → is_of name socket (socket e) (name e) r ≡ is_of name socket s c r
  same_row e r s c is =
      let parts = both (socket e == s) (bytes_eq (name e) c) is in
      ap₂ (λ t d. is_of name socket t d r) (same_number (socket e) s parts.0) (same_text (name e) c parts.1)

  has_row_of : (e : R) (es : List R) (s : ℕ) (c : List ℕ) → is_of name socket s c e ≡ true → has_row name socket es (socket e) (name e) ≡ has_row name socket es s c
  has_row_of e es s c is =
      let parts = both (socket e == s) (bytes_eq (name e) c) is in
      ap₂ (has_row name socket es) (same_number (socket e) s parts.0) (same_text (name e) c parts.1)

  pub taken : {M : Type 0} (mark : R → M) (es : List (ℕ × R)) (n s : ℕ) (c : List ℕ) → IsStrictlySortedBy nat_cmp (keys_of es) → EachOnce name socket (values_of es) → number_of name socket es s c ≡ Some n → Taken mark es n s c
  taken mark [] n s c rising once is = cc
  taken {M} mark (e ∷ es) n s c rising once is =
      let p : ℕ × R → Bool = λ e. is_of name socket s c e.1 in
      let t = is_at (nat_cmp n) in
      let kept = filter (λ e. not (p e)) es in
      let held : ℕ × R → ℕ × M = λ e. (e.0, mark e.1) in
      let list = λ (d : List ℕ) (fs : List (ℕ × R)) (b : Bool). map held (cond b (e ∷ filter (λ e. bytes_eq (name e.1) d) fs) (filter (λ e. bytes_eq (name e.1) d) fs)) in
      (elim (p e) as (λ b. p e ≡ b → option_map (λ e. e.0) (cond b (Some e) (find p es)) ≡ Some n → Taken mark (e ∷ es) n s c) [
        | true ↦ (λ is_own is.
            let same : e.0 ≡ n = cc in
            let at : t e.0 ≡ true = ap t same ∙ is_eq-nat_cmp n n ∙ number_itself n in
            let named : bytes_eq (name e.1) c ≡ true = (both (socket e.1 == s) (bytes_eq (name e.1) c) is_own).1 in
            let gone : remove_entry t (e ∷ es) ≡ es = ap (λ b. cond b es (e ∷ remove_entry t es)) at in
            record {
              rows = gone
                  ∙ sym (none_other es s c (sym (has_row_of e.1 (values_of es) s c is_own) ∙ once.0))
                  ∙ sym (ap (λ b. cond (not b) (e ∷ kept) kept) is_own);
              own = ap (λ b. remove_entry t (list c es b)) named
                  ∙ ap (λ b. cond b (marks_at name mark es c) (held e ∷ remove_entry t (marks_at name mark es c))) at
                  ∙ sym (ap (λ fs. marks_at name mark fs c) gone);
              others = λ d other.
                  ap (λ fs. marks_at name mark fs d) gone
                  ∙ sym (ap (list d es) (ap (λ x. bytes_eq x d) (same_text (name e.1) c named) ∙ other));
            })
        | false ↦ (λ other is.
            let rest = taken mark es n s c (sorted_tail nat_cmp e.0 (keys_of es) rising) once.1 is in
            let past : t e.0 ≡ false = not_at n e.0 (number_above e.0 n es s c (sorted_head nat_cmp e.0 (keys_of es) rising) is) in
            let stays : remove_entry t (e ∷ es) ≡ e ∷ remove_entry t es = ap (λ b. cond b es (e ∷ remove_entry t es)) past in
            record {
              rows = stays ∙ ap (λ ys. e ∷ ys) rest.rows ∙ sym (ap (λ b. cond (not b) (e ∷ kept) kept) other);
              own = elim (bytes_eq (name e.1) c) as (λ b. remove_entry t (list c es b) ≡ list c (remove_entry t es) b) [
                | true ↦ ap (λ b. cond b (marks_at name mark es c) (held e ∷ remove_entry t (marks_at name mark es c))) past ∙ ap (λ hs. held e ∷ hs) rest.own
                | false ↦ rest.own
              ] ∙ sym (ap (λ fs. marks_at name mark fs c) stays);
              others = λ d apart. ap (λ fs. marks_at name mark fs d) stays
                  ∙ elim (bytes_eq (name e.1) d) as (λ b. list d (remove_entry t es) b ≡ list d es b) [
                    | true ↦ ap (λ hs. held e ∷ hs) (rest.others d apart)
                    | false ↦ rest.others d apart
                  ];
            })
      ]) refl is

  -- the index by names
  pub take_name : {M : Type 0} (mark : R → M) (old new : BTreeMap (List ℕ) (BTreeMap ℕ M)) (es : List (ℕ × R)) (n s : ℕ) (key c : List ℕ) → Taken mark es n s key → ((d : List ℕ) → inner (slice_cmp nat_cmp) old d ≡ marks_at name mark es d) → inner (slice_cmp nat_cmp) new c ≡ cond (is_eq (slice_cmp nat_cmp key c)) (remove_entry (is_at (nat_cmp n)) (inner (slice_cmp nat_cmp) old key)) (inner (slice_cmp nat_cmp) old c) → inner (slice_cmp nat_cmp) new c ≡ marks_at name mark (remove_entry (is_at (nat_cmp n)) es) c
  take_name mark old new es n s key c gone agrees is =
      let was = λ (d : List ℕ). inner (slice_cmp nat_cmp) old d in
      let t = is_at (nat_cmp n) in
      is
      ∙ ap (λ b. cond b (remove_entry t (was key)) (was c)) (is_eq-slice_cmp key c)
      ∙ (elim (bytes_eq key c) as (λ b. bytes_eq key c ≡ b → cond b (remove_entry t (was key)) (was c) ≡ marks_at name mark (remove_entry t es) c) [
        | true ↦ (λ same. ap (remove_entry t) (agrees key) ∙ gone.own ∙ ap (marks_at name mark (remove_entry t es)) (same_text key c same))
        | false ↦ (λ other. agrees c ∙ sym (gone.others c other))
      ]) refl

  -- the numbers of the others stay, and the row's own is gone
  number_kept : (es : List (ℕ × R)) (s t : ℕ) (c d : List ℕ) → number_of name socket (filter (λ e. not (is_of name socket s c e.1)) es) t d ≡ cond ((s == t) && bytes_eq c d) None (number_of name socket es t d)
  number_kept [] s t c d = elim ((s == t) && bytes_eq c d) as (λ b. ◌≡◌ {A = Option ℕ} None (cond b None None)) [ true ↦ refl | false ↦ refl ]
  number_kept (e ∷ es) s t c d =
      let p : ℕ × R → Bool = λ e. is_of name socket s c e.1 in
      let q : ℕ × R → Bool = λ e. is_of name socket t d e.1 in
      let kept = filter (λ e. not (p e)) es in
      let own = (s == t) && bytes_eq c d in
      let rest = number_kept es s t c d in
      (elim (p e) as (λ a. p e ≡ a → option_map (λ e. e.0) (find q (cond (not a) (e ∷ kept) kept)) ≡ cond own None (option_map (λ e. e.0) (cond (q e) (Some e) (find q es)))) [
        | true ↦ (λ is.
            let parts = both (socket e.1 == s) (bytes_eq (name e.1) c) is in
            let alike : q e ≡ own = ap₂ (λ n x. (n == t) && bytes_eq x d) (same_number (socket e.1) s parts.0) (same_text (name e.1) c parts.1) in
            rest ∙ elim own as (λ b. cond b None (option_map (λ e. e.0) (find q es)) ≡ cond b None (option_map (λ e. e.0) (cond b (Some e) (find q es)))) [ true ↦ refl | false ↦ refl ]
            ∙ ap (λ b. cond own None (option_map (λ e. e.0) (cond b (Some e) (find q es)))) (sym alike))
        | false ↦ (λ not_own. (elim (q e) as (λ b. q e ≡ b → option_map (λ e. e.0) (cond b (Some e) (find q kept)) ≡ cond own None (option_map (λ e. e.0) (cond b (Some e) (find q es)))) [
          | true ↦ (λ is.
              let parts = both (socket e.1 == t) (bytes_eq (name e.1) d) is in
              let apart : own ≡ false = ap₂ ◌&&◌ (number_swap s t ∙ ap (λ n. n == s) (sym (same_number (socket e.1) t parts.0))) (text_swap c d ∙ ap (λ x. bytes_eq x c) (sym (same_text (name e.1) d parts.1))) ∙ not_own in
              sym (ap (λ b. cond b None (Some e.0)) apart))
          | false ↦ (λ is. rest)
        ]) refl)
      ]) refl

  -- the index by sockets
  pub take_socket : {M : Type 0} (mark : R → M) (old new : BTreeMap ℕ (BTreeMap (List ℕ) ℕ)) (es : List (ℕ × R)) (n at s : ℕ) (key c : List ℕ) → Taken mark es n at key → ((t : ℕ) (d : List ℕ) → lookup (is_at (slice_cmp nat_cmp d)) (inner nat_cmp old t) ≡ number_of name socket es t d) → lookup (is_at (slice_cmp nat_cmp c)) (inner nat_cmp new s) ≡ cond (is_eq (nat_cmp at s)) (cond (is_eq (slice_cmp nat_cmp key c)) None (lookup (is_at (slice_cmp nat_cmp c)) (inner nat_cmp old at))) (lookup (is_at (slice_cmp nat_cmp c)) (inner nat_cmp old s)) → lookup (is_at (slice_cmp nat_cmp c)) (inner nat_cmp new s) ≡ number_of name socket (remove_entry (is_at (nat_cmp n)) es) s c
  take_socket mark old new es n at s key c gone agrees is =
      let was = λ (t : ℕ). lookup (is_at (slice_cmp nat_cmp c)) (inner nat_cmp old t) in
      is
      ∙ ap₂ (λ a b. cond a (cond b None (was at)) (was s)) (is_eq-nat_cmp at s) (is_eq-slice_cmp key c)
      ∙ (elim (at == s) as (λ a. (at == s) ≡ a → cond a (cond (bytes_eq key c) None (was at)) (was s) ≡ cond (a && bytes_eq key c) None (number_of name socket es s c)) [
        | true ↦ (λ here. ap (λ o. cond (bytes_eq key c) None o) (agrees at c ∙ ap (λ t. number_of name socket es t c) (same_number at s here)))
        | false ↦ (λ there. agrees s c)
      ]) refl
      ∙ sym (number_kept es at s key c)
      ∙ sym (ap (λ fs. number_of name socket fs s c) gone.rows)
