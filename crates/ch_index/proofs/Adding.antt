-- A row at the end, under a number above all others.
use Rattle.std.proofs.Common.{◌≡◌, ℕ, Bool, true, false, ◌&&◌, ◌==◌, cond, List, [], ◌∷◌, ◌++◌, Option, Some, None, bytes_eq, filter, find, map, option_map, refl, ap, ap₂, sym, ◌∙◌, subst, append-nil}
use Rattle.std.specs.Option.{option_or}
use Rattle.std.specs.Ordering.{is_eq, nat_cmp, match_ordering}
use Rattle.std.specs.Cmp.Lexicographic.{slice_cmp}
use Rattle.std.specs.Map.{keys_of, lookup}
use Rattle.std.specs.BTreeMap.{BTreeMap, insert_entry, is_at}
use Rattle.std.proofs.lemmas.List.{map-append}
use Rattle.std.proofs.lemmas.List.Elements.{filter-append}
use Rattle.std.proofs.lemmas.List.Folds.{find-append}
use Rattle.std.proofs.lemmas.Map.Text.{is_eq-slice_cmp}
use Rattle.ch_history.proofs.Texts.{same_text}
use Rattle.ch_index.specs.Nest.{inner}
use Rattle.ch_index.specs.Rows.{is_of}
use Rattle.ch_index.specs.Numbered.{AreBelow, numbers_at, marks_at, number_of}
use Rattle.ch_index.proofs.Marking.{keys_marked}
use Rattle.ch_index.proofs.Compared.{greater, is_eq-nat_cmp, same_number}

pub insert_above : {X : Type 0} (n : ℕ) (x : X) (es : List (ℕ × X)) → AreBelow n (keys_of es) → insert_entry nat_cmp es n x ≡ es ++ (n, x) ∷ []
insert_above n x [] below = refl
insert_above n x (e ∷ es) below =
    ap (λ o. match_ordering o ((n, x) ∷ e ∷ es) ((e.0, x) ∷ es) (e ∷ insert_entry nat_cmp es n x)) (greater n e.0 below.0)
    ∙ ap (λ ys. e ∷ ys) (insert_above n x es below.1)

pub or_none : {X : Type 0} (o : Option X) → option_or o None ≡ o
or_none None = refl
or_none (Some x) = refl

module _ {R : Type 0} (name : R → List ℕ) where
  pub numbers_below : (n : ℕ) (es : List (ℕ × R)) (c : List ℕ) → AreBelow n (keys_of es) → AreBelow n (numbers_at name es c)
  numbers_below n [] c below = tt
  numbers_below n (e ∷ es) c below =
      elim (bytes_eq (name e.1) c) as (λ b. AreBelow n (map (λ e. e.0) (cond b (e ∷ filter (λ e. bytes_eq (name e.1) c) es) (filter (λ e. bytes_eq (name e.1) c) es)))) [
        | true ↦ (below.0, numbers_below n es c below.1)
        | false ↦ numbers_below n es c below.1
      ]

  module _ {M : Type 0} (mark : R → M) where
    pub marks_below : (n : ℕ) (es : List (ℕ × R)) (c : List ℕ) → AreBelow n (keys_of es) → AreBelow n (keys_of (marks_at name mark es c))
    marks_below n es c below = subst (AreBelow n) (sym (keys_marked name mark es c)) (numbers_below n es c below)

    pub marks_push : (es : List (ℕ × R)) (n : ℕ) (r : R) (c : List ℕ) → marks_at name mark (es ++ (n, r) ∷ []) c ≡ marks_at name mark es c ++ cond (bytes_eq (name r) c) ((n, mark r) ∷ []) []
    marks_push es n r c =
        let p : ℕ × R → Bool = λ e. bytes_eq (name e.1) c in
        let last : List (ℕ × R) = (n, r) ∷ [] in
        let held : ℕ × R → ℕ × M = λ e. (e.0, mark e.1) in
        ap (map held) (filter-append p es last)
        ∙ map-append held (filter p es) (filter p last)
        ∙ elim (bytes_eq (name r) c) as (λ b. marks_at name mark es c ++ map held (cond b last []) ≡ marks_at name mark es c ++ cond b ((n, mark r) ∷ []) []) [ true ↦ refl | false ↦ refl ]

    -- the index by names with the row's number and mark
    pub put_name : (old new : BTreeMap (List ℕ) (BTreeMap ℕ M)) (es : List (ℕ × R)) (n : ℕ) (r : R) (m : M) (key c : List ℕ) → key ≡ name r → m ≡ mark r → ((d : List ℕ) → inner (slice_cmp nat_cmp) old d ≡ marks_at name mark es d) → AreBelow n (keys_of es) → inner (slice_cmp nat_cmp) new c ≡ cond (is_eq (slice_cmp nat_cmp key c)) (insert_entry nat_cmp (inner (slice_cmp nat_cmp) old key) n m) (inner (slice_cmp nat_cmp) old c) → inner (slice_cmp nat_cmp) new c ≡ marks_at name mark (es ++ (n, r) ∷ []) c
    put_name old new es n r m key c its held agrees below is =
        let was = λ (d : List ℕ). inner (slice_cmp nat_cmp) old d in
        is
        ∙ ap₂ (λ d x. cond (is_eq (slice_cmp nat_cmp d c)) (insert_entry nat_cmp (was d) n x) (was c)) its held
        ∙ ap (λ b. cond b (insert_entry nat_cmp (was (name r)) n (mark r)) (was c)) (is_eq-slice_cmp (name r) c)
        ∙ (elim (bytes_eq (name r) c) as (λ b. bytes_eq (name r) c ≡ b → cond b (insert_entry nat_cmp (was (name r)) n (mark r)) (was c) ≡ marks_at name mark es c ++ cond b ((n, mark r) ∷ []) []) [
          | true ↦ (λ same.
              insert_above n (mark r) (was (name r)) (subst (λ ms. AreBelow n (keys_of ms)) (sym (agrees (name r))) (marks_below n es (name r) below))
              ∙ ap (λ ms. ms ++ (n, mark r) ∷ []) (agrees (name r) ∙ ap (marks_at name mark es) (same_text (name r) c same)))
          | false ↦ (λ other. agrees c ∙ sym (append-nil (marks_at name mark es c)))
        ]) refl
        ∙ sym (marks_push es n r c)

  module _ (socket : R → ℕ) where
    pub number_push : (es : List (ℕ × R)) (n : ℕ) (r : R) (s : ℕ) (c : List ℕ) → number_of name socket (es ++ (n, r) ∷ []) s c ≡ cond (is_of name socket s c r) (option_or (number_of name socket es s c) (Some n)) (number_of name socket es s c)
    number_push es n r s c =
        let p : ℕ × R → Bool = λ e. is_of name socket s c e.1 in
        ap (option_map (λ e. e.0)) (find-append p es ((n, r) ∷ []))
        ∙ elim (is_of name socket s c r) as (λ b. option_map (λ e. e.0) (option_or (find p es) (cond b (Some (n, r)) None)) ≡ cond b (option_or (number_of name socket es s c) (Some n)) (number_of name socket es s c)) [
          | true ↦ elim (find p es) as (λ o. option_map (λ e. e.0) (option_or o (Some (n, r))) ≡ option_or (option_map (λ e. e.0) o) (Some n)) [ Some e ↦ refl | None ↦ refl ]
          | false ↦ ap (option_map (λ e. e.0)) (or_none (find p es))
        ]

    -- the index by sockets with the row's number
    pub put_socket : (old new : BTreeMap ℕ (BTreeMap (List ℕ) ℕ)) (es : List (ℕ × R)) (n : ℕ) (r : R) (at s : ℕ) (key c : List ℕ) → at ≡ socket r → key ≡ name r → ((t : ℕ) (d : List ℕ) → lookup (is_at (slice_cmp nat_cmp d)) (inner nat_cmp old t) ≡ number_of name socket es t d) → number_of name socket es (socket r) (name r) ≡ None → lookup (is_at (slice_cmp nat_cmp c)) (inner nat_cmp new s) ≡ cond (is_eq (nat_cmp at s)) (cond (is_eq (slice_cmp nat_cmp key c)) (Some n) (lookup (is_at (slice_cmp nat_cmp c)) (inner nat_cmp old at))) (lookup (is_at (slice_cmp nat_cmp c)) (inner nat_cmp old s)) → lookup (is_at (slice_cmp nat_cmp c)) (inner nat_cmp new s) ≡ number_of name socket (es ++ (n, r) ∷ []) s c
    put_socket old new es n r at s key c here_is its agrees absent is =
        let was = λ (t : ℕ). lookup (is_at (slice_cmp nat_cmp c)) (inner nat_cmp old t) in
        is
        ∙ ap₂ (λ t d. cond (is_eq (nat_cmp t s)) (cond (is_eq (slice_cmp nat_cmp d c)) (Some n) (was t)) (was s)) here_is its
        ∙ ap₂ (λ a b. cond a (cond b (Some n) (was (socket r))) (was s)) (is_eq-nat_cmp (socket r) s) (is_eq-slice_cmp (name r) c)
        ∙ (elim (socket r == s) as (λ a. (socket r == s) ≡ a → cond a (cond (bytes_eq (name r) c) (Some n) (was (socket r))) (was s) ≡ cond (a && bytes_eq (name r) c) (option_or (number_of name socket es s c) (Some n)) (number_of name socket es s c)) [
          | true ↦ (λ here. (elim (bytes_eq (name r) c) as (λ b. bytes_eq (name r) c ≡ b → cond b (Some n) (was (socket r)) ≡ cond b (option_or (number_of name socket es s c) (Some n)) (number_of name socket es s c)) [
            | true ↦ (λ same. sym (ap (λ o. option_or o (Some n)) (ap₂ (number_of name socket es) (sym (same_number (socket r) s here)) (sym (same_text (name r) c same)) ∙ absent)))
            | false ↦ (λ other. agrees (socket r) c ∙ ap (λ t. number_of name socket es t c) (same_number (socket r) s here))
          ]) refl)
          | false ↦ (λ there. agrees s c)
        ]) refl
        ∙ sym (number_push es n r s c)
