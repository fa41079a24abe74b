-- The members of a query, one after another.
use Rattle.std.proofs.Common.{◌≡◌, ℕ, List, [], ◌∷◌, Bool, true, false, ◌||◌, cond, Some, is_some, option_map, find, bytes_eq, refl, ap, ap₂, sym, ◌∙◌}
use Rattle.std.specs.List.{list_any}
use Rattle.std.proofs.lemmas.List.Folds.{Any-from_list_any, list_any-from_Any}
use Rattle.std.proofs.lemmas.Slice.Eq.{bytes_eq-Decides}
use Rattle.ch_sig.specs.Parameters.{HasName, is_before, value_of, with_param}
use Rattle.ch_sig.specs.declared.query.Param.{Param}
use Rattle.ch_requests.specs.Queries.{has_double}
use Rattle.ch_http.specs.Members.{with_member}

-- ---- whether a name is there

abbrev has : List Param → List ℕ → Bool
has params name = list_any (λ p. bytes_eq p.name name) params

is_some-value_of : (params : List Param) (name : List ℕ) → is_some (value_of params name) ≡ has params name
is_some-value_of [] name = refl
is_some-value_of (p ∷ params) name = by (bytes_eq p.name name) (is_some-value_of params name)
  where
    by : (here : Bool) → is_some (value_of params name) ≡ has params name
        → is_some (option_map (λ q. q.value) (cond here (Some p) (find (λ q. bytes_eq q.name name) params))) ≡ (here || has params name)
    by true later = refl
    by false later = later

pub has_name : (params : List Param) (name : List ℕ) → HasName params name → is_some (value_of params name) ≡ true
has_name params name (i, p, within, at, same) =
    is_some-value_of params name
    ∙ list_any-from_Any (λ q. bytes_eq q.name name) params (i, p, within, at, (bytes_eq-Decides p.name name).1 same)

pub has_no_name : (params : List Param) (name : List ℕ) → (HasName params name → ⊥) → is_some (value_of params name) ≡ false
has_no_name params name absent = by (has params name) refl
  where
    by : (there : Bool) → has params name ≡ there → is_some (value_of params name) ≡ false
    by true there =
        let (i, p, within, at, same) = Any-from_list_any (λ q. bytes_eq q.name name) params there in
        absurd (absent (i, p, within, at, (bytes_eq-Decides p.name name).0 same))
    by false none = is_some-value_of params name ∙ none

-- ---- one more member

same_either_way : (name other : List ℕ) → bytes_eq name other ≡ bytes_eq other name
same_either_way name other = by (bytes_eq name other) refl (bytes_eq other name) refl
  where
    by : (a : Bool) → bytes_eq name other ≡ a → (b : Bool) → bytes_eq other name ≡ b → a ≡ b
    by true is true back = refl
    by true is false back =
        let again = (bytes_eq-Decides other name).1 (sym ((bytes_eq-Decides name other).0 is)) in cc
    by false is true back =
        let again = (bytes_eq-Decides name other).1 (sym ((bytes_eq-Decides other name).0 back)) in cc
    by false is false back = refl

has-with_param : (params : List Param) (new : Param) (name : List ℕ)
    → has (with_param params new) name ≡ (bytes_eq new.name name || has params name)
has-with_param [] new name = refl
has-with_param (p ∷ params) new name = by (is_before p.name new.name) (has-with_param params new name)
  where
    by : (before : Bool) → has (with_param params new) name ≡ (bytes_eq new.name name || has params name)
        → has (cond before (p ∷ with_param params new) (new ∷ p ∷ params)) name
        ≡ (bytes_eq new.name name || (bytes_eq p.name name || has params name))
    by true later = ap (λ b. bytes_eq p.name name || b) later ∙ exchange (bytes_eq p.name name) (bytes_eq new.name name) (has params name)
      where
        exchange : (a b c : Bool) → (a || (b || c)) ≡ (b || (a || c))
        exchange true true c = refl
        exchange true false c = refl
        exchange false b c = refl
    by false _ = refl

has-with_member : (params : List Param) (p : Param) (name : List ℕ)
    → has (with_member params p) name ≡ (bytes_eq p.name name || has params name)
has-with_member params p name = by (is_some (value_of params p.name)) refl
  where
    by : (there : Bool) → is_some (value_of params p.name) ≡ there
        → has (cond there params (with_param params p)) name ≡ (bytes_eq p.name name || has params name)
    by true there = known (bytes_eq p.name name) refl
      where
        known : (same : Bool) → bytes_eq p.name name ≡ same → has params name ≡ (same || has params name)
        known true same =
            let is_name = (bytes_eq-Decides p.name name).0 same in
            ap (has params) (sym is_name) ∙ sym (is_some-value_of params p.name) ∙ there
        known false _ = refl
    by false _ = has-with_param params p name

-- ---- whether a name stands twice

-- a member's name is among the parameters or stands twice
abbrev pub double_from : List Param → List Param → Bool
double_from params [] = false
double_from params (p ∷ more) = is_some (value_of params p.name) || double_from (with_member params p) more

either_name : (params : List Param) (p : Param) (members : List Param)
    → list_any (λ q. has (with_member params p) q.name) members
    ≡ (list_any (λ q. has params q.name) members || list_any (λ q. bytes_eq q.name p.name) members)
either_name params p [] = refl
either_name params p (q ∷ members) =
    ap₂ (λ a b. a || b) (has-with_member params p q.name ∙ ap (λ b. b || has params q.name) (same_either_way p.name q.name))
    (either_name params p members)
    ∙ regroup (bytes_eq q.name p.name) (has params q.name) (list_any (λ r. has params r.name) members)
    (list_any (λ r. bytes_eq r.name p.name) members)
  where
    regroup : (a b c d : Bool) → ((a || b) || (c || d)) ≡ ((b || c) || (a || d))
    regroup true true c d = refl
    regroup true false true d = refl
    regroup true false false d = refl
    regroup false true c d = refl
    regroup false false c d = refl

double_from-is : (params members : List Param)
    → double_from params members ≡ (list_any (λ q. has params q.name) members || has_double members)
double_from-is params [] = refl
double_from-is params (p ∷ more) =
    ap₂ (λ a b. a || b) (is_some-value_of params p.name)
    (double_from-is (with_member params p) more ∙ ap (λ b. b || has_double more) (either_name params p more))
    ∙ regroup (has params p.name) (list_any (λ q. has params q.name) more) (list_any (λ q. bytes_eq q.name p.name) more) (has_double more)
  where
    regroup : (a b c d : Bool) → (a || ((b || c) || d)) ≡ ((a || b) || (c || d))
    regroup true b c d = refl
    regroup false true c d = refl
    regroup false false c d = refl

pub double_from-none : (members : List Param) → double_from [] members ≡ has_double members
double_from-none members = double_from-is [] members ∙ ap (λ b. b || has_double members) (none members)
  where
    none : (ms : List Param) → list_any (λ q. has [] q.name) ms ≡ false
    none [] = refl
    none (m ∷ ms) = none ms
