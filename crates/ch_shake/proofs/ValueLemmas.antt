-- The value of a name that only one field has.
use Rattle.std.proofs.Common.{◌≡◌, ◌≢◌, ℕ, List, [], ◌∷◌, Bool, true, false, cond, map, filter, length, refl, ap, ◌∙◌, arith}
use Rattle.std.specs.Prelude.{Option, Some, None, find, option_map}
use Rattle.std.specs.Str.{str_eq_ignore_ascii_case}
use Rattle.ch_requests.specs.declared.head.HeadField.{HeadField}
use Rattle.ch_requests.specs.Handshakes.{only, only_value}
use Rattle.ch_shake.specs.Values.{first_value}

abbrev pub first_of : List HeadField → Option HeadField
first_of [] = None
first_of (f ∷ fields) = Some f

first_filter : (name : List ℕ) (fields : List HeadField)
    → find (λ f. str_eq_ignore_ascii_case f.name name) fields ≡ first_of (filter (λ f. str_eq_ignore_ascii_case f.name name) fields)
first_filter name [] = refl
first_filter name (f ∷ fields) = by (str_eq_ignore_ascii_case f.name name) (first_filter name fields)
  where
    by : (named : Bool) → find (λ g. str_eq_ignore_ascii_case g.name name) fields ≡ first_of (filter (λ g. str_eq_ignore_ascii_case g.name name) fields)
        → cond named (Some f) (find (λ g. str_eq_ignore_ascii_case g.name name) fields)
        ≡ first_of (cond named (f ∷ filter (λ g. str_eq_ignore_ascii_case g.name name) fields) (filter (λ g. str_eq_ignore_ascii_case g.name name) fields))
    by true later = refl
    by false later = later

only_one : (fields : List HeadField) → length fields ≡ 1 → option_map (λ (f : HeadField). f.value) (first_of fields) ≡ only (map (λ f. f.value) fields)
only_one [] one = cc
only_one (f ∷ []) one = refl
only_one (f ∷ g ∷ fields) one = absurd (omega (arith, one))

not_one : (fields : List HeadField) → length fields ≢ 1 → None ≡ only (map (λ f. f.value) fields)
not_one [] other = refl
not_one (f ∷ []) other = absurd (other refl)
not_one (f ∷ g ∷ fields) other = refl

pub first_is_only : (name : List ℕ) (fields : List HeadField) → length (filter (λ f. str_eq_ignore_ascii_case f.name name) fields) ≡ 1
    → first_value name fields ≡ only_value name fields
first_is_only name fields one =
    ap (option_map (λ (f : HeadField). f.value)) (first_filter name fields) ∙ only_one (filter (λ f. str_eq_ignore_ascii_case f.name name) fields) one

pub none_is_only : (name : List ℕ) (fields : List HeadField) → length (filter (λ f. str_eq_ignore_ascii_case f.name name) fields) ≢ 1
    → None ≡ only_value name fields
none_is_only name fields other = not_one (filter (λ f. str_eq_ignore_ascii_case f.name name) fields) other
