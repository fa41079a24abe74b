-- What the fields of a head say (RFC 9110, sections 5.6.1, 7.8 and 8.6; RFC 9112, section 6).
use Rattle.std.specs.Prelude.{ℕ, ◌==◌, Bool, true, ◌&&◌, nat_le, List, [], ◌∷◌, length, map, filter, codes, if◌then◌else◌}
use Rattle.std.specs.List.{list_any, list_all, slice_split}
use Rattle.std.specs.Char.{is_ascii_digit}
use Rattle.std.specs.Str.{str_eq_ignore_ascii_case}
use Rattle.std.specs.Str.Parse.{digits_value}
use Rattle.httparse.specs.Grammar.{trim_ows}
use Rattle.ch_requests.specs.declared.head.HeadField.{HeadField}

-- the values of the fields of a name, in any case, in order
abbrev pub values_of : List ℕ → List HeadField → List (List ℕ)
values_of name fields = map (λ f. f.value) (filter (λ f. str_eq_ignore_ascii_case f.name name) fields)

abbrev pub has_field : List ℕ → List HeadField → Bool
has_field name fields = list_any (λ f. str_eq_ignore_ascii_case f.name name) fields

-- ---- lists of words

abbrev pub is_comma : ℕ → Bool
is_comma b = b == 44

-- whether the word, in any case, stands between the commas of a value; blanks around it don't count
abbrev pub lists : List ℕ → List ℕ → Bool
lists word value = list_any (λ part. str_eq_ignore_ascii_case (trim_ows part) word) (slice_split is_comma value)

-- whether a field of the name lists the word
abbrev pub field_lists : List ℕ → List ℕ → List HeadField → Bool
field_lists name word fields = list_any (lists word) (values_of name fields)

-- ---- the length of a body

-- 1 to 19 digits
abbrev pub is_length : List ℕ → Bool
is_length value = nat_le 1 (length value) && nat_le (length value) 19 && list_all is_ascii_digit value

-- whether all values are the number of the first
abbrev pub agree : List (List ℕ) → Bool
agree [] = true
agree (value ∷ values) = list_all (λ v. digits_value 10 v == digits_value 10 value) values

-- the length of the body, or why there is none
pub data BodyLength : Type 0 where
  missing : BodyLength
  bad : BodyLength
  is : ℕ → BodyLength

-- by the values of `Content-Length`
abbrev pub length_by : List (List ℕ) → BodyLength
length_by [] = missing
length_by (value ∷ values) =
    if list_all is_length (value ∷ values) && agree (value ∷ values) then is (digits_value 10 value) else bad

-- the length by all fields; a body that is coded for its transfer isn't taken
abbrev pub body_length : List HeadField → BodyLength
body_length fields =
    if has_field (codes "transfer-encoding") fields then missing else length_by (values_of (codes "content-length") fields)
