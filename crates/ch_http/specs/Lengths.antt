-- The length of a body, by one value after another.
use Rattle.std.specs.Prelude.{ℕ, ◌==◌, List, Option, Some, None, if◌then◌else◌}
use Rattle.std.specs.Str.Parse.{digits_value}
use Rattle.ch_requests.specs.Fields.{BodyLength as Defined, missing, bad, is, is_length}
use Rattle.ch_http.specs.declared.length.BodyLength.{BodyLength}
use Rattle.ch_http.specs.declared.length.BodyLength.TheVariants.{Missing, Bad, Is}

-- the length of the definitions
abbrev pub length_of : BodyLength → Defined
length_of Missing = missing
length_of Bad = bad
length_of (Is n) = is n

-- the number that a value is
abbrev pub length_in : List ℕ → Option ℕ
length_in value = if is_length value then Some (digits_value 10 value) else None

-- the length by one more number, if there is one
abbrev pub with_number : BodyLength → Option ℕ → BodyLength
with_number length None = Bad
with_number Missing (Some n) = Is n
with_number Bad (Some n) = Bad
with_number (Is m) (Some n) = if n == m then Is m else Bad

-- the length by one more value
abbrev pub with_value : BodyLength → List ℕ → BodyLength
with_value length value = with_number length (length_in value)
