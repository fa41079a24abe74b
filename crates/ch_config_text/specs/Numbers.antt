-- Numbers in decimal, with no sign and no leading zero.
use Rattle.std.specs.Prelude.{ℕ, Bool, ◌==◌, ◌&&◌, not, nat_lt, nat_le, List, length, slice_index, bytes_eq, Option, None, Some, if◌then◌else◌}
use Rattle.std.specs.List.{list_all}
use Rattle.std.specs.Char.{is_ascii_digit}
use Rattle.std.specs.Str.Parse.{digits_value}
use Rattle.std.specs.Fmt.{decimal}

-- the number of these bounds whose decimal form the text is
abbrev pub number_in : ℕ → ℕ → List ℕ → Option ℕ
number_in least most text =
    let n = digits_value 10 text in
    if bytes_eq text (decimal n) && nat_le least n && nat_le n most then Some n else None

-- digits, the first of which is no zero before others
abbrev pub is_plain : List ℕ → Bool
is_plain text =
    nat_lt 0 (length text) && not (nat_lt 1 (length text) && slice_index text 0 == 48) && list_all is_ascii_digit text
