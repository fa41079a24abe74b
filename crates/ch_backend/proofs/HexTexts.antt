-- Digits in hex are texts.
use Rattle.std.proofs.Common.{ℕ, List, IsUtf8, IsAscii, nat_lt, refl}
use Rattle.std.proofs.lemmas.Bool.{ltb-true}
use Rattle.std.proofs.lemmas.List.Sums.{AllPass-from_list_all}
use Rattle.std.proofs.lemmas.Str.{IsUtf8-from_ascii}
use Rattle.std.proofs.lemmas.Str.Ascii.{IsAscii-from_all}
use Rattle.hex.specs.Hex.{encode_lower, lower_digits}
use Rattle.hex.proofs.HexLemmas.{IsAscii-encode_with}

IsAscii-lower_digits : IsAscii lower_digits
IsAscii-lower_digits =
    IsAscii-from_all lower_digits (λ k d lt. ltb-true _ 128 (AllPass-from_list_all (λ b. nat_lt b 128) lower_digits refl k d lt))

pub hex_is_utf8 : (bytes : List ℕ) → IsUtf8 (encode_lower bytes)
hex_is_utf8 bytes = IsUtf8-from_ascii (encode_lower bytes) (IsAscii-encode_with lower_digits bytes IsAscii-lower_digits)
