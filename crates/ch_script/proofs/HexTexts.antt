-- Signatures are texts.
use Rattle.std.proofs.Common.{ℕ, List, IsUtf8, IsAscii, nat_lt, refl}
use Rattle.std.proofs.lemmas.Bool.{ltb-true}
use Rattle.std.proofs.lemmas.List.Sums.{AllPass-from_list_all}
use Rattle.std.proofs.lemmas.Str.{IsUtf8-from_ascii}
use Rattle.std.proofs.lemmas.Str.Ascii.{IsAscii-from_all}
use Rattle.hex.specs.Hex.{lower_digits}
use Rattle.hex.proofs.HexLemmas.{IsAscii-encode_with}
use Rattle.ch_sig.specs.Hmac.{hmac, hmac_hex}

IsAscii-lower_digits : IsAscii lower_digits
IsAscii-lower_digits =
    IsAscii-from_all lower_digits (λ k d lt. ltb-true _ 128 (AllPass-from_list_all (λ b. nat_lt b 128) lower_digits refl k d lt))

pub hex_is_utf8 : (secret message : List ℕ) → IsUtf8 (hmac_hex secret message)
hex_is_utf8 secret message =
    IsUtf8-from_ascii (hmac_hex secret message) (IsAscii-encode_with lower_digits (hmac secret message) IsAscii-lower_digits)
