-- What a name stands for.
use Rattle.std.proofs.Common.{◌≡◌, ℕ, List, Bool, true, false, cond, Some, None, IsUtf8, ap, refl}
use Rattle.std.specs.Str.{is_utf8}
use Rattle.std.proofs.lemmas.Str.{is_utf8-from_IsUtf8, IsUtf8-from_is_utf8}
use Rattle.percent_encoding.specs.Percent.{percent_decode}
use Rattle.ch_requests.specs.Routes.{decoded}

-- where it is UTF-8, that text
pub decoded_text : (name text : List ℕ) → IsUtf8 (percent_decode name) → text ≡ percent_decode name → Some text ≡ decoded name
decoded_text name text utf8 is = rw (is_utf8-from_IsUtf8 (percent_decode name) utf8) (ap Some is)

-- otherwise none
pub decoded_none : (name : List ℕ) → (IsUtf8 (percent_decode name) → ⊥) → None ≡ decoded name
decoded_none name broken = by (is_utf8 (percent_decode name)) refl
  where
    by : (utf8 : Bool) → is_utf8 (percent_decode name) ≡ utf8 → None ≡ cond utf8 (Some (percent_decode name)) None
    by true is = absurd (broken (IsUtf8-from_is_utf8 (percent_decode name) is))
    by false _ = refl
