-- Which request is authorized (Pusher Channels documentation, HTTP API, "Authentication").
use Rattle.std.specs.Prelude.{ℕ, ◌+◌, ◌-◌, ◌/◌, Bool, false, ◌&&◌, not, nat_le, List, length, bytes_eq, codes, Option, Some, None}
use Rattle.std.specs.List.{list_all}
use Rattle.std.specs.Char.{is_ascii_digit}
use Rattle.std.specs.Str.Parse.{digits_value}
use Rattle.hex.specs.Hex.{encode_lower}
use Rattle.md5.specs.Md5.{md5}
use Rattle.ch_config.specs.declared.config.Config.{Config}
use Rattle.ch_history.specs.OpenRows.{is_empty}
use Rattle.ch_sig.specs.Hmac.{hmac_hex}
use Rattle.ch_sig.specs.Parameters.{value_of}
use Rattle.ch_sig.specs.SignedText.{request_text}
use Rattle.ch_requests.specs.declared.limits.TheConstants.{MAX_DIFFERENCE}
use Rattle.ch_requests.specs.Routes.{method_of}
use Rattle.ch_requests.specs.declared.request.Request.{Request}

-- the value is there, and is this one
abbrev pub is_value : Option (List ℕ) → List ℕ → Bool
is_value None wanted = false
is_value (Some value) wanted = bytes_eq value wanted

-- ---- time

abbrev pub difference : ℕ → ℕ → ℕ
difference m n = (m - n) + (n - m)

-- 1 to 15 digits
abbrev pub is_timestamp : List ℕ → Bool
is_timestamp value = nat_le 1 (length value) && nat_le (length value) 15 && list_all is_ascii_digit value

-- the second is near that of the moment
abbrev pub is_near : ℕ → Option (List ℕ) → Bool
is_near now None = false
is_near now (Some value) = is_timestamp value && nat_le (difference (digits_value 10 value) (now / 1000)) MAX_DIFFERENCE

-- ---- the body

-- the digest is that of the body; only an empty body needs none
abbrev pub is_digest : List ℕ → Option (List ℕ) → Bool
is_digest body None = is_empty body
is_digest body (Some value) = bytes_eq value (encode_lower (md5 body))

-- ---- the signature

abbrev pub signature_of : Config → Request → List ℕ
signature_of config q = hmac_hex config.secret (request_text (method_of q.route) q.path q.params)

-- the request is of the app, of this time, with its own body, and signed with the app's secret; no name stands twice
abbrev pub is_authorized : Config → Request → ℕ → Bool
is_authorized config q now =
    not q.doubled
    && is_value (value_of q.params (codes "auth_key")) config.key
    && is_value (value_of q.params (codes "auth_version")) (codes "1.0")
    && is_near now (value_of q.params (codes "auth_timestamp"))
    && is_digest q.body (value_of q.params (codes "body_md5"))
    && is_value (value_of q.params (codes "auth_signature")) (signature_of config q)
