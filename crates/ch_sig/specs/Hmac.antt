-- HMAC-SHA256 (RFC 2104, section 2) over whole lists of bytes
use Rattle.std.specs.Prelude.{ℕ, ◌-◌, List, ◌++◌, length, map, replicate, bit_xor, nat_lt, if◌then◌else◌}
use Rattle.sha2.specs.Sha256.{sha256}
use Rattle.hex.specs.Hex.{encode_lower}
use Rattle.ch_sig.specs.declared.hmac.TheConstants.{BLOCK, INNER_PAD, OUTER_PAD}

-- a secret that is longer than a block stands as its digest
abbrev pub short_key : List ℕ → List ℕ
short_key secret = if nat_lt BLOCK (length secret) then sha256 secret else secret

-- the key, filled with zero bytes to a block
abbrev pub key_block : List ℕ → List ℕ
key_block secret = short_key secret ++ replicate (BLOCK - length (short_key secret)) 0

-- each byte of the block xored with the pad's byte
abbrev pub padded : ℕ → List ℕ → List ℕ
padded pad block = map (λ byte. bit_xor byte pad) block

-- the digest of the outer pad and of the digest of the inner pad and the message
unfoldable pub hmac : List ℕ → List ℕ → List ℕ
hmac secret message =
    sha256 (padded OUTER_PAD (key_block secret) ++ sha256 (padded INNER_PAD (key_block secret) ++ message))

-- the HMAC in lower-case hex
abbrev pub hmac_hex : List ℕ → List ℕ → List ℕ
hmac_hex secret message = encode_lower (hmac secret message)
