-- What comes next in a string. Only private clauses cite it.
use Rattle.std.specs.Prelude.{◌≡◌, ◌<◌, ◌≤◌, ◌+◌, ℕ, List, [], ◌++◌, length, drop, flat_map, slice_index, true}
use Rattle.std.specs.List.{slice_range}
use Rattle.std.specs.Char.{encode_utf8}
use Rattle.std.specs.Str.{IsCharBoundary}
use Rattle.ch_base.specs.JsonText.{Char, Chars, is_hex, char_bytes, Unescapes}
use Rattle.ch_json.specs.declared.pieces.Piece.{Piece}
use Rattle.ch_json.specs.declared.pieces.Piece.TheVariants.{End, Run, Escape}

-- characters and the closing quote stand from `at` on
pub record IsRest (string : List ℕ) (at : ℕ) : Type 0 where
  pub chars : List Char
  pub follow : Chars chars (drop at string) []
  pub boundary : IsCharBoundary string at

-- the first of these characters, up to `end`, stand for these bytes
pub record GoesOn (string : List ℕ) (at : ℕ) (cs : List Char) (end : ℕ) (bytes : List ℕ) : Type 0 where
  pub ahead : at < end
  pub within : end ≤ length string
  pub boundary : IsCharBoundary string end
  pub rest : List Char
  pub follow : Chars rest (drop end string) []
  pub says : flat_map char_bytes cs ≡ bytes ++ flat_map char_bytes rest

abbrev pub IsPiece : List ℕ → ℕ → List Char → Piece → Type 0
IsPiece string at cs End = cs ≡ []
IsPiece string at cs (Run end) = GoesOn string at cs end (slice_range string at end)
IsPiece string at cs (Escape c end) = GoesOn string at cs end (encode_utf8 c)

-- the bytes are a string, from quote to quote
abbrev pub IsString : List ℕ → Type 0
IsString bytes = (w : List ℕ) × Unescapes bytes w

-- four hex digits stand at i
pub record AreHex (bytes : List ℕ) (i : ℕ) : Type 0 where
  pub first : is_hex (slice_index bytes i) ≡ true
  pub second : is_hex (slice_index bytes (i + 1)) ≡ true
  pub third : is_hex (slice_index bytes (i + 2)) ≡ true
  pub fourth : is_hex (slice_index bytes (i + 3)) ≡ true
