-- The first line of a response (RFC 9112, section 4).
use Rattle.std.specs.Prelude.{ℕ, ◌+◌, ◌-◌, ◌*◌, ◌==◌, Bool, eqb, ◌&&◌, ◌||◌, List, ◌∷◌, take, drop, codes, Option, Some, None, if◌then◌else◌}
use Rattle.std.specs.Char.{is_ascii_digit}
use Rattle.std.specs.List.{position_from, starts_with}
use Rattle.std.specs.Option.{option_map}

abbrev pub is_line_feed : ℕ → Bool
is_line_feed byte = byte == 10

-- what stands before the first line feed; none where there is no line feed
abbrev pub first_line : List ℕ → Option (List ℕ)
first_line bytes = option_map (λ at. take at bytes) (position_from is_line_feed 0 bytes)

-- the line begins with the version, 1.1 or 1.0
abbrev pub has_version : List ℕ → Bool
has_version line = starts_with eqb line (codes "HTTP/1.1 ") || starts_with eqb line (codes "HTTP/1.0 ")

-- the number that three digits spell, if three digits come first
abbrev pub three_digits : List ℕ → Option ℕ
three_digits (a ∷ b ∷ c ∷ rest) =
    if is_ascii_digit a && (is_ascii_digit b && is_ascii_digit c)
    then Some ((a - 48) * 100 + ((b - 48) * 10 + (c - 48)))
    else None
three_digits _ = None

-- the status: three digits behind the version
abbrev pub status_in : List ℕ → Option ℕ
status_in line = if has_version line then three_digits (drop 9 line) else None
