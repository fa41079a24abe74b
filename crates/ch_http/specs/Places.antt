-- Where bytes end in a request line (RFC 9112, section 3).
use Rattle.std.specs.Prelude.{ℕ, ◌==◌, List, [], ◌∷◌, if◌then◌else◌}
use Rattle.httparse.specs.Grammar.{is_token_byte, is_uri_byte}
use Rattle.ch_http.specs.declared.place.Place.{Place}
use Rattle.ch_http.specs.declared.place.Place.TheVariants.{Start, AfterReturn, Method, Target, Elsewhere}

-- the place after one more byte
abbrev pub place_after : Place → ℕ → Place
place_after Start b =
    if b == 10 then Start else if b == 13 then AfterReturn else if is_token_byte b then Method else Elsewhere
place_after AfterReturn b = if b == 10 then Start else Elsewhere
place_after Method b = if b == 32 then Target else if is_token_byte b then Method else Elsewhere
place_after Target b = if is_uri_byte b then Target else Elsewhere
place_after Elsewhere b = Elsewhere

-- the place after these bytes
abbrev pub place_of : Place → List ℕ → Place
place_of place [] = place
place_of place (b ∷ bytes) = place_of (place_after place b) bytes
