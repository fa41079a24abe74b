-- The parts of a request's text (RFC 9112, sections 3 to 6).
use Rattle.std.specs.Prelude.{ℕ, List, ◌++◌, codes}
use Rattle.ch_requests.specs.Replies.{crlf}

-- a request with this line of its length, which ends in a line end, or is empty
abbrev pub composed : List ℕ → List ℕ → List ℕ → List ℕ → List ℕ → List ℕ
composed method path query length_line body =
    method ++ codes " " ++ path ++ codes "?" ++ query ++ codes " HTTP/1.1" ++ crlf
    ++ codes "Host: localhost" ++ crlf ++ length_line ++ crlf ++ body
