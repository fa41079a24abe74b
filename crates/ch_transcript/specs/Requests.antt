-- The request that an `api` stands for, rightly signed (Pusher Channels documentation, HTTP API, "Authentication"; RFC 9112,
-- sections 3 to 6).
use Rattle.std.specs.Prelude.{ℕ, ◌/◌, List, [], ◌++◌, length, codes, if◌then◌else◌}
use Rattle.std.specs.Fmt.{decimal}
use Rattle.hex.specs.Hex.{encode_lower}
use Rattle.md5.specs.Md5.{md5}
use Rattle.ch_config.specs.declared.config.Config.{Config}
use Rattle.ch_history.specs.OpenRows.{is_empty}
use Rattle.ch_sig.specs.Hmac.{hmac_hex}
use Rattle.ch_sig.specs.SignedText.{request_text}
use Rattle.ch_requests.specs.Queries.{params_of}
use Rattle.ch_requests.specs.Replies.{crlf}
use Rattle.ch_requests.specs.Routes.{get_method, post_method}
use Rattle.ch_transcript.specs.declared.commands.Method.{Method}
use Rattle.ch_transcript.specs.declared.commands.Method.TheVariants.{Get, Post}

abbrev pub method_word : Method → List ℕ
method_word Get = get_method
method_word Post = post_method

-- ---- the query

-- the query of the line, before further members
abbrev pub before_members : List ℕ → List ℕ
before_members query = if is_empty query then [] else query ++ codes "&"

-- the digest of a body that isn't empty
abbrev pub digest_member : List ℕ → List ℕ
digest_member body = if is_empty body then [] else codes "&body_md5=" ++ encode_lower (md5 body)

-- the query that is signed, at the moment
abbrev pub unsigned_query : Config → ℕ → List ℕ → List ℕ → List ℕ
unsigned_query config at query body =
    before_members query ++ codes "auth_key=" ++ config.key ++ codes "&auth_timestamp=" ++ decimal (at / 1000)
    ++ codes "&auth_version=1.0" ++ digest_member body

-- with its signature
abbrev pub signed_query : Config → Method → List ℕ → List ℕ → List ℕ
signed_query config method path unsigned =
    unsigned ++ codes "&auth_signature=" ++ hmac_hex config.secret (request_text (method_word method) path (params_of unsigned))

-- ---- the request

-- a POST tells how long its body is
abbrev pub length_line : Method → List ℕ → List ℕ
length_line Get body = []
length_line Post body = codes "Content-Length: " ++ decimal (length body) ++ crlf

abbrev pub request_bytes : Method → List ℕ → List ℕ → List ℕ → List ℕ
request_bytes method path query body =
    method_word method ++ codes " " ++ path ++ codes "?" ++ query ++ codes " HTTP/1.1" ++ crlf
    ++ codes "Host: localhost" ++ crlf ++ length_line method body ++ crlf ++ body

-- the bytes of the request at the moment
abbrev pub api_bytes : Config → ℕ → Method → List ℕ → List ℕ → List ℕ → List ℕ
api_bytes config at method path query body =
    request_bytes method path (signed_query config method path (unsigned_query config at query body)) body
