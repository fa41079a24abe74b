-- the texts that are signed (Pusher Channels, "Auth signatures", "User authentication", "HTTP API")
use Rattle.std.specs.Prelude.{ℕ, List, [], ◌∷◌, ◌++◌, Option, None, Some, Bool, not, map, filter, bytes_eq, codes}
use Rattle.std.specs.List.{join_with_byte}
use Rattle.ch_sig.specs.declared.query.Param.{Param}

-- a socket on a channel, with the channel's data where there is any
abbrev pub socket_text : List ℕ → List ℕ → Option (List ℕ) → List ℕ
socket_text socket_id channel None = socket_id ++ codes ":" ++ channel
socket_text socket_id channel (Some channel_data) = socket_id ++ codes ":" ++ channel ++ codes ":" ++ channel_data

-- a socket that signs a user in
abbrev pub user_text : List ℕ → List ℕ → List ℕ
user_text socket_id user_data = socket_id ++ codes "::user::" ++ user_data

-- a parameter as name and value
abbrev pub param_text : Param → List ℕ
param_text p = p.name ++ codes "=" ++ p.value

-- every parameter is signed but the signature itself
abbrev pub is_signed : Param → Bool
is_signed p = not (bytes_eq p.name (codes "auth_signature"))

-- the signed parameters in their order, joined by `&`
abbrev pub query_text : List Param → List ℕ
query_text ps = join_with_byte 38 (map param_text (filter is_signed ps))

-- a request: its method, its path and its query, a line each
abbrev pub request_text : List ℕ → List ℕ → List Param → List ℕ
request_text method path ps = method ++ 10 ∷ [] ++ path ++ 10 ∷ [] ++ query_text ps

-- what authorizes: the app's key and a signature
abbrev pub authorization_text : List ℕ → List ℕ → List ℕ
authorization_text key signature = key ++ codes ":" ++ signature
