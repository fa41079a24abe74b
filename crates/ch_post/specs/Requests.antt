-- The request of a webhook (Pusher Channels documentation, Webhooks, "Authentication"; RFC 9112, section 2.1).
use Rattle.std.specs.Prelude.{ℕ, ◌++◌, List, length, codes}
use Rattle.std.specs.Fmt.{decimal}
use Rattle.ch_io.specs.declared.post.Handed.{Handed}

-- what stands before the key
abbrev pub front : List ℕ → List ℕ → List ℕ
front host path = codes "POST " ++ path ++ codes " HTTP/1.1\r\nHost: " ++ host
    ++ codes "\r\nContent-Type: application/json\r\nX-Pusher-Key: "

-- the whole request, of which this is what stands before the key
abbrev pub request_text : List ℕ → Handed → List ℕ
request_text front item = front ++ item.key ++ codes "\r\nX-Pusher-Signature: " ++ item.signature ++ codes "\r\nContent-Length: "
    ++ decimal (length item.body) ++ codes "\r\nConnection: close\r\n\r\n" ++ item.body
