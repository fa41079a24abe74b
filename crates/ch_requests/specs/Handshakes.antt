-- How a handshake is answered (RFC 6455, sections 4.2.1 and 4.2.2).
use Rattle.std.specs.Prelude.{ℕ, ◌==◌, Bool, false, not, ◌&&◌, List, [], ◌∷◌, ◌++◌, length, bytes_eq, codes, Option, Some, None, Result, Ok, Err, if◌then◌else◌}
use Rattle.std.specs.Fmt.{decimal}
use Rattle.base64.specs.Engines.{standard}
use Rattle.base64.specs.GeneralPurpose.{encode_of, decode_of}
use Rattle.sha1.specs.Sha1.{sha1}
use Rattle.ch_requests.specs.Fields.{values_of, field_lists}
use Rattle.ch_requests.specs.Replies.{refusal, reply_text, crlf}
use Rattle.ch_requests.specs.declared.handshake.Shake.{Shake}
use Rattle.ch_requests.specs.declared.handshake.Shake.TheVariants.{Upgrade, Refuse}
use Rattle.ch_requests.specs.declared.head.Head.{Head}
use Rattle.ch_requests.specs.declared.head.HeadField.{HeadField}

-- ---- the key

abbrev pub has_16 : {E : Type 0} → Result (List ℕ) E → Bool
has_16 (Ok bytes) = length bytes == 16
has_16 (Err fault) = false

-- standard base64 of 16 bytes
abbrev pub is_key : List ℕ → Bool
is_key key = has_16 (decode_of standard key)

-- what follows the key in the text whose digest is told
abbrev pub guid : List ℕ
guid = codes "258EAFA5-E914-47DA-95CA-C5AB0DC85B11"

-- the value that shows that the key was read, which is taken as it was sent
abbrev pub accept_value : List ℕ → List ℕ
accept_value key = encode_of standard (sha1 (key ++ guid))

-- ---- what a head asks for

abbrev pub only : List (List ℕ) → Option (List ℕ)
only (value ∷ []) = Some value
only _ = None

-- the value of the one field of a name; none where it is absent or repeated
abbrev pub only_value : List ℕ → List HeadField → Option (List ℕ)
only_value name fields = only (values_of name fields)

-- whether this connection of HTTP/1.1 is to be upgraded
abbrev pub asks_upgrade : Head → Bool
asks_upgrade head = (head.minor == 1) && field_lists (codes "connection") (codes "upgrade") head.fields

-- the version of the protocol is that of RFC 6455
abbrev pub is_13 : Option (List ℕ) → Bool
is_13 None = false
is_13 (Some version) = bytes_eq version (codes "13")

-- by the one key and the one version of the protocol
abbrev pub key_with : Option (List ℕ) → Option (List ℕ) → Result (List ℕ) ℕ
key_with None version = Err 400
key_with (Some key) version =
    if not (is_key key) then Err 400
    else if not (is_13 version) then Err 426
    else Ok key

-- the key of a handshake that is accepted, or the status that refuses it
abbrev pub handshake_key : Head → Result (List ℕ) ℕ
handshake_key head =
    if asks_upgrade head
    then key_with (only_value (codes "sec-websocket-key") head.fields) (only_value (codes "sec-websocket-version") head.fields)
    else Err 400

-- ---- the bytes

-- the reply after which the connection is a WebSocket
abbrev pub switching : List ℕ → List ℕ
switching key =
    codes "HTTP/1.1 101 Switching Protocols" ++ crlf
    ++ codes "Upgrade: websocket" ++ crlf
    ++ codes "Connection: Upgrade" ++ crlf
    ++ codes "Sec-WebSocket-Accept: " ++ accept_value key ++ crlf ++ crlf

-- what stands before a body of so many bytes that tells which version of the protocol is spoken (RFC 6455, section 4.4)
abbrev pub version_head : ℕ → List ℕ
version_head count =
    codes "HTTP/1.1 426 Upgrade Required" ++ crlf
    ++ codes "Content-Type: application/json" ++ crlf
    ++ codes "Content-Length: " ++ decimal count ++ crlf
    ++ codes "Sec-WebSocket-Version: 13" ++ crlf
    ++ codes "Connection: close" ++ crlf ++ crlf

-- the bytes of the reply that refuses a handshake
abbrev pub shake_refusal : ℕ → List ℕ
shake_refusal status =
    if status == 426 then version_head (length (refusal 426).body) ++ (refusal 426).body
    else reply_text (refusal status)

-- by the target, and by the key or the status that refuses
abbrev pub shaken_by : List ℕ → Result (List ℕ) ℕ → Shake
shaken_by target (Ok key) = Upgrade (switching key) target
shaken_by target (Err status) = Refuse (shake_refusal status)

-- what a handshake with this head is answered
abbrev pub shaken : Head → Shake
shaken head = shaken_by head.target (handshake_key head)
