-- Paths, heads and replies, as a check of the definitions' text.
use Rattle.std.specs.Prelude.{◌≡◌, ℕ, true, false, List, [], ◌∷◌, codes, Option, Some, None, Result, Ok, Err}
use Rattle.ch_base.specs.declared.channel.CacheRow.{CacheRow}
use Rattle.ch_base.specs.declared.channel.ChanAnswer.TheVariants.{Sent, Rows, Looked, Ids}
use Rattle.ch_protocol.specs.declared.ask.Made.TheVariants.{Chan}
use Rattle.ch_requests.specs.Fields.{lists, body_length, missing, bad, is}
use Rattle.ch_requests.specs.Handshakes.{accept_value, handshake_key, shake_refusal}
use Rattle.ch_sig.specs.declared.query.Param.{Param}
use Rattle.ch_requests.specs.Queries.{has_double}
use Rattle.ch_requests.specs.Replies.{body_of, refusal, reply_text}
use Rattle.ch_requests.specs.Routes.{route_of}
use Rattle.ch_requests.specs.declared.head.HeadField.{HeadField}
use Rattle.ch_requests.specs.declared.plan.ReplyForm.TheVariants.{Empty, Triggered, Channels as ChannelsForm, Channel as ChannelForm, Users}
use Rattle.ch_requests.specs.declared.request.Route.{Route}
use Rattle.ch_requests.specs.declared.request.Route.TheVariants.{Events, Channels, Channel, ChannelUsers, Terminate}

abbrev pub route_at : List ℕ → Option Route
route_at path = route_of (codes "1") path

pub record Routes : Type 0 where
  pub events : route_at (codes "/apps/1/events") ≡ Some Events
  pub channels : route_at (codes "/apps/1/channels") ≡ Some Channels
  pub channel : route_at (codes "/apps/1/channels/a%20b") ≡ Some (Channel (codes "a%20b"))
  pub no_name : route_at (codes "/apps/1/channels/") ≡ None
  pub users : route_at (codes "/apps/1/channels/presence-r/users") ≡ Some (ChannelUsers (codes "presence-r"))
  pub terminate : route_at (codes "/apps/1/users/w/terminate_connections") ≡ Some (Terminate (codes "w"))
  pub other_app : route_at (codes "/apps/2/events") ≡ None
  pub no_path : route_at [] ≡ None
  pub absolute : route_at (codes "http://h/apps/1/events") ≡ None

abbrev pub field : List ℕ → List ℕ → HeadField
field name value = record { name = name; value = value }

abbrev pub param : List ℕ → List ℕ → Param
param name value = record { name = name; value = value }

pub record Looks : Type 0 where
  pub any_case : lists (codes "websocket") (codes "h2c , WebSocket") ≡ true
  pub not_a_part : lists (codes "websocket") (codes "websockets") ≡ false
  pub none : body_length [] ≡ missing
  pub one : body_length (field (codes "content-length") (codes "37") ∷ []) ≡ is 37
  pub same : body_length (field (codes "Content-Length") (codes "37") ∷ field (codes "content-length") (codes "037") ∷ []) ≡ is 37
  pub differing : body_length (field (codes "Content-Length") (codes "37") ∷ field (codes "content-length") (codes "38") ∷ []) ≡ bad
  pub listed : body_length (field (codes "Content-Length") (codes "37, 37") ∷ []) ≡ bad
  pub coded : body_length (field (codes "Content-Length") (codes "37") ∷ field (codes "Transfer-Encoding") [] ∷ []) ≡ missing
  pub twice : has_double (param (codes "a") (codes "1") ∷ param (codes "b") (codes "2") ∷ param (codes "a") [] ∷ []) ≡ true
  pub once : has_double (param (codes "a") (codes "1") ∷ param (codes "b") (codes "1") ∷ []) ≡ false

-- the latest event `1`, kept for so many seconds
abbrev pub latest : ℕ → Option CacheRow
latest ttl = Some (record { body = codes "\"1\""; ttl = ttl })

pub record Bodies : Type 0 where
  pub nothing : body_of Empty [] ≡ codes "{}"
  pub counts : body_of (Triggered (record { channel = codes "a"; wanted = record { users = false; subs = true } }
      ∷ record { channel = codes "b"; wanted = record { users = false; subs = true } } ∷ [])) (Chan (Sent 1 0) ∷ Chan (Sent 1 0) ∷ [])
      ≡ codes "{\"channels\":{\"a\":{\"subscription_count\":1},\"b\":{\"subscription_count\":1}}}"
  pub ascending : body_of (ChannelsForm (record { users = true; subs = false }))
      (Chan (Rows (record { channel = codes "presence-b"; subs = 3; users = 2 } ∷ []))
      ∷ Chan (Rows (record { channel = codes "presence-a"; subs = 1; users = 1 } ∷ [])) ∷ [])
      ≡ codes "{\"channels\":{\"presence-a\":{\"user_count\":1},\"presence-b\":{\"user_count\":2}}}"
  pub one_channel : body_of (ChannelForm (record { users = false; subs = true }) false) (Chan (Looked 2 0 (latest 9)) ∷ [])
      ≡ codes "{\"occupied\":true,\"subscription_count\":2}"
  pub cached : body_of (ChannelForm (record { users = false; subs = false }) true) (Chan (Looked 1 0 (latest 1)) ∷ [])
      ≡ codes "{\"occupied\":true,\"cache\":{\"data\":\"1\",\"ttl\":1}}"
  pub not_cached : body_of (ChannelForm (record { users = false; subs = true }) true) (Chan (Looked 0 0 None) ∷ [])
      ≡ codes "{\"occupied\":false,\"subscription_count\":0,\"cache\":null}"
  pub users : body_of Users (Chan (Ids (codes "u" ∷ codes "v" ∷ [])) ∷ []) ≡ codes "{\"users\":[{\"id\":\"u\"},{\"id\":\"v\"}]}"
  pub refused : reply_text (refusal 401)
      ≡ codes "HTTP/1.1 401 Unauthorized\r\nContent-Type: application/json\r\nContent-Length: 24\r\nConnection: close\r\n\r\n{\"error\":\"unauthorized\"}"

-- the key of the worked handshake of RFC 6455, section 1.3
abbrev pub worked_key : List ℕ
worked_key = codes "dGhlIHNhbXBsZSBub25jZQ=="

abbrev pub connection : HeadField
connection = field (codes "Connection") (codes "keep-alive, Upgrade")

abbrev pub key : List ℕ → HeadField
key value = field (codes "Sec-WebSocket-Key") value

abbrev pub version : List ℕ → HeadField
version value = field (codes "Sec-WebSocket-Version") value

-- what a head of HTTP/1.minor with these fields asks for
abbrev pub asked : ℕ → List HeadField → Result (List ℕ) ℕ
asked minor fields =
    handshake_key (record { method = codes "GET"; target = codes "/app/k"; minor = minor; fields = fields; used = 0 })

pub record Handshakes : Type 0 where
  pub value : accept_value worked_key ≡ codes "s3pPLMBiTxaQ9kYGzzhZRbK+xOo="
  pub accepted : asked 1 (connection ∷ key worked_key ∷ version (codes "13") ∷ []) ≡ Ok worked_key
  pub older : asked 0 (connection ∷ key worked_key ∷ version (codes "13") ∷ []) ≡ Err 400
  pub not_connected : asked 1 (key worked_key ∷ version (codes "13") ∷ []) ≡ Err 400
  pub no_key : asked 1 (connection ∷ version (codes "13") ∷ []) ≡ Err 400
  pub two_keys : asked 1 (connection ∷ key worked_key ∷ key worked_key ∷ version (codes "13") ∷ []) ≡ Err 400
  pub short_key : asked 1 (connection ∷ key (codes "MTIzNDU2Nzg5MDEyMzQ1") ∷ version (codes "13") ∷ []) ≡ Err 400
  pub not_padded : asked 1 (connection ∷ key (codes "dGhlIHNhbXBsZSBub25jZQ") ∷ version (codes "13") ∷ []) ≡ Err 400
  pub key_before_version : asked 1 (connection ∷ version (codes "12") ∷ []) ≡ Err 400
  pub other_version : asked 1 (connection ∷ key worked_key ∷ version (codes "12") ∷ []) ≡ Err 426
  pub no_version : asked 1 (connection ∷ key worked_key ∷ []) ≡ Err 426
  pub two_versions : asked 1 (connection ∷ key worked_key ∷ version (codes "13") ∷ version (codes "13") ∷ []) ≡ Err 426
  pub version_told : shake_refusal 426
      ≡ codes "HTTP/1.1 426 Upgrade Required\r\nContent-Type: application/json\r\nContent-Length: 31\r\nSec-WebSocket-Version: 13\r\nConnection: close\r\n\r\n{\"error\":\"version 13 required\"}"
