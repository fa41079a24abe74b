-- What a request is answered (Pusher Channels documentation, HTTP API; RFC 9112, section 4; RFC 9110, section 15).
use Rattle.std.specs.Prelude.{ℕ, ◌==◌, Bool, nat_lt, List, [], ◌∷◌, ◌++◌, length, map, codes, Option, Some, None, if◌then◌else◌}
use Rattle.std.specs.List.{flat_map, join_with_byte}
use Rattle.std.specs.Fmt.{decimal}
use Rattle.ch_base.specs.declared.channel.CacheRow.{CacheRow}
use Rattle.ch_base.specs.declared.channel.ChanAnswer.TheVariants.{Sent, Rows, Looked, Ids}
use Rattle.ch_base.specs.declared.channel.NameRow.{NameRow}
use Rattle.ch_base.specs.Escape.{quoted}
use Rattle.ch_sig.specs.Parameters.{is_before}
use Rattle.ch_protocol.specs.declared.ask.Made.{Made}
use Rattle.ch_protocol.specs.declared.ask.Made.TheVariants.{Chan}
use Rattle.ch_requests.specs.declared.plan.Counted.{Counted}
use Rattle.ch_requests.specs.declared.plan.Plan.{Plan}
use Rattle.ch_requests.specs.declared.plan.ReplyForm.{ReplyForm}
use Rattle.ch_requests.specs.declared.plan.ReplyForm.TheVariants.{Empty, Triggered, Batch, Channels, Channel, Users}
use Rattle.ch_requests.specs.declared.plan.Wanted.{Wanted}
use Rattle.ch_requests.specs.declared.reply.Reply.{Reply}

-- ---- JSON texts

-- the object of members, and the array of values
abbrev pub object_text : List (List ℕ) → List ℕ
object_text members = codes "{" ++ join_with_byte 44 members ++ codes "}"

abbrev pub array_text : List (List ℕ) → List ℕ
array_text values = codes "[" ++ join_with_byte 44 values ++ codes "]"

-- a member, by its name and its value
abbrev pub member_text : List ℕ → List ℕ → List ℕ
member_text name value = quoted name ++ codes ":" ++ value

-- an object with one member
abbrev pub single_text : List ℕ → List ℕ → List ℕ
single_text name value = object_text (member_text name value ∷ [])

-- ---- counts

abbrev pub when : Bool → List ℕ → List (List ℕ)
when wanted member = if wanted then member ∷ [] else []

-- the members that tell the counts that are wanted
abbrev pub count_members : Wanted → ℕ → ℕ → List (List ℕ)
count_members wanted subs users =
    when wanted.users (member_text (codes "user_count") (decimal users))
    ++ when wanted.subs (member_text (codes "subscription_count") (decimal subs))

abbrev pub counts_text : Wanted → ℕ → ℕ → List ℕ
counts_text wanted subs users = object_text (count_members wanted subs users)

-- the counts that answer a Publish; of a user's own channel none are told
abbrev pub sent_counts : Wanted → Made → List ℕ
sent_counts wanted (Chan (Sent subs users)) = counts_text wanted subs users
sent_counts wanted _ = object_text []

-- ---- triggers

-- each channel with its counts, under its name
abbrev pub named_counts : List Counted → List Made → List (List ℕ)
named_counts (c ∷ cs) (made ∷ mades) = member_text c.channel (sent_counts c.wanted made) ∷ named_counts cs mades
named_counts _ _ = []

-- the counts of each event's channel
abbrev pub each_counts : List Counted → List Made → List (List ℕ)
each_counts (c ∷ cs) (made ∷ mades) = sent_counts c.wanted made ∷ each_counts cs mades
each_counts _ _ = []

-- ---- channels

-- the rows with one more, before the first whose name doesn't come before its own
abbrev pub with_row : List NameRow → NameRow → List NameRow
with_row [] new = new ∷ []
with_row (row ∷ rows) new = if is_before row.channel new.channel then row ∷ with_row rows new else new ∷ row ∷ rows

abbrev pub with_rows : List NameRow → List NameRow → List NameRow
with_rows rows [] = rows
with_rows rows (new ∷ more) = with_rows (with_row rows new) more

-- the rows that a channel shard answered
abbrev pub rows_in : Made → List NameRow
rows_in (Chan (Rows rows)) = rows
rows_in _ = []

-- the rows of all shards, ascending by name
abbrev pub all_rows : List Made → List NameRow
all_rows mades = with_rows [] (flat_map rows_in mades)

abbrev pub row_member : Wanted → NameRow → List ℕ
row_member wanted row = member_text row.channel (counts_text wanted row.subs row.users)

-- ---- one channel

abbrev pub truth : Bool → List ℕ
truth b = if b then codes "true" else codes "false"

-- the latest event: its data as spelled, and for how many seconds it is kept
abbrev pub cache_text : Option CacheRow → List ℕ
cache_text None = codes "null"
cache_text (Some row) = object_text (member_text (codes "data") row.body ∷ member_text (codes "ttl") (decimal row.ttl) ∷ [])

-- whether the channel has a subscription, its counts, and its latest event where that was asked for
abbrev pub channel_text : Wanted → Bool → List Made → List ℕ
channel_text wanted cache (Chan (Looked subs users row) ∷ mades) =
    object_text (
    member_text (codes "occupied") (truth (nat_lt 0 subs))
    ∷ count_members wanted subs users ++ when cache (member_text (codes "cache") (cache_text row)))
channel_text wanted cache _ = object_text []

abbrev pub id_text : List ℕ → List ℕ
id_text id = single_text (codes "id") (quoted id)

abbrev pub users_text : List Made → List ℕ
users_text (Chan (Ids ids) ∷ mades) = single_text (codes "users") (array_text (map id_text ids))
users_text _ = object_text []

-- ---- bodies

-- the body that tells what the form says, by the answers to the asks
abbrev pub body_of : ReplyForm → List Made → List ℕ
body_of Empty mades = object_text []
body_of (Triggered cs) mades = single_text (codes "channels") (object_text (named_counts cs mades))
body_of (Batch cs) mades = single_text (codes "batch") (array_text (each_counts cs mades))
body_of (Channels wanted) mades = single_text (codes "channels") (object_text (map (row_member wanted) (all_rows mades)))
body_of (Channel wanted cache) mades = channel_text wanted cache mades
body_of Users mades = users_text mades

-- the reply to a request whose calls were answered so
abbrev pub reply_to : Plan → List Made → Reply
reply_to plan mades = record { status = 200; body = body_of plan.form mades }

-- ---- refusals

-- the word that a refusal's body has
abbrev pub error_word : ℕ → List ℕ
error_word status =
    if status == 400 then codes "bad request"
    else if status == 401 then codes "unauthorized"
    else if status == 404 then codes "not found"
    else if status == 405 then codes "method not allowed"
    else if status == 408 then codes "request timeout"
    else if status == 411 then codes "length required"
    else if status == 413 then codes "too large"
    else if status == 426 then codes "version 13 required"
    else if status == 431 then codes "header too large"
    else if status == 503 then codes "out of memory"
    else []

abbrev pub refusal : ℕ → Reply
refusal status = record { status = status; body = single_text (codes "error") (quoted (error_word status)) }

-- ---- bytes

abbrev pub reason_of : ℕ → List ℕ
reason_of status =
    if status == 200 then codes "OK"
    else if status == 400 then codes "Bad Request"
    else if status == 401 then codes "Unauthorized"
    else if status == 404 then codes "Not Found"
    else if status == 405 then codes "Method Not Allowed"
    else if status == 408 then codes "Request Timeout"
    else if status == 411 then codes "Length Required"
    else if status == 413 then codes "Payload Too Large"
    else if status == 426 then codes "Upgrade Required"
    else if status == 431 then codes "Request Header Fields Too Large"
    else if status == 503 then codes "Service Unavailable"
    else []

abbrev pub crlf : List ℕ
crlf = 13 ∷ 10 ∷ []

-- the bytes of a reply, after which the connection is closed
abbrev pub reply_text : Reply → List ℕ
reply_text reply =
    codes "HTTP/1.1 " ++ decimal reply.status ++ codes " " ++ reason_of reply.status ++ crlf
    ++ codes "Content-Type: application/json" ++ crlf
    ++ codes "Content-Length: " ++ decimal (length reply.body) ++ crlf
    ++ codes "Connection: close" ++ crlf ++ crlf
    ++ reply.body
