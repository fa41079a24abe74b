-- What a line of a transcript says: a moment, a blank and a command.
use Rattle.std.specs.Prelude.{ℕ, Bool, ◌&&◌, ◌||◌, ◌==◌, ◌≡◌, ◌≤◌, not, true, List, [], ◌∷◌, bytes_eq, length, nat_le, nat_lt, Option, Some, None, Result, Ok, Err, codes, if◌then◌else◌}
use Rattle.std.specs.List.{before_first, after_first, position_or_len, list_all}
use Rattle.std.specs.Str.{is_utf8}
use Rattle.std.specs.Fmt.{decimal}
use Rattle.std.specs.Str.Parse.{digits_value}
use Rattle.hex.specs.Hex.{decode_of}
use Rattle.hex.specs.declared.error.FromHexError.{FromHexError}
use Rattle.ch_base.specs.declared.limits.TheConstants.{LATEST_MOMENT}
use Rattle.ch_history.specs.ChannelName.{is_good_name}
use Rattle.ch_history.specs.Limits.{is_event_name}
use Rattle.ch_transcript.specs.declared.commands.Command.{Command}
use Rattle.ch_transcript.specs.declared.commands.Command.TheVariants.{Open, Say, Join, SignIn, Lose, Tick, Publish, Tail, Api, Hooks, Http}
use Rattle.ch_transcript.specs.declared.commands.Method.{Method}
use Rattle.ch_transcript.specs.declared.commands.Method.TheVariants.{Get, Post}
use Rattle.ch_transcript.specs.declared.commands.Line.{Line}
use Rattle.ch_transcript.specs.declared.commands.Line.TheVariants.{Skipped, Timed, Bad}

-- ---- parts

-- parts are parted by one blank; a part may be empty
abbrev pub is_blank : ℕ → Bool
is_blank b = b == 32

-- whether there is a blank: the place of the first is one of the text
abbrev pub has_blank : List ℕ → Bool
has_blank text = nat_lt (position_or_len is_blank text) (length text)

abbrev pub first_part : List ℕ → List ℕ
first_part text = before_first is_blank text

-- what stands after the first part and its blank; none where there is no blank
abbrev pub more_parts : List ℕ → Option (List ℕ)
more_parts text = if has_blank text then Some (after_first is_blank text) else None

-- the number that is written so: in decimal, without a leading zero, and no greater than the latest moment
abbrev pub number_in : List ℕ → Option ℕ
number_in text =
    if nat_le (digits_value 10 text) LATEST_MOMENT && bytes_eq (decimal (digits_value 10 text)) text
    then Some (digits_value 10 text) else None

-- ---- commands, by what follows their word

-- a target, with no blank in it
abbrev pub open_in : List ℕ → Option (List ℕ) → Option Command
open_in target None = Some (Open target)
open_in target (Some more) = None

-- a number and a text
abbrev pub say_in : Option ℕ → Option (List ℕ) → Option Command
say_in None text = None
say_in (Some number) None = None
say_in (Some number) (Some text) = Some (Say number text)

-- a channel, and data or none
abbrev pub join_of : ℕ → List ℕ → Option Command
join_of number more = if is_good_name (first_part more) then Some (Join number (first_part more) (more_parts more)) else None

-- a number, a channel, and data or none
abbrev pub join_in : Option ℕ → Option (List ℕ) → Option Command
join_in None more = None
join_in (Some number) None = None
join_in (Some number) (Some more) = join_of number more

-- a number and a user's data
abbrev pub sign_in_in : Option ℕ → Option (List ℕ) → Option Command
sign_in_in None user_data = None
sign_in_in (Some number) None = None
sign_in_in (Some number) (Some user_data) = Some (SignIn number user_data)

-- a number
abbrev pub lose_in : Option ℕ → Option Command
lose_in None = None
lose_in (Some number) = Some (Lose number)

abbrev pub tick_in : Option ℕ → Option Command
tick_in None = None
tick_in (Some number) = Some (Tick number)

abbrev pub tail_in : Option ℕ → Option Command
tail_in None = None
tail_in (Some shard) = Some (Tail shard)

-- a body, of an event of this name on this channel
abbrev pub publish_of : Option ℕ → List ℕ → List ℕ → Option (List ℕ) → Option Command
publish_of except channel event None = None
publish_of except channel event (Some body) =
    if is_good_name channel && is_event_name event then Some (Publish channel event body except) else None

-- an event and a body
abbrev pub publish_on : Option ℕ → List ℕ → Option (List ℕ) → Option Command
publish_on except channel None = None
publish_on except channel (Some more) = publish_of except channel (first_part more) (more_parts more)

-- a channel, an event and a body
abbrev pub publish_in : Option ℕ → List ℕ → Option Command
publish_in except rest = publish_on except (first_part rest) (more_parts rest)

-- a number, a channel, an event and a body
abbrev pub except_in : Option ℕ → Option (List ℕ) → Option Command
except_in None rest = None
except_in (Some number) None = None
except_in (Some number) (Some rest) = publish_in (Some number) rest

-- ---- requests

abbrev pub method_in : List ℕ → Option Method
method_in word = if bytes_eq word (codes "GET") then Some Get else if bytes_eq word (codes "POST") then Some Post else None

-- ASCII, but no blank, `#` and `?`
abbrev pub is_plain_byte : ℕ → Bool
is_plain_byte b = nat_lt b 128 && not (b == 32 || b == 9 || b == 35 || b == 63)

abbrev pub is_plain : List ℕ → Bool
is_plain text = list_all is_plain_byte text

-- a dash is no query
abbrev pub query_in : List ℕ → List ℕ
query_in query = if bytes_eq query (codes "-") then [] else query

-- what is left out is empty
abbrev pub or_empty : Option (List ℕ) → List ℕ
or_empty None = []
or_empty (Some text) = text

abbrev pub api_of : Option Method → List ℕ → List ℕ → Option (List ℕ) → Option Command
api_of None path query body = None
api_of (Some method) path query body =
    if is_plain path && is_plain query then Some (Api method path (query_in query) (or_empty body)) else None

-- a query, and a body or none
abbrev pub api_on : Option Method → List ℕ → Option (List ℕ) → Option Command
api_on method path None = None
api_on method path (Some more) = api_of method path (first_part more) (more_parts more)

-- a path, a query, and a body or none
abbrev pub api_in : Option Method → Option (List ℕ) → Option Command
api_in method None = None
api_in method (Some more) = api_on method (first_part more) (more_parts more)

-- the bytes that are written in hex
abbrev pub http_of : Result (List ℕ) FromHexError → Option Command
http_of (Ok bytes) = Some (Http bytes)
http_of (Err error) = None

-- ---- all commands

-- the command of this word
abbrev pub command_by : List ℕ → List ℕ → Option Command
command_by word rest =
    if bytes_eq word (codes "open") then open_in rest (more_parts rest)
    else if bytes_eq word (codes "say") then say_in (number_in (first_part rest)) (more_parts rest)
    else if bytes_eq word (codes "join") then join_in (number_in (first_part rest)) (more_parts rest)
    else if bytes_eq word (codes "signin") then sign_in_in (number_in (first_part rest)) (more_parts rest)
    else if bytes_eq word (codes "lose") then lose_in (number_in rest)
    else if bytes_eq word (codes "tick") then tick_in (number_in rest)
    else if bytes_eq word (codes "publish") then publish_in None rest
    else if bytes_eq word (codes "except") then except_in (number_in (first_part rest)) (more_parts rest)
    else if bytes_eq word (codes "tail") then tail_in (number_in rest)
    else if bytes_eq word (codes "api") then api_in (method_in (first_part rest)) (more_parts rest)
    else if bytes_eq word (codes "http") then http_of (decode_of rest)
    else None

-- a word and what follows it; one command is a word alone
abbrev pub command_in : List ℕ → Option (List ℕ) → Option Command
command_in word None = if bytes_eq word (codes "hooks") then Some Hooks else None
command_in word (Some rest) = command_by word rest

-- the command that a text says, if it says one
abbrev pub command_of : List ℕ → Option Command
command_of text = command_in (first_part text) (more_parts text)

-- ---- lines

abbrev pub command_after : Option (List ℕ) → Option Command
command_after None = None
command_after (Some text) = command_of text

abbrev pub timed : Option ℕ → Option Command → Line
timed None command = Bad
timed (Some at) None = Bad
timed (Some at) (Some command) = Timed at command

-- whether the text is empty or a comment
abbrev pub is_skipped : List ℕ → Bool
is_skipped [] = true
is_skipped (b ∷ bytes) = b == 35

-- what a text says
abbrev pub line_in : List ℕ → Line
line_in text = if is_skipped text then Skipped else timed (number_in (first_part text)) (command_after (more_parts text))

-- what a line says; one that isn't UTF-8 says nothing, even where it begins as a comment
abbrev pub line_of : List ℕ → Line
line_of line = if is_utf8 line then line_in line else Bad

-- ---- what lines carry

-- the names of channels and of events are good
abbrev pub IsCommand : Command → Type 0
IsCommand (Join number channel channel_data) = is_good_name channel ≡ true
IsCommand (Publish channel event body except) = (is_good_name channel ≡ true) × (is_event_name event ≡ true)
IsCommand _ = Unit {0}

abbrev pub IsLine : Line → Type 0
IsLine Skipped = Unit {0}
IsLine (Timed at command) = (at ≤ LATEST_MOMENT) × IsCommand command
IsLine Bad = Unit {0}
