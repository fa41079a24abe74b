-- The transcript of a soak: eight connections are opened, and then each line is drawn.
use Rattle.std.specs.Prelude.{◌+◌, ◌*◌, ◌/◌, ◌%◌, ◌^◌, ◌==◌, ℕ, zero, suc, Bool, true, false, nat_le, nat_lt, List, [], ◌++◌, codes, if◌then◌else◌}
use Rattle.std.specs.Fmt.{decimal}
use Rattle.ch_transcript.specs.Printing.{line_end}
use Rattle.ch_soak.specs.declared.draws.TheConstants.{FACTOR, INCREMENT}
use Rattle.ch_soak.specs.declared.draws.Action.{Action}
use Rattle.ch_soak.specs.declared.draws.Action.TheVariants.{Join, Unsubscribe, Publish, Say, SignIn, Hooks}
use Rattle.ch_soak.specs.declared.draws.Draws.{Draws}
use Rattle.ch_soak.specs.declared.words.Soak.{Soak}

-- ---- draws

-- the state of the generator after one draw: a linear congruence modulo 2^64
abbrev pub stirred : ℕ → ℕ
stirred x = (x * FACTOR + INCREMENT) % 2 ^ 64

-- the number below m that is drawn from the state after the draw: by its high bits
abbrev pub drawn : ℕ → ℕ → ℕ
drawn m x = x / 2 ^ 33 % m

-- what a line does, by a number below 8
abbrev pub action_of : ℕ → Action
action_of n =
    if nat_lt n 2 then Join else if n == 2 then Unsubscribe else if nat_lt n 5 then Publish
    else if n == 5 then Say else if n == 6 then SignIn else Hooks

-- what a line draws from a state, in this order: what it does, by which socket, on which channel, and for which user
abbrev pub draws_from : ℕ → Draws
draws_from x = record {
  action = action_of (drawn 8 (stirred x));
  socket = 1 + drawn 8 (stirred (stirred x));
  channel = drawn 6 (stirred (stirred (stirred x)));
  user = drawn 4 (stirred (stirred (stirred (stirred x))));
}

-- ---- lines

-- the six channels, one of each kind that isn't encrypted and not both private and cached; the last two have members
abbrev pub channel_of : ℕ → List ℕ
channel_of c =
    if c == 0 then codes "a" else if c == 1 then codes "b" else if c == 2 then codes "cache-c"
    else if c == 3 then codes "private-p" else if c == 4 then codes "presence-q" else codes "presence-cache-z"

abbrev pub has_members : ℕ → Bool
has_members c = nat_le 4 c

-- the data of a member, on a channel that has members
abbrev pub member_of : Draws → List ℕ
member_of d = if has_members d.channel then codes " {\"user_id\":\"u" ++ decimal d.user ++ codes "\"}" else []

-- a socket subscribes, rightly authorized
abbrev pub join_command : Draws → List ℕ
join_command d = codes "join " ++ decimal d.socket ++ codes " " ++ channel_of d.channel ++ member_of d

-- a socket unsubscribes
abbrev pub unsubscribe_command : Draws → List ℕ
unsubscribe_command d = codes "say " ++ decimal d.socket ++ codes " {\"event\":\"pusher:unsubscribe\",\"data\":{\"channel\":\""
    ++ channel_of d.channel ++ codes "\"}}"

-- a back end publishes the number of the line
abbrev pub publish_command : ℕ → Draws → List ℕ
publish_command i d = codes "publish " ++ channel_of d.channel ++ codes " e \"" ++ decimal i ++ codes "\""

-- a socket says the number of the line to the other subscribers
abbrev pub say_command : ℕ → Draws → List ℕ
say_command i d = codes "say " ++ decimal d.socket ++ codes " {\"event\":\"client-m\",\"channel\":\"" ++ channel_of d.channel
    ++ codes "\",\"data\":" ++ decimal i ++ codes "}"

-- a socket signs a user in, who watches two users
abbrev pub sign_in_command : Draws → List ℕ
sign_in_command d = codes "signin " ++ decimal d.socket ++ codes " {\"id\":\"u" ++ decimal d.user
    ++ codes "\",\"watchlist\":[\"u0\",\"u1\"]}"

-- what line i says after its moment
abbrev pub command_of : ℕ → Draws → Action → List ℕ
command_of i d Join = join_command d
command_of i d Unsubscribe = unsubscribe_command d
command_of i d Publish = publish_command i d
command_of i d Say = say_command i d
command_of i d SignIn = sign_in_command d
command_of i d Hooks = codes "hooks"

-- whether a line names a user
abbrev pub names_user : Draws → Action → Bool
names_user d Join = has_members d.channel
names_user d SignIn = true
names_user d _ = false

-- how many connections are opened
abbrev pub connection_count : ℕ
connection_count = 8

-- line i, drawn from a state; the first line is line 0, and each drawn line is at the moment of its number
abbrev pub line_at : ℕ → ℕ → List ℕ
line_at i x =
    if nat_lt i connection_count then codes "0 open /app/k?protocol=7" else decimal i ++ codes " " ++ command_of i (draws_from x) (draws_from x).action

-- the state after line i
abbrev pub state_after : ℕ → ℕ → ℕ
state_after i x =
    if nat_lt i connection_count then x
    else if names_user (draws_from x) (draws_from x).action then stirred (stirred (stirred (stirred x)))
    else stirred (stirred (stirred x))

-- ---- the transcript

-- so many lines, of which the first is line i, drawn from a state
abbrev pub lines_from : ℕ → ℕ → ℕ → List ℕ
lines_from zero i x = []
lines_from (suc count) i x = line_at i x ++ line_end ++ lines_from count (i + 1) (state_after i x)

abbrev pub transcript : Soak → List ℕ
transcript soak = lines_from soak.lines 0 soak.seed
