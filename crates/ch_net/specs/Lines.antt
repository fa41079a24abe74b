-- The messages of a wire in memory, as its link has them in bytes: a line each.
use Rattle.std.specs.Prelude.{ℕ, ◌==◌, Bool, List, length, map, filter, not, cond}
use Rattle.std.specs.List.{slice_split}
use Rattle.std.specs.Str.{is_utf8}
use Rattle.ch_net.specs.declared.wire.Message.{Message}
use Rattle.ch_net.specs.declared.wire.Message.TheVariants as message

-- a line is a text where it is UTF-8, else a binary message
abbrev pub message_of : List ℕ → Message
message_of line = cond (is_utf8 line) (message.Text line) message.Binary

-- the line holds a message
abbrev pub holds_message : List ℕ → Bool
holds_message line = not (length line == 0)

-- a line feed ends a line
abbrev pub is_line_feed : ℕ → Bool
is_line_feed byte = byte == 10

-- the lines that hold messages
abbrev pub lines_in : List ℕ → List (List ℕ)
lines_in bytes = filter holds_message (slice_split is_line_feed bytes)

-- the messages in these bytes
abbrev pub messages_in : List ℕ → List Message
messages_in bytes = map message_of (lines_in bytes)
