-- The lines that a replay prints. The first part of each socket id is `START_SECOND`.
use Rattle.std.specs.Prelude.{ℕ, ◌-◌, List, [], ◌∷◌, ◌++◌, codes, drop, length, map, Result, Ok, Err}
use Rattle.std.specs.Fmt.{decimal}
use Rattle.ch_base.specs.declared.channel.ChanAnswer.{ChanAnswer}
use Rattle.ch_base.specs.declared.channel.ChanAnswer.TheVariants.{Sent}
use Rattle.ch_base.specs.declared.frame.Frame.{Frame}
use Rattle.ch_base.specs.declared.frame.Frame.TheVariants.{Error}
use Rattle.ch_history.specs.declared.limits.TheConstants.{LONGEST_TAIL}
use Rattle.ch_history.specs.Entries.{ChanHistory}
use Rattle.ch_history.specs.Letters.{letter_of}
use Rattle.ch_base.specs.Printed.{printed}
use Rattle.ch_requests.specs.Replies.{refusal}
use Rattle.ch_requests.specs.declared.reply.Reply.{Reply}
use Rattle.ch_transcript.specs.declared.start.TheConstants.{START_SECOND}

abbrev pub line_end : List ℕ
line_end = 10 ∷ []

-- ---- sockets

-- a socket's line: its number, a blank and a text
abbrev pub socket_line : ℕ → List ℕ → List ℕ
socket_line number text = decimal number ++ 32 ∷ [] ++ text ++ line_end

-- a frame that a socket is sent
abbrev pub frame_line : ℕ → Frame → List ℕ
frame_line number frame = socket_line number (printed frame START_SECOND)

-- the end of a connection, by its code
abbrev pub close_line : ℕ → ℕ → List ℕ
close_line number code = socket_line number (codes "close " ++ decimal code)

-- an error, and the end of the connection
abbrev pub end_lines : ℕ → ℕ → List ℕ
end_lines number code = frame_line number (Error code) ++ close_line number code

-- ---- other lines

-- the counts that answer a Publish
abbrev pub sent_line : ChanAnswer → List ℕ
sent_line (Sent subs users) = codes "sent " ++ decimal subs ++ 32 ∷ decimal users ++ line_end
sent_line _ = []

-- the letters of the last calls of a shard, the oldest first
abbrev pub tail_line : ChanHistory → List ℕ
tail_line h = codes "tail " ++ map (λ e. letter_of e.call) (drop (length h - LONGEST_TAIL) h) ++ line_end

-- the reply to a request
abbrev pub reply_line : Reply → List ℕ
reply_line reply = codes "http " ++ decimal reply.status ++ codes " " ++ reply.body ++ line_end

-- the line of a handshake that is accepted by its key, or refused with a status
abbrev pub shake_line : Result (List ℕ) ℕ → List ℕ
shake_line (Ok key) = codes "http 101" ++ line_end
shake_line (Err status) = reply_line (refusal status)

-- more bytes of a request are wanted
abbrev pub need_line : List ℕ
need_line = codes "http need" ++ line_end

-- the line that names the nth line, which isn't a transcript line
abbrev pub error_line : ℕ → List ℕ
error_line n = codes "error line " ++ decimal n ++ line_end

-- the line that names the nth line, which is too long
abbrev pub long_line : ℕ → List ℕ
long_line n = codes "long line " ++ decimal n ++ line_end
