-- What a replay of a transcript writes, and its status: a fold over the lines.
use Rattle.std.specs.Prelude.{◌≡◌, ℕ, ◌+◌, nat_le, nat_lt, List, [], ◌∷◌, ◌++◌, length, Option, Some, None, MatchBool, if◌then◌else◌}
use Rattle.ch_config.specs.declared.config.Config.{Config}
use Rattle.ch_transcript.specs.declared.commands.Line.{Line}
use Rattle.ch_transcript.specs.declared.commands.Line.TheVariants.{Skipped, Timed, Bad}
use Rattle.ch_transcript.specs.Lines.{lines_of}
use Rattle.ch_transcript.specs.declared.limits.TheConstants.{LONGEST_LINE}
use Rattle.ch_transcript.specs.Commands.{line_of}
use Rattle.ch_transcript.specs.Printing.{error_line, long_line}
use Rattle.ch_transcript.specs.Progress.{Progress, beginning, Played, quietly}
use Rattle.ch_transcript.specs.Obeying.{Sense, Means, obeyed}
use Rattle.ch_transcript.specs.Rounds.{rounded}

-- the line's moment is the last one from now on
abbrev pub at_moment : ℕ → Progress → Progress
at_moment at p = record { at = at; sockets = p.sockets; shards = p.shards; webhooks = p.webhooks }

-- what a line writes by what it says; no line goes back in time
abbrev pub played_as : Config → Progress → Line → Sense → Option Played
played_as config p Skipped s = Some (quietly p)
played_as config p (Timed at command) s =
    if nat_le p.at at then rounded config (obeyed config (at_moment at p) at command s) else None
played_as config p Bad s = None

abbrev pub MeansAs : Config → Progress → Line → Sense → Type 0
MeansAs config p (Timed at command) s = MatchBool (nat_le p.at at) (Means config (at_moment at p) at command s) (Unit {0})
MeansAs config p _ s = Unit {0}

-- what the line writes; none where it is no transcript line here
abbrev pub Plays : Config → Progress → List ℕ → Option Played → Type 0
Plays config p line x = (s : Sense) × MeansAs config p (line_of line) s × (x ≡ played_as config p (line_of line) s)

-- the status of a replay, and what it writes
pub record Outcome : Type 0 where
  pub status : ℕ
  pub text : List ℕ

abbrev pub ends : ℕ → List ℕ → Outcome
ends status text = record { status = status; text = text }

-- the outcome with this text written before it
abbrev pub after_text : List ℕ → Outcome → Outcome
after_text text o = record { status = o.status; text = text ++ o.text }

-- the outcome from the nth line on, by what it writes and what the lines after it make
abbrev pub Follows : ℕ → (Progress → Outcome → Type 0) → Option Played → Outcome → Type 0
Follows n More None o = o ≡ ends 4 (error_line n)
Follows n More (Some x) o = (later : Outcome) × More x.next later × (o ≡ after_text x.text later)

-- the outcome of lines of which the first is the nth
abbrev pub OutcomeFrom : Config → ℕ → Progress → List (List ℕ) → Outcome → Type 0
OutcomeFrom config n p [] o = o ≡ ends 0 []
OutcomeFrom config n p (line ∷ lines) o =
    MatchBool (nat_lt LONGEST_LINE (length line)) (o ≡ ends 8 (long_line n))
    ((x : Option Played) × Plays config p line x × Follows n (λ q later. OutcomeFrom config (n + 1) q lines later) x o)

-- the outcome of a transcript
abbrev pub HasOutcome : Config → List ℕ → Outcome → Type 0
HasOutcome config bytes o = OutcomeFrom config 1 beginning (lines_of bytes) o
