-- The commands of the program.
use Rattle.std.specs.Prelude.{ℕ, List, [], ◌∷◌, bytes_eq, codes, if◌then◌else◌}
use Rattle.ch_program.specs.declared.command.Command.{Command}
use Rattle.ch_program.specs.declared.command.Command.TheVariants.{Replay, Soak, Drill, Serve}

-- the command of a name; what names none asks for a replay, which refuses it
abbrev pub command_named : List ℕ → Command
command_named word =
    if bytes_eq word (codes "soak") then Soak
    else if bytes_eq word (codes "drill") then Drill
    else if bytes_eq word (codes "serve") then Serve
    else Replay

-- the command that the words begin with
abbrev pub command_of : List (List ℕ) → Command
command_of [] = Replay
command_of (word ∷ words) = command_named word
