-- What the program does with its words.
use Rattle.std.specs.Prelude.{◌&&◌, ◌||◌, ◌==◌, nat_le, ℕ, Bool, List, Option}
use Rattle.ch_program.specs.Drills.{Drills}
use Rattle.ch_program.specs.Given.{IsGiven}
use Rattle.ch_program.specs.Replays.{Replays}
use Rattle.ch_program.specs.Soaks.{Soaks}
use Rattle.ch_server.specs.Starts.{Starts}
use Rattle.ch_program.specs.declared.command.Command.{Command}
use Rattle.ch_program.specs.declared.command.Command.TheVariants.{Replay, Soak, Drill, Serve}

-- what a command comes to, by its words, the status, what was left of the source and what the sink was told
abbrev pub Does : Command → List (List ℕ) → ℕ → Option (List ℕ) → Option (List ℕ) → Option (List ℕ) → Option (List ℕ) → Type 0 → Type 0
Does Replay words status left_old left_new told_old told_new write_failed =
    (given : Option (List ℕ)) × IsGiven words given
    × Replays words given status left_old left_new told_old told_new write_failed
Does Soak words status left_old left_new told_old told_new write_failed = Soaks words status told_old told_new write_failed
Does Drill words status left_old left_new told_old told_new write_failed = Drills words status told_old told_new write_failed
Does Serve words status left_old left_new told_old told_new write_failed =
    (given : Option (List ℕ)) × IsGiven words given × Starts words given status told_old told_new write_failed

-- the statuses with which the program ends: 0, and 2 to 9
abbrev pub is_status : ℕ → Bool
is_status status = status == 0 || (nat_le 2 status && nat_le status 9)
