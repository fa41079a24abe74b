-- The words of a command line that ask for a replay.
use Rattle.std.specs.Prelude.{ℕ, Bool, false, List, [], ◌∷◌, ◌++◌, bytes_eq, codes}
use Rattle.ch_transcript.specs.Printing.{line_end}

abbrev is_replay_word : List ℕ → Bool
is_replay_word word = bytes_eq word (codes "replay")

-- `replay`, and at most one word after it, which is the path of a configuration
abbrev pub is_replay : List (List ℕ) → Bool
is_replay [] = false
is_replay (word ∷ []) = is_replay_word word
is_replay (word ∷ path ∷ []) = is_replay_word word
is_replay (word ∷ path ∷ other ∷ words) = false

-- the line for words that ask for no replay
abbrev pub usage_line : List ℕ
usage_line = codes "usage: channelsd replay [config]" ++ line_end
