-- The words of a command line that ask for a server.
use Rattle.std.specs.Prelude.{◌≡◌, ℕ, Bool, false, List, [], ◌∷◌, ◌++◌, bytes_eq, codes, Result, Ok, Err}
use Rattle.ch_config.specs.declared.config.Config.{Config}
use Rattle.ch_transcript.specs.Printing.{line_end}

-- `serve`, and the path of a configuration
abbrev pub is_serve : List (List ℕ) → Bool
is_serve [] = false
is_serve (word ∷ []) = false
is_serve (word ∷ path ∷ []) = bytes_eq word (codes "serve")
is_serve (word ∷ path ∷ other ∷ words) = false

-- the line for words that ask for none
abbrev pub usage_line : List ℕ
usage_line = codes "usage: channelsd serve <config>" ++ line_end

-- the configuration was read, unless there was no memory
abbrev pub IsReadOr : Config → Result Config ℕ → Type 0
IsReadOr config (Ok read) = read ≡ config
IsReadOr config (Err status) = status ≡ 7

-- none was read, and of the status this holds
abbrev pub IfDeclined : Result Config ℕ → (ℕ → Type 0) → Type 0
IfDeclined (Ok read) P = ⊥
IfDeclined (Err status) P = P status
