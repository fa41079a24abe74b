-- The configuration that words name.
use Rattle.std.specs.Prelude.{◌≡◌, ◌≤◌, ◌||◌, ℕ, Bool, false, List, [], ◌∷◌, length, bytes_eq, codes, Option, None, Some, IfSome}
use Rattle.ch_config_text.specs.BuiltIn.{built_in_text}
use Rattle.ch_program.specs.declared.limits.TheConstants.{LONGEST_FILE}
use Rattle.ch_program.specs.declared.given.Given.{Given}
use Rattle.ch_program.specs.declared.given.Given.TheVariants.{BuiltIn, File, Unread}

-- the words are `replay` or `serve` and the path of a file
abbrev pub names_file : List (List ℕ) → Bool
names_file (word ∷ path ∷ []) = bytes_eq word (codes "replay") || bytes_eq word (codes "serve")
names_file _ = false

-- the bytes of the configuration, where there are any
abbrev pub bytes_of : Given → Option (List ℕ)
bytes_of BuiltIn = Some built_in_text
bytes_of (File bytes) = Some bytes.items
bytes_of Unread = None

-- Where the words name no file, the built-in text is given. A file gives at most so many bytes, and none where it can't be
-- read.
pub record IsGiven (words : List (List ℕ)) (given : Option (List ℕ)) : Type 0 where
  pub built_in : names_file words ≡ false → given ≡ Some built_in_text
  pub short : IfSome given (λ bytes. length bytes ≤ LONGEST_FILE)
