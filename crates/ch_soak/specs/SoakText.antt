-- What a soak prints.
use Rattle.std.specs.Prelude.{◌≡◌, ℕ, List, ◌++◌, length, codes, Option, take}
use Rattle.std.specs.Fmt.{decimal}
use Rattle.std.specs.Io.KnownBytes.{Appends}
use Rattle.hex.specs.Hex.{encode_lower}
use Rattle.sha2.specs.Sha256.{sha256}
use Rattle.ch_config.specs.Config.{built_in}
use Rattle.ch_transcript.specs.Outcomes.{HasOutcome, ends}
use Rattle.ch_transcript.specs.Printing.{line_end}
use Rattle.ch_soak.specs.declared.words.Soak.{Soak}
use Rattle.ch_soak.specs.Generator.{transcript}
use Rattle.ch_soak.specs.SoakWords.{AsksFor}

-- the line for words that ask for no soak
abbrev pub usage_line : List ℕ
usage_line = codes "usage: channelsd soak <seed> <lines>" ++ line_end

-- the line for so many bytes of output, with this text of their hash
abbrev pub summary_line : Soak → ℕ → List ℕ → List ℕ
summary_line soak bytes hash = codes "soak " ++ decimal soak.seed ++ codes " lines " ++ decimal soak.lines
    ++ codes " bytes " ++ decimal bytes ++ codes " sha256 " ++ hash ++ line_end

-- how long the output of the transcript is, and the lower-case hex of its SHA-256 (FIPS 180-4)
abbrev pub summary : Soak → List ℕ → List ℕ
summary soak output = summary_line soak (length output) (encode_lower (sha256 output))

-- this line sums up the output of the soak's transcript under the built-in configuration
pub record IsSummary (soak : Soak) (line : List ℕ) : Type 0 where
  pub output : List ℕ
  pub outcome : HasOutcome built_in (transcript soak) (ends 0 output)
  pub is : line ≡ summary soak output

-- the words ask for a soak, and this is its line
pub record IsSoakText (words : List (List ℕ)) (line : List ℕ) : Type 0 where
  pub soak : Soak
  pub asked : AsksFor words soak
  pub summed : IsSummary soak line

-- the line was written
pub record Writes (words : List (List ℕ)) (told_old told_new : Option (List ℕ)) : Type 0 where
  pub line : List ℕ
  pub is : IsSoakText words line
  pub gained : Appends told_old told_new line

-- a front of it was written
pub record Breaks (words : List (List ℕ)) (told_old told_new : Option (List ℕ)) : Type 0 where
  pub line : List ℕ
  pub is : IsSoakText words line
  pub count : ℕ
  pub gained : Appends told_old told_new (take count line)
