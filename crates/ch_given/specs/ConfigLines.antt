-- The configuration that a program is given, or the line that says why there is none.
use Rattle.std.specs.Prelude.{◌≡◌, ℕ, List, [], ◌++◌, codes, Option, None, Some, Result, Ok, Err, ◌⊎◌}
use Rattle.std.specs.Io.KnownBytes.{Appends}
use Rattle.ch_config.specs.declared.config.Config.{Config}
use Rattle.ch_config_text.specs.Config.{config_in}
use Rattle.ch_config_text.specs.Fields.{field_name}
use Rattle.ch_config_text.specs.declared.fault.ConfigFault.{ConfigFault}
use Rattle.ch_config_text.specs.declared.fault.ConfigFault.TheVariants.{NotJson, Missing, Bad, Memory}
use Rattle.ch_io.specs.Writes.{WritesLast}
use Rattle.ch_transcript.specs.Printing.{line_end}

-- the line where no bytes of a configuration are given
abbrev pub unread_line : List ℕ
unread_line = codes "config unread" ++ line_end

-- the line that names what is wrong with the bytes; want of memory is no fault of theirs
abbrev pub fault_line : ConfigFault → List ℕ
fault_line NotJson = codes "config not json" ++ line_end
fault_line (Missing field) = codes "config missing " ++ field_name field ++ line_end
fault_line (Bad field) = codes "config bad " ++ field_name field ++ line_end
fault_line Memory = []

-- what the bytes say, or the line of their fault
abbrev pub config_or_fault : Result Config ConfigFault → Result Config (List ℕ)
config_or_fault (Ok config) = Ok config
config_or_fault (Err fault) = Err (fault_line fault)

-- the configuration of what is given, or the line that says why there is none
abbrev pub config_or_line : Option (List ℕ) → Result Config (List ℕ)
config_or_line None = Err unread_line
config_or_line (Some bytes) = config_or_fault (config_in bytes)

-- the line is written last with status 3, unless there is no memory for it
abbrev pub Declines : List ℕ → ℕ → Option (List ℕ) → Option (List ℕ) → Type 0 → Type 0
Declines line status told_old told_new write_failed =
    ((status ≡ 3) × WritesLast line told_old told_new write_failed) ⊎ ((status ≡ 7) × Appends told_old told_new [])
