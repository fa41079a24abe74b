-- why a text isn't a good name, in the order in which faults are told
use Rattle.std.specs.Prelude.{ℕ, ◌==◌, nat_lt, List, length, not, Option, None, Some, option_map, if◌then◌else◌}
use Rattle.std.specs.List.{position_from}
use Rattle.std.specs.Option.{option_or}
use Rattle.ch_history.specs.declared.limits.TheConstants.{MAX_NAME}
use Rattle.ch_history.specs.ChannelName.{is_name_byte}
use Rattle.ch_names.specs.declared.fault.NameFault.{NameFault}
use Rattle.ch_names.specs.declared.fault.NameFault.TheVariants.{Empty, Long, Byte}

-- it doesn't have 1 to so many bytes
abbrev pub length_fault : ℕ → List ℕ → Option NameFault
length_fault limit text =
    if length text == 0 then Some Empty else if nat_lt limit (length text) then Some (Long (length text)) else None

-- a byte, the first that is told, is outside the alphabet
abbrev pub alphabet_fault : List ℕ → Option NameFault
alphabet_fault name = option_map Byte (position_from (λ x. not (is_name_byte x)) 0 name)

-- why it isn't the name of a channel
abbrev pub name_fault : List ℕ → Option NameFault
name_fault name = option_or (length_fault MAX_NAME name) (alphabet_fault name)
