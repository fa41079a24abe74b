-- What the value of a field says.
use Rattle.std.specs.Prelude.{ℕ, Bool, ◌&&◌, nat_le, List, Option, None, Some, option_map, option_and_then, if◌then◌else◌}
use Rattle.serde_json.specs.Data.{Data}
use Rattle.serde_json.specs.Find.{as_str, as_number, as_u64}
use Rattle.ch_config.specs.declared.address.Address.{Address}
use Rattle.ch_config.specs.declared.address.Target.{Target}
use Rattle.ch_config_text.specs.Words.{is_word, is_secret}
use Rattle.ch_config_text.specs.Addresses.{address_of}
use Rattle.ch_config_text.specs.Targets.{target_of}

-- the value, where it passes the test
abbrev pub passed : {A : Type 0} → (A → Bool) → A → Option A
passed test x = if test x then Some x else None

abbrev pub word_in : Data → Option (List ℕ)
word_in value = option_and_then (passed is_word) (as_str value)

abbrev pub secret_in : Data → Option (List ℕ)
secret_in value = option_and_then (passed is_secret) (as_str value)

-- a number from 1 to most; one with a fraction, an exponent or a sign is none
abbrev pub count_in : ℕ → Data → Option ℕ
count_in most value =
    option_and_then (passed (λ n. nat_le 1 n && nat_le n most)) (option_and_then as_u64 (as_number value))

abbrev pub address_in : Data → Option Address
address_in value = option_and_then address_of (as_str value)

-- a target is given where there is a value
abbrev pub webhook_in : Data → Option (Option Target)
webhook_in value = option_map Some (option_and_then target_of (as_str value))
