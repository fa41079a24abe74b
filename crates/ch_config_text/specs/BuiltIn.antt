-- The text of the configuration that serves where none is given.
use Rattle.std.specs.Prelude.{◌≡◌, ℕ, List, codes, Ok}
use Rattle.ch_config.specs.Config.{built_in}
use Rattle.ch_config_text.specs.Config.{config_in}

-- one shard of each kind; what it doesn't name has its default
abbrev pub built_in_text : List ℕ
built_in_text = codes "{\"app_id\":\"1\",\"key\":\"k\",\"secret\":\"s\",\"chan_shards\":1,\"user_shards\":1}"

-- it spells the built-in configuration
abbrev pub SpellsBuiltIn : Type 0
SpellsBuiltIn = config_in built_in_text ≡ Ok built_in
