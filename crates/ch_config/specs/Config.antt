-- The bounds of a configuration's numbers, and the configuration that is built in.
use Rattle.std.specs.Prelude.{ℕ, ◌≤◌, [], ◌∷◌, true, codes, None}
use Rattle.ch_config.specs.declared.limits.TheConstants.{MAX_SHARDS, MAX_WORKERS}
use Rattle.ch_config.specs.declared.config.Config.{Config}

-- a number from 1 to most
abbrev pub IsCount : ℕ → ℕ → Type 0
IsCount most n = (1 ≤ n) × (n ≤ most)

-- the numbers are within their bounds
pub record IsConfig (config : Config) : Type 0 where
  pub chan_shards : IsCount MAX_SHARDS config.chan_shards
  pub user_shards : IsCount MAX_SHARDS config.user_shards
  pub workers : IsCount MAX_WORKERS config.workers

-- the configuration that serves where none is given
abbrev pub built_in : Config
built_in = record {
  app_id = codes "1";
  key = codes "k";
  secret = codes "s";
  client_events = true;
  chan_shards = 1;
  user_shards = 1;
  workers = 2;
  listen = record { host = 127 ∷ 0 ∷ 0 ∷ 1 ∷ []; port = 6001 };
  webhook = None;
}
