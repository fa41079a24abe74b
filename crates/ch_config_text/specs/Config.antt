-- The configuration that a text spells: the fields, or the first fault in their order.
use Rattle.std.specs.Prelude.{ℕ, List, true, Option, None, Some, is_some, Result, Ok, Err, if◌then◌else◌}
use Rattle.std.specs.Str.{is_utf8}
use Rattle.serde_json.specs.Data.{Data}
use Rattle.serde_json.specs.Find.{as_object, as_bool}
use Rattle.serde_json.specs.Read.{read}
use Rattle.ch_config.specs.declared.limits.TheConstants.{DEFAULT_SHARDS, MAX_SHARDS, DEFAULT_WORKERS, MAX_WORKERS}
use Rattle.ch_config.specs.declared.config.Config.{Config}
use Rattle.ch_config_text.specs.Judging.{required, defaulted, ◌>>=◌}
use Rattle.ch_config_text.specs.Values.{word_in, secret_in, count_in, address_in, webhook_in}
use Rattle.ch_config_text.specs.Addresses.{built_in_address}
use Rattle.ch_config_text.specs.declared.field.Field.TheVariants.{AppId, Key, Secret, ClientEvents, ChanShards, UserShards, Workers, Listen, Webhook}
use Rattle.ch_config_text.specs.declared.fault.ConfigFault.{ConfigFault}
use Rattle.ch_config_text.specs.declared.fault.ConfigFault.TheVariants.{NotJson}

abbrev pub fields_of : Data → Result Config ConfigFault
fields_of given = do
  app_id ← required AppId word_in given
  key ← required Key word_in given
  secret ← required Secret secret_in given
  client_events ← defaulted ClientEvents true as_bool given
  chan_shards ← defaulted ChanShards DEFAULT_SHARDS (count_in MAX_SHARDS) given
  user_shards ← defaulted UserShards DEFAULT_SHARDS (count_in MAX_SHARDS) given
  workers ← defaulted Workers DEFAULT_WORKERS (count_in MAX_WORKERS) given
  listen ← defaulted Listen built_in_address address_in given
  webhook ← defaulted Webhook None webhook_in given
  Ok (record {
    app_id = app_id;
    key = key;
    secret = secret;
    client_events = client_events;
    chan_shards = chan_shards;
    user_shards = user_shards;
    workers = workers;
    listen = listen;
    webhook = webhook;
  })

-- the configuration of a JSON value
abbrev pub config_of : Data → Result Config ConfigFault
config_of value = if is_some (as_object value) then fields_of value else Err NotJson

-- the same of what was read
abbrev pub config_from : Option Data → Result Config ConfigFault
config_from None = Err NotJson
config_from (Some value) = config_of value

-- the configuration of the bytes of a text
abbrev pub config_in : List ℕ → Result Config ConfigFault
config_in bytes = if is_utf8 bytes then config_from (read bytes) else Err NotJson
