-- the names of the fields in the text
use Rattle.std.specs.Prelude.{ℕ, List, codes}
use Rattle.ch_config_text.specs.declared.field.Field.{Field}
use Rattle.ch_config_text.specs.declared.field.Field.TheVariants.{AppId, Key, Secret, ClientEvents, ChanShards, UserShards, Workers, Listen, Webhook}

abbrev pub field_name : Field → List ℕ
field_name AppId = codes "app_id"
field_name Key = codes "key"
field_name Secret = codes "secret"
field_name ClientEvents = codes "client_events"
field_name ChanShards = codes "chan_shards"
field_name UserShards = codes "user_shards"
field_name Workers = codes "workers"
field_name Listen = codes "listen"
field_name Webhook = codes "webhook"
