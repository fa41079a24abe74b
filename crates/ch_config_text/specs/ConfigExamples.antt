-- Texts with the configurations that they spell, or with what is wrong with them.
use Rattle.std.specs.Prelude.{◌≡◌, ℕ, List, [], ◌∷◌, ◌++◌, codes, Some, None, Result, Ok, Err, false}
use Rattle.ch_config.specs.Config.{built_in}
use Rattle.ch_config.specs.declared.config.Config.{Config}
use Rattle.ch_config_text.specs.Addresses.{built_in_address, address_of}
use Rattle.ch_config_text.specs.Config.{config_in}
use Rattle.ch_config_text.specs.Targets.{target_of}
use Rattle.ch_config_text.specs.declared.fault.ConfigFault.{ConfigFault}
use Rattle.ch_config_text.specs.declared.fault.ConfigFault.TheVariants.{NotJson, Missing, Bad}
use Rattle.ch_config_text.specs.declared.field.Field.TheVariants.{AppId, Key, Secret, ClientEvents, ChanShards, UserShards, Workers, Listen, Webhook}

-- the text of an object with the fields that have to be there, and with this member
abbrev pub with_member : List ℕ → Result Config ConfigFault
with_member member = config_in (codes "{\"app_id\":\"1\",\"key\":\"k\",\"secret\":\"s\"," ++ member ++ codes "}")

-- what stands where nothing else is said
abbrev pub defaults : Config
defaults = record {
  app_id = codes "1";
  key = codes "k";
  secret = codes "s";
  client_events = built_in.client_events;
  chan_shards = 4;
  user_shards = 4;
  workers = 2;
  listen = built_in_address;
  webhook = None;
}

pub record WholeTexts : Type 0 where
  pub built_in : config_in (codes "{\"app_id\":\"1\",\"key\":\"k\",\"secret\":\"s\",\"chan_shards\":1,\"user_shards\":1}") ≡ Ok built_in
  pub any_order : config_in (codes "{\"secret\":\"s\",\"key\":\"k\",\"app_id\":\"1\"}") ≡ Ok defaults
  pub unknown_member : with_member (codes "\"more\":[null]") ≡ Ok defaults
  pub all_fields : with_member (codes "\"client_events\":false,\"chan_shards\":64,\"user_shards\":3,\"workers\":63,\"listen\":\"10.0.255.1:80\",\"webhook\":\"http://h:8080/in\"")
      ≡ Ok (record {
        app_id = codes "1";
        key = codes "k";
        secret = codes "s";
        client_events = false;
        chan_shards = 64;
        user_shards = 3;
        workers = 63;
        listen = record { host = 10 ∷ 0 ∷ 255 ∷ 1 ∷ []; port = 80 };
        webhook = Some (record { host = codes "h"; port = 8080; path = codes "/in" });
      })

pub record Faults : Type 0 where
  pub nothing : config_in (codes "{}") ≡ Err (Missing AppId)
  pub empty : config_in [] ≡ Err NotJson
  pub array : config_in (codes "[]") ≡ Err NotJson
  pub two_texts : config_in (codes "{} {}") ≡ Err NotJson
  pub no_utf8 : config_in (255 ∷ []) ≡ Err NotJson
  pub first_named : config_in (codes "{\"app_id\":\"1\",\"listen\":\"\"}") ≡ Err (Missing Key)
  pub empty_word : config_in (codes "{\"app_id\":\"\"}") ≡ Err (Bad AppId)
  pub other_letter : config_in (codes "{\"app_id\":\"1\",\"key\":\"k-\"}") ≡ Err (Bad Key)
  pub last_counts : config_in (codes "{\"app_id\":\"1\",\"app_id\":\"-\"}") ≡ Err (Bad AppId)
  pub empty_secret : config_in (codes "{\"app_id\":\"1\",\"key\":\"k\",\"secret\":\"\"}") ≡ Err (Bad Secret)
  pub null : with_member (codes "\"client_events\":null") ≡ Err (Bad ClientEvents)
  pub no_shard : with_member (codes "\"chan_shards\":0") ≡ Err (Bad ChanShards)
  pub many_shards : with_member (codes "\"user_shards\":65") ≡ Err (Bad UserShards)
  pub many_workers : with_member (codes "\"workers\":64") ≡ Err (Bad Workers)
  pub text_for_a_number : with_member (codes "\"workers\":\"2\"") ≡ Err (Bad Workers)
  pub sign : with_member (codes "\"workers\":-1") ≡ Err (Bad Workers)
  pub no_port : with_member (codes "\"listen\":\"127.0.0.1\"") ≡ Err (Bad Listen)
  pub other_scheme : with_member (codes "\"webhook\":\"https://h:80/\"") ≡ Err (Bad Webhook)

pub record Places : Type 0 where
  pub address : address_of (codes "127.0.0.1:6001") ≡ Some built_in_address
  pub last_port : address_of (codes "0.0.0.0:65535") ≡ Some (record { host = 0 ∷ 0 ∷ 0 ∷ 0 ∷ []; port = 65535 })
  pub port_too_large : address_of (codes "0.0.0.0:65536") ≡ None
  pub port_zero : address_of (codes "0.0.0.0:0") ≡ None
  pub octet_too_large : address_of (codes "256.0.0.1:80") ≡ None
  pub leading_zero : address_of (codes "127.0.0.01:80") ≡ None
  pub three_octets : address_of (codes "127.0.1:80") ≡ None
  pub name : address_of (codes "localhost:80") ≡ None
  pub target : target_of (codes "http://localhost:8080/hooks") ≡ Some (record { host = codes "localhost"; port = 8080; path = codes "/hooks" })
  pub no_port : target_of (codes "http://localhost/hooks") ≡ None
  pub no_path : target_of (codes "http://localhost:8080") ≡ None
  pub no_host : target_of (codes "http://:8080/hooks") ≡ None
  pub blank : target_of (codes "http://localhost:8080/a b") ≡ None
