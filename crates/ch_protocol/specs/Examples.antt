-- A frame of each kind with its text, as a check of the definitions' text.
use Rattle.std.specs.Prelude.{◌≡◌, [], ◌∷◌, codes, true, false, None, Some}
use Rattle.ch_base.specs.declared.channel.Member.{Member}
use Rattle.ch_base.specs.declared.frame.Frame.TheVariants.{Opened, Error, Ping, Pong, Succeeded, Present, Added, Removed, Event, Miss, SignedIn, Watch, Kill}
use Rattle.ch_base.specs.Printed.{printed}

abbrev pub u_2 : Member
u_2 = record { user_id = codes "u"; info = codes "2" }

abbrev pub v_null : Member
v_null = record { user_id = codes "v"; info = codes "null" }

-- the texts of frames of a server that started at the second 1
pub record Frames : Type 0 where
  pub opened : printed (Opened 2) 1 ≡ codes "{\"event\":\"pusher:connection_established\",\"data\":\"{\\\"socket_id\\\":\\\"1.2\\\",\\\"activity_timeout\\\":120}\"}"
  pub error : printed (Error 4313) 1 ≡ codes "{\"event\":\"pusher:error\",\"data\":{\"message\":\"already subscribed\",\"code\":4313}}"
  pub unknown_error : printed (Error 4300) 1 ≡ codes "{\"event\":\"pusher:error\",\"data\":{\"message\":\"\",\"code\":4300}}"
  pub ping : printed Ping 1 ≡ codes "{\"event\":\"pusher:ping\",\"data\":{}}"
  pub pong : printed Pong 1 ≡ codes "{\"event\":\"pusher:pong\",\"data\":{}}"
  pub succeeded : printed (Succeeded (codes "a")) 1 ≡ codes "{\"event\":\"pusher_internal:subscription_succeeded\",\"channel\":\"a\",\"data\":\"{}\"}"
  pub present : printed (Present (codes "presence-r") (u_2 ∷ v_null ∷ [])) 1 ≡ codes "{\"event\":\"pusher_internal:subscription_succeeded\",\"channel\":\"presence-r\",\"data\":\"{\\\"presence\\\":{\\\"ids\\\":[\\\"u\\\",\\\"v\\\"],\\\"hash\\\":{\\\"u\\\":2,\\\"v\\\":null},\\\"count\\\":2}}\"}"
  pub added : printed (Added (codes "presence-r") v_null) 1 ≡ codes "{\"event\":\"pusher_internal:member_added\",\"channel\":\"presence-r\",\"data\":\"{\\\"user_id\\\":\\\"v\\\",\\\"user_info\\\":null}\"}"
  pub removed : printed (Removed (codes "presence-r") (codes "u")) 1 ≡ codes "{\"event\":\"pusher_internal:member_removed\",\"channel\":\"presence-r\",\"data\":\"{\\\"user_id\\\":\\\"u\\\"}\"}"
  pub event : printed (Event (codes "a") (codes "e") (codes "\"hi\"") None) 1 ≡ codes "{\"event\":\"e\",\"channel\":\"a\",\"data\":\"hi\"}"
  pub client_event : printed (Event (codes "presence-r") (codes "client-m") (codes "null") (Some (codes "u"))) 1 ≡ codes "{\"event\":\"client-m\",\"channel\":\"presence-r\",\"data\":null,\"user_id\":\"u\"}"
  pub miss : printed (Miss (codes "cache-c")) 1 ≡ codes "{\"event\":\"pusher:cache_miss\",\"channel\":\"cache-c\"}"
  pub signed_in : printed (SignedIn (codes "{\"id\":\"w\"}")) 1 ≡ codes "{\"event\":\"pusher:signin_success\",\"data\":{\"user_data\":\"{\\\"id\\\":\\\"w\\\"}\"}}"
  pub online : printed (Watch true (codes "me")) 1 ≡ codes "{\"event\":\"pusher_internal:watchlist_events\",\"data\":{\"events\":[{\"name\":\"online\",\"user_ids\":[\"me\"]}]}}"
  pub offline : printed (Watch false (codes "w")) 1 ≡ codes "{\"event\":\"pusher_internal:watchlist_events\",\"data\":{\"events\":[{\"name\":\"offline\",\"user_ids\":[\"w\"]}]}}"
  pub kill : printed Kill 1 ≡ codes "{\"event\":\"pusher:error\",\"data\":{\"message\":\"connection is unauthorized\",\"code\":4009}}"
