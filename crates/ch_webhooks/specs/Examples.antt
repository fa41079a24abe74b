-- Worked examples of batches. Each value is what the definitions compute.
use Rattle.std.specs.Prelude.{◌≡◌, ℕ, List, [], ◌∷◌, length, map, replicate, codes, Some, None}
use Rattle.ch_base.specs.declared.webhook.Hook.TheVariants.{Occupied, Vacated, Added, Client}
use Rattle.ch_webhooks.specs.Batches.{contents}
use Rattle.ch_webhooks.specs.Events.{body_text, event_text}

abbrev pub a : List ℕ
a = codes "a"

-- ---- cuts

-- 51 events are a batch of 50 and one of 1, with the numbers from the next one on
pub record FiftyOneEvents : Type 0 where
  pub sizes : map (λ c. length c.events) (contents 1000 7 (replicate 51 (Occupied a))) ≡ 50 ∷ 1 ∷ []
  pub numbers : map (λ c. c.number) (contents 1000 7 (replicate 51 (Occupied a))) ≡ 7 ∷ 8 ∷ []
  pub fifty : length (contents 1000 7 (replicate 50 (Occupied a))) ≡ 1
  pub none : contents 1000 7 [] ≡ []

-- ---- bodies

-- a channel that is occupied and vacated; a client event with a number as its data, and one with a string
pub record Bodies : Type 0 where
  pub existence : body_text 1 5 (Occupied a ∷ Vacated a ∷ [])
      ≡ codes "{\"time_ms\":5,\"events\":[{\"name\":\"channel_occupied\",\"channel\":\"a\"},{\"name\":\"channel_vacated\",\"channel\":\"a\"}]}"
  pub member : event_text 1 (Added (codes "presence-r") (codes "u")) ≡ codes "{\"name\":\"member_added\",\"channel\":\"presence-r\",\"user_id\":\"u\"}"
  pub number : event_text 1 (Client (codes "private-p") (codes "client-m") (codes "{\"x\":1}") 2 None)
      ≡ codes "{\"name\":\"client_event\",\"channel\":\"private-p\",\"event\":\"client-m\",\"data\":\"{\\\"x\\\":1}\",\"socket_id\":\"1.2\"}"
  pub string : event_text 1 (Client (codes "presence-r") (codes "client-m") (codes "\"hi\"") 2 (Some (codes "u")))
      ≡ codes "{\"name\":\"client_event\",\"channel\":\"presence-r\",\"event\":\"client-m\",\"data\":\"hi\",\"socket_id\":\"1.2\",\"user_id\":\"u\"}"
