-- What is known of the events that a body triggers: they can be published as they are.
use Rattle.std.specs.Prelude.{List, All, IsTrue}
use Rattle.ch_base.specs.JsonText.{IsJsonString}
use Rattle.ch_history.specs.Limits.{is_event_name}
use Rattle.ch_history.specs.UserChannels.{is_subscribable}
use Rattle.ch_requests.specs.declared.trigger.Trigger.{Trigger}

-- the names are good, and the body is a JSON string
pub record IsTriggerFit (t : Trigger) : Type 0 where
  pub event : IsTrue (is_event_name t.event)
  pub body : IsJsonString t.body
  pub channels : All (λ channel. IsTrue (is_subscribable channel)) t.channels

abbrev pub AreFit : List Trigger → Type 0
AreFit ts = All IsTriggerFit ts
