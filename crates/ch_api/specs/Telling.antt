-- How a reply tells the counts of events that were triggered.
use Rattle.std.specs.Prelude.{ℕ, List}
use Rattle.ch_api.specs.declared.events.Telling.{Telling}
use Rattle.ch_api.specs.declared.events.Telling.TheVariants.{ByName, EachEvent}
use Rattle.ch_requests.specs.declared.plan.Counted.{Counted}
use Rattle.ch_requests.specs.declared.plan.ReplyForm.{ReplyForm}
use Rattle.ch_requests.specs.declared.plan.ReplyForm.TheVariants.{Triggered, Batch}
use Rattle.ch_requests.specs.declared.trigger.Trigger.{Trigger}
use Rattle.ch_requests.specs.Plans.{wanted_of}

-- a channel of the event, with what is told of it
abbrev pub counted_in : Trigger → List ℕ → Counted
counted_in t channel = record { channel = channel; wanted = wanted_of t.info channel }

-- the form that tells them
abbrev pub form_by : Telling → List Counted → ReplyForm
form_by ByName counted = Triggered counted
form_by EachEvent counted = Batch counted
