use Rattle.std.proofs.Common.{◌≡◌, map, take}
use Rattle.std.specs.Prelude.{string_bytes}
use Rattle.ch_webhooks.specs.Events.{event_text}
use Rattle.ch_batch.proofs.bodies.event_texts.Given as goal

abbrev pub invariant-loop-hook : goal.invariant-loop-hook
invariant-loop-hook l = map string_bytes l.texts.items ≡ map (event_text l.start) (take l.hook-index l.events)
