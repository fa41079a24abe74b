use Rattle.std.proofs.Common.{◌∙◌, ap, map}
use Rattle.std.specs.Prelude.{string_bytes, codes}
use Rattle.std.specs.List.{join_by}
use Rattle.std.proofs.lemmas.List.{take_all}
use Rattle.ch_webhooks.specs.Events.{event_text}
use Rattle.ch_batch.proofs.Joined.{join_by-pieces}
use Rattle.ch_batch.proofs.bodies.event_texts.Goals as goal

pub returns : goal.returns
returns c =
    let all = c.loop-hook.invariant ∙ ap (map (event_text c.args.start)) (take_all c.loop-hook.hook-index c.args.events.now c.loop-hook-test.false) in
    c.in_ok-text.ensures.ok
    ∙ ap (join_by string_bytes (codes ",")) c.deref.ensures.value
    ∙ join_by-pieces string_bytes (event_text c.args.start) (codes ",") c.loop-hook.texts.items c.args.events.now all
