use Rattle.std.proofs.Common.{◌∙◌, append_assoc}
use Rattle.ch_batch.proofs.events.of_client.Goals as goal

pub returns : goal.returns
returns c =
    c.in_ok-text.ensures.ok
    ∙ simp (
      c.as_str-channel.ensures.value,
      c.in_ok-channel.ensures,
      c.as_str.ensures.same,
      c.as_str-event.ensures.value,
      c.in_ok-event.ensures,
      c.as_str-2.ensures.same,
      c.as_str-data.ensures.value,
      c.in_ok-data.ensures,
      append_assoc,
    )
