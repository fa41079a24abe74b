use Rattle.std.proofs.Common.{◌∙◌, append_assoc}
use Rattle.ch_batch.proofs.events.of_member.Goals as goal

pub returns : goal.returns
returns c =
    c.in_ok-text.ensures.ok
    ∙ simp (c.as_str-channel.ensures.value, c.in_ok-channel.ensures, c.as_str.ensures.same, c.as_str-user_id.ensures.value, c.in_ok-user_id.ensures, c.as_str-2.ensures.same, append_assoc)
