use Rattle.std.proofs.Common.{◌∙◌, append_assoc}
use Rattle.ch_print.proofs.events.member_event.Goals as goal

pub returns : goal.returns
returns c =
    c.in_ok-text.ensures.ok
    ∙ simp (c.as_str-event.ensures.value, c.in_ok-event.ensures, c.as_str-channel.ensures.value, c.in_ok-channel.ensures, c.as_str-user_id.ensures.value, c.in_ok-user_id.ensures, append_assoc)
