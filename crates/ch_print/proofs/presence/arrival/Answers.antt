use Rattle.std.proofs.Common.{◌∙◌, append_assoc}
use Rattle.ch_print.proofs.presence.arrival.Goals as goal

pub returns : goal.returns
returns c =
    c.in_ok-text.ensures.ok
    ∙ simp (c.as_str-user_id.ensures.value, c.in_ok-user_id.ensures, c.as_str.ensures.same, c.as_str-info.ensures.same, append_assoc)
