use Rattle.std.proofs.Common.{append_assoc}
use Rattle.ch_print.proofs.printing.error.Goals as goal

pub returns : goal.returns
returns c =
    simp append_assoc
    (simp (c.as_str.ensures.value, c.in_ok-body.ensures.ok, c.as_str-message.ensures.value, c.in_ok-message.ensures, c.error_text.ensures) at c.connection_event.ensures)
