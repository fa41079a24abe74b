use Rattle.ch_print.proofs.printing.added.Goals as goal

pub returns : goal.returns
returns c =
    simp (c.as_str-2.ensures.value, c.in_ok-body-2.ensures, c.as_str.ensures.value, c.in_ok-body.ensures) at c.channel_event.ensures
