use Rattle.ch_print.proofs.printing.watch.Goals as goal

pub returns : goal.returns
returns c = simp (c.as_str.ensures.value, c.in_ok-body.ensures) at c.connection_event.ensures
