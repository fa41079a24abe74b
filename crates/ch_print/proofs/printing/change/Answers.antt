use Rattle.std.proofs.Common.{◌∙◌, append_assoc}
use Rattle.ch_print.proofs.printing.change.Goals as goal

pub returns : goal.returns
returns c =
    c.in_ok-text.ensures.ok
    ∙ simp (c.as_str-name.ensures.value, c.in_ok-name.ensures, c.presence_word.ensures, c.as_str-user_id.ensures.value, c.in_ok-user_id.ensures, append_assoc)
