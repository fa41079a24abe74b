use Rattle.std.proofs.Common.{◌∙◌, append_assoc}
use Rattle.ch_print.proofs.presence.roster.Goals as goal

pub returns : goal.returns
returns c =
    c.in_ok-text.ensures.ok
    ∙ simp (c.as_str-ids.ensures.value, c.in_ok-ids.ensures, c.as_str-infos.ensures.value, c.in_ok-infos.ensures, append_assoc)
