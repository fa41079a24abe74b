use Rattle.std.proofs.Common.{◌∙◌, append_assoc}
use Rattle.ch_script.proofs.signing_in.authorized.Goals as goal

pub returns : goal.returns
returns c =
    c.in_ok-text.ensures.ok
    ∙ simp (c.as_str-auth.ensures.value, c.in_ok-auth.ensures, c.as_str-user_data.ensures.value, c.in_ok-user_data.ensures, append_assoc)
