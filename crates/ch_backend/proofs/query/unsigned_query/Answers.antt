use Rattle.std.proofs.Common.{◌∙◌, append_assoc}
use Rattle.ch_backend.proofs.query.unsigned_query.Goals as goal

pub returns : goal.returns
returns c =
    c.in_ok-text.ensures.ok
    ∙ simp (c.as_str-before.ensures.value, c.in_ok-before.ensures, c.as_str-key.ensures.same, c.as_str-digest.ensures.value, c.in_ok-digest.ensures, append_assoc)
