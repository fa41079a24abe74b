use Rattle.std.proofs.Common.{◌∙◌, append_assoc}
use Rattle.ch_api.proofs.reply_text.reply_bytes.Goals as goal

pub returns : goal.returns
returns c =
    c.from_vec.ensures
    ∙ c.in_ok-extend_from_slice.ensures.items
    ∙ simp (c.into_bytes-bytes.ensures.value, c.in_ok-head.ensures.ok, c.reason_of-reason.ensures, c.len-count.ensures, c.as_slice.ensures, append_assoc)
