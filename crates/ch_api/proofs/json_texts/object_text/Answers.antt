use Rattle.std.proofs.Common.{◌∙◌, append_assoc}
use Rattle.std.specs.Prelude.{string_bytes}
use Rattle.ch_api.proofs.JoinedTexts.{join_by-with_byte}
use Rattle.ch_api.proofs.json_texts.object_text.Goals as goal

pub returns : goal.returns
returns c =
    c.in_ok-text.ensures.ok
    ∙ simp (c.as_str-members.ensures.value, c.in_ok-members.ensures.ok, join_by-with_byte string_bytes c.args.members.now, append_assoc)
