use Rattle.std.proofs.Common.{◌++◌, ◌∙◌, ap, ap₂, codes}
use Rattle.ch_transcript.specs.Printing.{line_end}
use Rattle.ch_script.proofs.ShardTails.{letters, letters-tail_of}
use Rattle.ch_script.proofs.tail_line.put_tail.Goals as goal

pub returns-clause-ok : goal.returns-clause-ok
returns-clause-ok c = λ h stands.
    let shown = ap letters stands.tail ∙ letters-tail_of h in
    let word = c.in_ok-extend_from_slice.ensures.items ∙ ap (λ t. t ++ codes "tail ") c.new-line.ensures.items in
    let line = c.in_ok-push.ensures.items ∙ ap (λ t. t ++ line_end) (c.in_ok-put_letters.ensures ∙ ap₂ (λ t l. t ++ l) word shown) in
    c.in_ok-extend_from_slice-2.ensures.items ∙ ap (λ t. c.args.out.now.items ++ t) (c.as_slice.ensures.value ∙ line)
