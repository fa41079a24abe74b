use Rattle.std.proofs.Common.{◌++◌, ◌∷◌, [], ◌∙◌, sym, ap, take, take_all, append-nil, append_assoc, arith}
use Rattle.ch_script.proofs.ShardTails.{letters, letters-take_more}
use Rattle.ch_script.proofs.tail_line.put_letters.Goals as goal

pub loop-i-init : goal.loop-i-init
loop-i-init c = sym (append-nil c.args.out.now.items)

pub loop-i-preserved : goal.loop-i-preserved
loop-i-preserved c =
    let out = c.args.out.now.items in
    let tail = c.args.shard.now.tail in
    let b = c.tail_at-brief.result in
    c.in_ok-push.ensures.items
    ∙ ap (λ t. t ++ b.letter ∷ []) c.loop-i.invariant
    ∙ append_assoc out (letters (take c.loop-i.i tail)) (b.letter ∷ [])
    ∙ ap (λ t. out ++ t) (sym (letters-take_more tail c.loop-i.i b c.tail_at-brief.ensures.entry))

pub returns : goal.returns
returns c =
    c.loop-i.invariant
    ∙ ap (λ t. c.args.out.now.items ++ letters t) (take_all c.loop-i.i c.args.shard.now.tail (omega (arith, c.tail_len-i-end.ensures.len)))
