use Rattle.std.proofs.Common.{◌<◌, bit_xor, arith, ◌∙◌, sym}
use Rattle.std.proofs.lemmas.List.{ext_get_or, get_or-map, length-map}
use Rattle.ch_sig.specs.declared.hmac.TheConstants.{BLOCK}
use Rattle.ch_sig.proofs.hmac.padded.Goals as goal

pub returns : goal.returns
returns c =
    let filled = c.bytes.invariant in
    ext_get_or 0 _ _ (filled.0 ∙ sym (length-map _ _ ∙ c.told-block))
    (λ i within.
    let in_block : i < BLOCK = rw filled.0 at within in
    let passed : i < c.bytes.i = omega (arith, in_block, c.bytes-test.false) in
    filled.1 i passed ∙ sym (get_or-map (λ byte. bit_xor byte c.args.pad) c.args.block.now i 0 0 (rw c.told-block in_block)))
