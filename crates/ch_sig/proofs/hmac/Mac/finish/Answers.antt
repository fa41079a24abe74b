use Rattle.std.proofs.Common.{◌≡◌, ◌++◌, length, rules, ◌∙◌, ap, refl}
use Rattle.ch_sig.specs.Hmac.{hmac, key_block, padded}
use Rattle.hex.specs.Hex.{encode_lower}
use Rattle.sha2.specs.Sha256.{sha256}
use Rattle.sha2.proofs.Facts256.{length-sha256}
use Rattle.ch_sig.specs.declared.hmac.TheConstants.{INNER_PAD, OUTER_PAD}
use Rattle.ch_sig.proofs.hmac.Mac.finish.Goals as goal

pub returns : goal.returns
unfolding hmac
returns c = λ secret message holds.
    let inner_digest = c.finalize.ensures (padded INNER_PAD (key_block secret) ++ message) holds.0 in
    let outer_holds = c.update.ensures (padded OUTER_PAD (key_block secret)) holds.1 in
    let code : c.finalize-code.result ≡ hmac secret message =
    c.finalize-code.ensures _ outer_holds ∙ ap (λ digest. sha256 (padded OUTER_PAD (key_block secret) ++ digest)) inner_digest in
    let code_length : length c.finalize-code.result ≡ 32 = ap length code ∙ length-sha256 _ in
    let fits = c.encode_to_slice-fits.ensures.fits.1 (rw code_length refl) in
    let written : c.encode_to_slice-fits.new.output ≡ encode_lower c.finalize-code.result =
    search (rules, fits, c.encode_to_slice-fits.ensures.written) in
    written ∙ ap encode_lower code
