use Rattle.std.proofs.Common.{◌≡◌, ℕ, ◌<◌, length, bit_xor, get_or}
use Rattle.ch_sig.specs.declared.hmac.TheConstants.{BLOCK}
use Rattle.ch_sig.proofs.hmac.padded.Given as goal

abbrev pub invariant-bytes : goal.invariant-bytes
invariant-bytes l = (length l.out ≡ BLOCK) × ((k : ℕ) → k < l.i → get_or l.out k 0 ≡ bit_xor (get_or l.block k 0) l.pad)
