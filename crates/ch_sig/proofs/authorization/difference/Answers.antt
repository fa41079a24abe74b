use Rattle.std.proofs.Common.{ap, arith, get_or, below_more}
use Rattle.std.proofs.lemmas.List.{ext_get_or}
use Rattle.ch_sig.proofs.BitLemmas.{or-zero, xor-zero}
use Rattle.ch_sig.proofs.authorization.difference.Goals as goal

pub bytes-preserved : goal.bytes-preserved
bytes-preserved c =
    let so_far = c.bytes.invariant in (
      λ zero.
          let parts = (or-zero _ _).0 zero in
          below_more _ _ (so_far.0 parts.0) ((xor-zero _ _).0 parts.1),
      λ same. (or-zero _ _).1 (so_far.1 (λ k before. same k (omega arith)), (xor-zero _ _).1 (same c.bytes.i (omega arith))),
    )

pub returns : goal.returns
returns c = (
  λ zero. ext_get_or 0 _ _ c.requires (λ k within. c.bytes.invariant.0 zero k (omega arith)),
  λ same. c.bytes.invariant.1 (λ k _. ap (λ bytes. get_or bytes k 0) same),
)
