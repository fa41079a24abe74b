use Rattle.std.proofs.Common.{◌≡◌, ◌∷◌, [], length, eqb-true, eq-eqb}
use Rattle.ch_sig.proofs.AuthorizationLemmas.{authorization_from_parts, Parts, parts_of_authorization}
use Rattle.ch_sig.proofs.BitLemmas.{or-zero}
use Rattle.ch_sig.proofs.authorization.matches.Goals as goal

pub returns : goal.returns
returns c = (
  λ zero.
      let all_zero = (or-zero _ _).0 (eqb-true _ _ zero) in
      let firsts_zero = (or-zero _ _).0 all_zero.0 in
      let same_key = c.difference.ensures.0 firsts_zero.0 in
      let same_colon = c.difference-2.ensures.0 firsts_zero.1 in
      let same_signature = c.difference-3.ensures.0 all_zero.1 in
      authorization_from_parts c.args.given.now c.args.key.now c.args.sig.now (length c.args.key.now) (cc) (cc) (cc),
  λ given_is.
      let parts : Parts c.args.given.now c.args.key.now c.args.sig.now = rw given_is (parts_of_authorization _ _) in
      let same_key : c.split_at.result.0.now ≡ c.as_bytes-key.result.now = cc in
      let same_colon : c.split_at-2.result.0.now ≡ 58 ∷ [] = cc in
      let same_signature : c.split_at-2.result.1.now ≡ c.args.sig.now = cc in
      let firsts_zero = (or-zero _ _).1 (c.difference.ensures.1 same_key, c.difference-2.ensures.1 same_colon) in
      eq-eqb _ _ ((or-zero _ _).1 (firsts_zero, c.difference-3.ensures.1 same_signature)),
)
