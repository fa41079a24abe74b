-- What moves over a wire, by other names of the same lists.
use Rattle.std.proofs.Common.{◌≡◌, ℕ, List, subst}
use Rattle.ch_net.specs.Wires.{WireTold, WireMoves}
use Rattle.ch_net.specs.declared.wire.Message.{Message}

pub moves_as : (a b : WireTold) (ms ns : List Message) (ts us : List (List ℕ)) (ks ls : List ℕ) → ms ≡ ns → ts ≡ us → ks ≡ ls
    → WireMoves a b ms ts ks → WireMoves a b ns us ls
moves_as a b ms ns ts us ks ls p q r m =
    subst (λ x. WireMoves a b x us ls) p (subst (λ x. WireMoves a b ms x ls) q (subst (λ x. WireMoves a b ms ts x) r m))
