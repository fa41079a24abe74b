-- Known lists that calls take from, or add to, one after another.
use Rattle.std.proofs.Common.{◌∙◌, ap, sym, refl, List, [], ◌++◌, append_assoc, append-nil}
use Rattle.std.specs.Prelude.{Option, Some, None}
use Rattle.ch_io.specs.Known.{Takes, Adds}

module _ {A : Type 0} where
  pub Takes-then : (a b c : Option (List A)) (xs ys : List A) → Takes a b xs → Takes b c ys → Takes a c (xs ++ ys)
  Takes-then None b c xs ys p q = tt
  Takes-then (Some s) None c xs ys p q = absurd p
  Takes-then (Some s) (Some t) None xs ys p q = absurd q
  Takes-then (Some s) (Some t) (Some u) xs ys p q = p ∙ ap (λ z. xs ++ z) q ∙ sym (append_assoc xs ys u)

  pub Adds-then : (a b c : Option (List A)) (xs ys : List A) → Adds a b xs → Adds b c ys → Adds a c (xs ++ ys)
  Adds-then None b c xs ys p q = tt
  Adds-then (Some s) None c xs ys p q = absurd p
  Adds-then (Some s) (Some t) None xs ys p q = absurd q
  Adds-then (Some s) (Some t) (Some u) xs ys p q = q ∙ ap (λ z. z ++ ys) p ∙ append_assoc s xs ys

  pub Takes-none : (a : Option (List A)) → Takes a a []
  Takes-none None = tt
  Takes-none (Some s) = refl

  pub Adds-none : (a : Option (List A)) → Adds a a []
  Adds-none None = tt
  Adds-none (Some s) = sym (append-nil s)
