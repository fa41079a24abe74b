-- Known bytes that are consumed, or appended, twice.
use Rattle.std.proofs.Common.{◌≡◌, ℕ, ◌≤◌, ◌∙◌, ap, sym, refl, List, [], ◌++◌, append_assoc, append-nil, length, take, drop, ◌+◌, ◌-◌, subst, arith}
use Rattle.std.proofs.Math.Seq.{take-add}
use Rattle.std.proofs.lemmas.Grind.{common_steps}
use Rattle.std.specs.Prelude.{Option, Some, None}
use Rattle.std.specs.Io.KnownBytes.{Consumes, Appends}

pub Appends-then : (a b c : Option (List ℕ)) (x y : List ℕ) → Appends a b x → Appends b c y → Appends a c (x ++ y)
Appends-then None b c x y p q = tt
Appends-then (Some s) None c x y p q = absurd p
Appends-then (Some s) (Some t) None x y p q = absurd q
Appends-then (Some s) (Some t) (Some u) x y p q = q ∙ ap (λ z. z ++ y) p ∙ append_assoc s x y

pub Appends-none : (a : Option (List ℕ)) → Appends a a []
Appends-none None = tt
Appends-none (Some s) = sym (append-nil s)

pub Consumes-then : (a b c : Option (List ℕ)) (x y : List ℕ) → Consumes a b x → Consumes b c y → Consumes a c (x ++ y)
Consumes-then None b c x y p q = tt
Consumes-then (Some s) None c x y p q = absurd p
Consumes-then (Some s) (Some t) None x y p q = absurd q
Consumes-then (Some s) (Some t) (Some u) x y p q = p ∙ ap (λ z. x ++ z) q ∙ sym (append_assoc x y u)

pub Consumes-none : (a : Option (List ℕ)) → Consumes a a []
Consumes-none None = tt
Consumes-none (Some s) = refl

-- the part of a slice from a place on
pub rest_of : (n : ℕ) (xs : List ℕ) → n ≤ length xs → take (length xs - n) (drop n xs) ≡ drop n xs
rest_of n xs within = Prim.grind (arith, common_steps)

pub Appends-rest : (a b c : Option (List ℕ)) (n m : ℕ) (xs : List ℕ) → n ≤ length xs → Appends a b (take n xs)
    → Appends b c (take m (take (length xs - n) (drop n xs))) → Appends a c (take (n + m) xs)
Appends-rest a b c n m xs within p q =
    let P : List ℕ → Type 0 = λ x. Appends a c x in
    let Q : List ℕ → Type 0 = λ x. Appends b c (take m x) in
    subst P (sym (take-add n m xs)) (Appends-then a b c (take n xs) (take m (drop n xs)) p (subst Q (rest_of n xs within) q))
