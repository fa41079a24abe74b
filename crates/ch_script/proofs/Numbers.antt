-- Numbers as they are written.
use Rattle.std.proofs.Common.{◌≡◌, ℕ, Bool, true, false, ◌&&◌, nat_le, ◌≤◌, sym, refl, List, cond, bytes_eq}
use Rattle.std.specs.Prelude.{Some, None}
use Rattle.std.specs.Fmt.{decimal}
use Rattle.std.specs.Str.Parse.{digits_value}
use Rattle.std.proofs.lemmas.Bool.{leb-true}
use Rattle.std.proofs.lemmas.Slice.Eq.{bytes_eq-Decides}
use Rattle.ch_transcript.specs.Commands.{number_in}
use Rattle.ch_base.specs.declared.limits.TheConstants.{LATEST_MOMENT}

and_left : (a b : Bool) → (a && b) ≡ true → a ≡ true
and_left true b h = refl
and_left false b h = h

and_right : (a b : Bool) → (a && b) ≡ true → b ≡ true
and_right true b h = h
and_right false b h = absurd (cc)

-- texts that pass the test are equal
pub texts_equal : (xs ys : List ℕ) → bytes_eq xs ys ≡ true → xs ≡ ys
texts_equal xs ys is = (bytes_eq-Decides xs ys).0 is

pub texts_differ : (xs ys : List ℕ) → bytes_eq xs ys ≡ false → xs ≡ ys → ⊥
texts_differ xs ys is e = absurd (let h : bytes_eq xs ys ≡ true = (bytes_eq-Decides xs ys).1 e in cc)

-- what is the text of no number is none
pub number_in-none : (bs : List ℕ) → ((n : ℕ) → n ≤ LATEST_MOMENT → bs ≡ decimal n → ⊥) → None ≡ number_in bs
number_in-none bs h =
    let v = digits_value 10 bs in
    let t = nat_le v LATEST_MOMENT && bytes_eq (decimal v) bs in
    (elim t as (λ (b : Bool). t ≡ b → None ≡ cond b (Some v) None) [
      | true ↦ λ is. absurd (h v (leb-true v LATEST_MOMENT (and_left (nat_le v LATEST_MOMENT) (bytes_eq (decimal v) bs) is)) (sym (texts_equal (decimal v) bs (and_right (nat_le v LATEST_MOMENT) (bytes_eq (decimal v) bs) is))))
      | false ↦ λ is. refl
    ]) refl
