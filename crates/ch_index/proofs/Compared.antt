-- What comparisons of numbers and of texts say, and what they test.
use Rattle.std.proofs.Common.{◌≡◌, ℕ, ◌<◌, true, false, ◌==◌, List, Less, Greater, bytes_eq, refl, ap, sym, ◌∙◌, arith}
use Rattle.std.proofs.lemmas.Bool.Decides.{nat_tests}
use Rattle.std.specs.Ordering.{is_eq, nat_cmp}
use Rattle.ch_history.proofs.Texts.{same_text, other_text, text_itself}

pub greater : (n k : ℕ) → k < n → nat_cmp n k ≡ Greater
greater n k below = grind (arith, nat_tests)

pub less_number : (a b : ℕ) → nat_cmp a b ≡ Less → a < b
less_number a b is = grind (arith, nat_tests)

pub is_eq-nat_cmp : (a b : ℕ) → is_eq (nat_cmp a b) ≡ (a == b)
is_eq-nat_cmp a b = grind (arith, nat_tests)

pub same_number : (a b : ℕ) → (a == b) ≡ true → a ≡ b
same_number a b is = grind (arith, nat_tests)

pub number_itself : (a : ℕ) → (a == a) ≡ true
number_itself a = grind (arith, nat_tests)

pub not_at : (n k : ℕ) → k < n → is_eq (nat_cmp n k) ≡ false
not_at n k below = ap is_eq (greater n k below)

pub number_swap : (a b : ℕ) → (a == b) ≡ (b == a)
number_swap a b = grind (arith, nat_tests)

pub text_swap : (x c : List ℕ) → bytes_eq x c ≡ bytes_eq c x
text_swap x c =
    (elim (bytes_eq x c) as (λ b. bytes_eq x c ≡ b → b ≡ bytes_eq c x) [
      | true ↦ (λ is. sym (ap (bytes_eq c) (same_text x c is) ∙ text_itself c))
      | false ↦ (λ is. sym (other_text x c is))
    ]) refl
