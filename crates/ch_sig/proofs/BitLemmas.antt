-- when `or` and `xor` of two numbers are 0
use Rattle.std.proofs.Common.{◌≡◌, ◌↔◌, ℕ, bit_or, bit_xor, arith, refl}
use Rattle.std.proofs.lemmas.Nat.{le_or_l, le_or_r, and_le_l, and_le_r}
use Rattle.std.specs.Int.Bits.{xor_add_and, xor_self}

pub or-zero : (a b : ℕ) → (bit_or a b ≡ 0) ↔ ((a ≡ 0) × (b ≡ 0))
or-zero a b =
    (λ zero. (omega (arith, zero, le_or_l a b), omega (arith, zero, le_or_r a b)), λ both. rw (both.0, both.1) refl)

pub xor-zero : (a b : ℕ) → (bit_xor a b ≡ 0) ↔ (a ≡ b)
xor-zero a b =
    (λ zero. omega (arith, zero, xor_add_and a b, and_le_l a b, and_le_r a b), λ same. rw same (xor_self b))
