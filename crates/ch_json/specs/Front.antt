-- The fronts of JSON texts, and the place of a fault.
use Rattle.std.specs.Prelude.{◌≡◌, ◌⊎◌, ℕ, ◌+◌, ◌<◌, ◌≤◌, List, ◌++◌, length, take, slice_index}
use Rattle.ch_base.specs.JsonTree.{Tree}
use Rattle.ch_base.specs.JsonText.{SpellsWithin}
use Rattle.ch_base.specs.declared.limits.TheConstants.{MAX_DEPTH}

-- the bytes begin a JSON text with at most `limit` open brackets
abbrev pub IsFront : ℕ → List ℕ → Type 0
IsFront limit bytes = (more : List ℕ) × (v : Tree) × SpellsWithin limit (bytes ++ more) v

-- `at` is the length of the longest prefix that begins a JSON text
pub record IsLongestFront (text : List ℕ) (at : ℕ) : Type 0 where
  pub within : at ≤ length text
  pub front : IsFront MAX_DEPTH (take at text)
  pub longest : (n : ℕ) → at < n → n ≤ length text → IsFront MAX_DEPTH (take n text) → ⊥

-- the byte at `at` opens a bracket, and is at fault only since it is one too many
pub record IsTooDeep (text : List ℕ) (at : ℕ) : Type 0 where
  pub inside : at < length text
  pub bracket : (slice_index text at ≡ 91) ⊎ (slice_index text at ≡ 123)
  pub before : IsFront MAX_DEPTH (take at text)
  pub here : IsFront MAX_DEPTH (take (at + 1) text) → ⊥
  pub deeper : IsFront (MAX_DEPTH + 1) (take (at + 1) text)

-- no tree is spelled, no bracket is one too many, and the longest front ends at `at`
pub record IsSyntaxFault (text : List ℕ) (at : ℕ) : Type 0 where
  pub none : (v : Tree) → SpellsWithin MAX_DEPTH text v → ⊥
  pub longest : IsLongestFront text at
  pub not_deep : (n : ℕ) → IsTooDeep text n → ⊥
