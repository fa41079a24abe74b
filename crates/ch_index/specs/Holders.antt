-- What a frame needs to know of a row.
use Rattle.std.specs.Prelude.{ℕ}
use Rattle.ch_index.specs.declared.holder.Holder.{Holder}

-- the socket and the owner of a row
abbrev pub holder_of : {R : Type 0} → (R → ℕ) → (R → ℕ) → R → Holder
holder_of socket owner r = record { socket = socket r; owner = owner r }
