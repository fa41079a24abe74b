-- What contracts see of a reader.
use Rattle.std.specs.Prelude.{ℕ, List}

-- all bytes that came, and the moment at which the reader was made
pub record Fed : Type 0 where
  pub bytes : List ℕ
  pub since : ℕ
