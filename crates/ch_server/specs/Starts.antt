-- A server, by the words and the bytes of a configuration that it was started with.
use Rattle.std.specs.Prelude.{◌≡◌, ◌⊎◌, ◌↔◌, ℕ, true, false, List, [], Option, IfErr, IfOk, IsErr}
use Rattle.std.specs.Io.KnownBytes.{Appends}
use Rattle.ch_config.specs.declared.config.Config.{Config}
use Rattle.ch_given.specs.ConfigLines.{config_or_line, Declines}
use Rattle.ch_serve.specs.Words.{is_serve, usage_line}
use Rattle.ch_server.specs.Lines.{listen_failed_line, listening_line}
use Rattle.ch_io.specs.Writes.{WritesLast}

-- It listened and said where; or it couldn't listen, and said so; or there was no memory before that.
abbrev pub Listens : Config → ℕ → Option (List ℕ) → Option (List ℕ) → Type 0 → Type 0
Listens config status told_old told_new write_failed =
    (((status ≡ 0) ⊎ (status ≡ 7)) × WritesLast (listening_line config.listen) told_old told_new write_failed)
    ⊎ ((status ≡ 9) × WritesLast listen_failed_line told_old told_new write_failed)
    ⊎ ((status ≡ 7) × Appends told_old told_new [])

-- The status by the words and the bytes of the configuration, with what was written.
pub record Starts (words : List (List ℕ)) (given : Option (List ℕ)) (status : ℕ) (told_old told_new : Option (List ℕ)) (write_failed : Type 0) : Type 0 where
  pub no_server : (status ≡ 2) ↔ (is_serve words ≡ false)
  pub usage : status ≡ 2 → WritesLast usage_line told_old told_new write_failed
  pub refused : status ≡ 3 → (is_serve words ≡ true) × IsErr (config_or_line given)
  pub declined : is_serve words ≡ true → IfErr (config_or_line given) (λ line. Declines line status told_old told_new write_failed)
  pub started : is_serve words ≡ true → IfOk (config_or_line given) (λ c. Listens c status told_old told_new write_failed)
