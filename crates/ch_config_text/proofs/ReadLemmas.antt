-- bytes that were read as JSON, or were not
use Rattle.std.proofs.Common.{◌≡◌, ◌⊎◌, ℕ, List, ap, ◌∙◌, Result, Ok, Err, MatchResult, IsUtf8, inl, inr}
use Rattle.std.specs.Prelude.{None, Some}
use Rattle.std.specs.Str.{is_utf8}
use Rattle.std.proofs.lemmas.Bool.{cases_Bool, cond-true, cond-false}
use Rattle.std.proofs.lemmas.Str.{IsUtf8-from_is_utf8, is_utf8-from_IsUtf8}
use Rattle.serde_json.specs.Data.{Data}
use Rattle.serde_json.specs.Read.{read}
use Rattle.ch_config.specs.declared.config.Config.{Config}
use Rattle.ch_config_text.specs.Config.{config_in, config_from, config_of}
use Rattle.ch_config_text.specs.Judging.{Answers}
use Rattle.ch_config_text.specs.declared.fault.ConfigFault.{ConfigFault}
use Rattle.ch_config_text.specs.declared.fault.ConfigFault.TheVariants.{NotJson, Memory}

-- the value that was read gives the configuration
pub config_in-read : (bytes : List ℕ) (value : Data) → IsUtf8 bytes → read bytes ≡ Some value → config_in bytes ≡ config_of value
config_in-read bytes value utf8 is =
    cond-true (is_utf8 bytes) (config_from (read bytes)) (Err NotJson) (is_utf8-from_IsUtf8 bytes utf8) ∙ ap config_from is

-- what no value is read from is no JSON
pub config_in-unread : (bytes : List ℕ) → (IsUtf8 bytes → read bytes ≡ None) → config_in bytes ≡ Err NotJson
config_in-unread bytes unread =
    elim (cases_Bool (is_utf8 bytes)) [
      | inl is ↦ cond-true (is_utf8 bytes) (config_from (read bytes)) (Err NotJson) is ∙ ap config_from (unread (IsUtf8-from_is_utf8 bytes is))
      | inr is_not ↦ cond-false (is_utf8 bytes) (config_from (read bytes)) (Err NotJson) is_not
    ]

-- what answers for the value that was read answers for the bytes
pub answers-read : (bytes : List ℕ) (value : Data) (r : Result Config ConfigFault) → IsUtf8 bytes → read bytes ≡ Some value → Answers (config_of value) r → MatchResult r (λ config. config_in bytes ≡ Ok config) (λ fault. (fault ≡ Memory) ⊎ (config_in bytes ≡ Err fault))
answers-read bytes value (Ok config) utf8 is answers = config_in-read bytes value utf8 is ∙ answers
answers-read bytes value (Err fault) utf8 is (inl memory) = inl memory
answers-read bytes value (Err fault) utf8 is (inr refused) = inr (config_in-read bytes value utf8 is ∙ refused)
