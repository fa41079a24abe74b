-- A replay of a transcript of which no line is refused.
use Rattle.std.proofs.Common.{◌≡◌, ℕ, ◌<◌, ◌∙◌, ap, sym, refl, inl, inr, List, ◌++◌, append-nil, arith}
use Rattle.std.specs.Prelude.{Option, Some, None, IfSome, ◌⊎◌}
use Rattle.std.specs.Io.KnownBytes.{Consumes, IsAtEnd}
use Rattle.ch_config.specs.declared.config.Config.{Config}
use Rattle.ch_transcript.specs.Printing.{error_line, long_line}
use Rattle.ch_transcript.specs.Replayed.{Ran, Refuses, status_of}
use Rattle.ch_transcript.specs.Outcomes.{Outcome, HasOutcome, ends}
use Rattle.ch_transcript.specs.declared.ending.Ending.{Ending}
use Rattle.ch_transcript.specs.declared.ending.Ending.TheVariants as ending
use Rattle.ch_transcript.proofs.Carrying.{moved}
use Rattle.ch_replay.specs.Playable.{IsPlayable}

-- an outcome that what was read has, at the end or however it goes on, is one of all that the source told
pub outcome_of_all : (config : Config) (bytes read : List ℕ) (left : Option (List ℕ)) (o : Outcome) → Consumes (Some bytes) left read → HasOutcome config read o
    → (IsAtEnd left ⊎ ((rest : List ℕ) → HasOutcome config (read ++ rest) o)) → HasOutcome config bytes o
outcome_of_all config bytes read None o consumed judged settled = absurd consumed
outcome_of_all config bytes read (Some rest) o consumed judged (inl at_end) =
    moved config (sym (consumed ∙ ap (λ z. read ++ z) at_end ∙ append-nil read)) refl judged
outcome_of_all config bytes read (Some rest) o consumed judged (inr goes_on) = moved config (sym consumed) refl (goes_on rest)

-- no line is refused
none_refused : (config : Config) (status : ℕ) (name : ℕ → List ℕ) (bytes read wrote : List ℕ) (left : Option (List ℕ)) (failed : Type 0) → Consumes (Some bytes) left read
    → Refuses config status name (IsAtEnd left) failed read wrote → IsPlayable config bytes → status ≡ 0
none_refused config status name bytes read wrote left failed consumed r playable =
    playable (ends status (r.front ++ name r.number)) (outcome_of_all config bytes read left (ends status (r.front ++ name r.number)) consumed r.judged r.settled)

-- a refusal has a status
not_zero : (status : ℕ) → 0 < status → status ≡ 0 → ⊥
not_zero status some none = omega arith

-- without a fault of the source or the sink the replay comes to its end, or there is no memory
ends_well : (config : Config) (bytes : List ℕ) (left told_old told_new : Option (List ℕ)) (failed : Type 0) (e : Ending) → Ran config (Some bytes) left told_old told_new failed e → IsPlayable config bytes
    → (e ≡ ending.ReadFailed → ⊥) → (e ≡ ending.WriteFailed → ⊥) → (status_of e ≡ 0) ⊎ (status_of e ≡ 7)
ends_well config bytes left told_old told_new failed ending.Done ran playable was_read was_written = inl refl
ends_well config bytes left told_old told_new failed ending.Memory ran playable was_read was_written = inr refl
ends_well config bytes left told_old told_new failed ending.NotALine ran playable was_read was_written =
    absurd (not_zero 4 (omega arith) (none_refused config 4 error_line bytes ran.read ran.wrote left failed ran.consumed ran.says playable))
ends_well config bytes left told_old told_new failed ending.LongLine ran playable was_read was_written =
    absurd (not_zero 8 (omega arith) (none_refused config 8 long_line bytes ran.read ran.wrote left failed ran.consumed ran.says playable))
ends_well config bytes left told_old told_new failed ending.ReadFailed ran playable was_read was_written = absurd (was_read refl)
ends_well config bytes left told_old told_new failed ending.WriteFailed ran playable was_read was_written = absurd (was_written refl)

-- the same where the source may tell what is left in it
pub ran_complete : (config : Config) (left_old left_new told_old told_new : Option (List ℕ)) (failed read_rose write_rose : Type 0) (e : Ending) → Ran config left_old left_new told_old told_new failed e
    → (e ≡ ending.ReadFailed → read_rose) → (e ≡ ending.WriteFailed → write_rose)
    → IfSome left_old (λ bytes. IsPlayable config bytes → ¬ read_rose → ¬ write_rose → (status_of e ≡ 0) ⊎ (status_of e ≡ 7))
ran_complete config None left_new told_old told_new failed read_rose write_rose e ran was_read was_written = tt
ran_complete config (Some bytes) left_new told_old told_new failed read_rose write_rose e ran was_read was_written =
    λ playable unread unwritten. ends_well config bytes left_new told_old told_new failed e ran playable (λ is. unread (was_read is)) (λ is. unwritten (was_written is))
