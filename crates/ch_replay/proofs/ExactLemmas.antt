-- A replay answers the outcome of its transcript.
use Rattle.std.proofs.Common.{◌≡◌, ℕ, suc, ◌+◌, ◌∙◌, ap, sym, refl, subst, inl, inr, List, [], ◌∷◌, ◌++◌, length, take, arith}
use Rattle.std.specs.Prelude.{Option, Some, None, IfSome, ◌⊎◌}
use Rattle.std.proofs.Math.Seq.{take-length}
use Rattle.std.specs.Io.KnownBytes.{Consumes, Appends, IsAtEnd}
use Rattle.ch_config.specs.declared.config.Config.{Config}
use Rattle.ch_outcomes.specs.Answered.{AnswersOutcome}
use Rattle.ch_outcomes.proofs.OneOutcome.{one_outcome}
use Rattle.ch_transcript.specs.Printing.{error_line, long_line}
use Rattle.ch_io.specs.Writes.{WritesLast}
use Rattle.ch_transcript.specs.Replayed.{Ran, Refuses, status_of}
use Rattle.ch_transcript.specs.Outcomes.{Outcome, HasOutcome, ends}
use Rattle.ch_transcript.specs.declared.ending.Ending.{Ending}
use Rattle.ch_transcript.specs.declared.ending.Ending.TheVariants as ending
use Rattle.ch_replay.proofs.PlayableLemmas.{outcome_of_all}

take_past : (front text : List ℕ) (k : ℕ) → take (length front + k) (front ++ text) ≡ front ++ take k text
take_past [] text k = let e : 0 + k ≡ k = omega arith in ap (λ (m : ℕ). take m text) e
take_past (b ∷ front) text k =
    let e : length (b ∷ front) + k ≡ suc (length front + k) = omega arith in
    ap (λ (m : ℕ). take m (b ∷ front ++ text)) e ∙ ap (λ (z : List ℕ). b ∷ z) (take_past front text k)

-- all of a text was written
wrote_whole : (text : List ℕ) (told_old told_new : Option (List ℕ)) (failed : Type 0) → Appends told_old told_new text → WritesLast text told_old told_new failed
wrote_whole text told_old told_new failed gained =
    let P : List ℕ → Type 0 = λ z. Appends told_old told_new z in
    record { count = length text; gained = subst P (sym (take-length text)) gained; whole = inl (take-length text) }

-- a text was written up to a front of its last line
wrote_front : (front line wrote : List ℕ) (k : ℕ) (told_old told_new : Option (List ℕ)) (failed : Type 0) → Appends told_old told_new wrote → wrote ≡ front ++ take k line → (wrote ≡ front ++ line) ⊎ failed
    → WritesLast (front ++ line) told_old told_new failed
wrote_front front line wrote k told_old told_new failed gained part whole =
    let P : List ℕ → Type 0 = λ z. Appends told_old told_new z in
    let same : wrote ≡ take (length front + k) (front ++ line) = part ∙ sym (take_past front line k) in
    record {
      count = length front + k;
      gained = subst P same gained;
      whole = elim whole [ inl e ↦ inl (sym same ∙ e) | inr f ↦ inr f ];
    }

refused_exact : (config : Config) (status : ℕ) (name : ℕ → List ℕ) (bytes read wrote : List ℕ) (left told_old told_new : Option (List ℕ)) (failed : Type 0) → Consumes (Some bytes) left read → Appends told_old told_new wrote
    → Refuses config status name (IsAtEnd left) failed read wrote → (o : Outcome) → HasOutcome config bytes o → AnswersOutcome o status told_old told_new failed
refused_exact config status name bytes read wrote left told_old told_new failed consumed gained r o has =
    let P : Outcome → Type 0 = λ z. AnswersOutcome z status told_old told_new failed in
    let text = r.front ++ name r.number in
    let all = outcome_of_all config bytes read left (ends status text) consumed r.judged r.settled in
    subst P (one_outcome config bytes (ends status text) o all has)
    (inl (refl, wrote_front r.front (name r.number) wrote r.part.0 told_old told_new failed gained r.part.1 r.whole))

exact : (config : Config) (bytes : List ℕ) (left told_old told_new : Option (List ℕ)) (failed : Type 0) (e : Ending) → Ran config (Some bytes) left told_old told_new failed e
    → (o : Outcome) → HasOutcome config bytes o → AnswersOutcome o (status_of e) told_old told_new failed
exact config bytes left told_old told_new failed ending.Done ran o has =
    let P : Outcome → Type 0 = λ z. AnswersOutcome z 0 told_old told_new failed in
    let all = outcome_of_all config bytes ran.read left (ends 0 ran.wrote) ran.consumed ran.says.1 (inl ran.says.0) in
    subst P (one_outcome config bytes (ends 0 ran.wrote) o all has) (inl (refl, wrote_whole ran.wrote told_old told_new failed ran.gained))
exact config bytes left told_old told_new failed ending.NotALine ran o has =
    refused_exact config 4 error_line bytes ran.read ran.wrote left told_old told_new failed ran.consumed ran.gained ran.says o has
exact config bytes left told_old told_new failed ending.LongLine ran o has =
    refused_exact config 8 long_line bytes ran.read ran.wrote left told_old told_new failed ran.consumed ran.gained ran.says o has
exact config bytes left told_old told_new failed ending.ReadFailed ran o has = inr (inl refl)
exact config bytes left told_old told_new failed ending.WriteFailed ran o has = inr (inr (inl refl))
exact config bytes left told_old told_new failed ending.Memory ran o has = inr (inr (inr refl))

-- the same where the source may tell what is left in it
pub ran_exact : (config : Config) (left_old left_new told_old told_new : Option (List ℕ)) (failed : Type 0) (e : Ending) → Ran config left_old left_new told_old told_new failed e
    → IfSome left_old (λ bytes. (o : Outcome) → HasOutcome config bytes o → AnswersOutcome o (status_of e) told_old told_new failed)
ran_exact config None left_new told_old told_new failed e ran = tt
ran_exact config (Some bytes) left_new told_old told_new failed e ran = exact config bytes left_new told_old told_new failed e ran

-- there was no memory
pub memory_exact : (config : Config) (status : ℕ) (left told_old told_new : Option (List ℕ)) (failed : Type 0) → status ≡ 7
    → IfSome left (λ bytes. (o : Outcome) → HasOutcome config bytes o → AnswersOutcome o status told_old told_new failed)
memory_exact config status None told_old told_new failed is = tt
memory_exact config status (Some bytes) told_old told_new failed is = λ o has. inr (inr (inr is))
