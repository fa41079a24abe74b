-- The outcome of lines whose free texts are given with what they mean.
use Rattle.std.proofs.Common.{◌≡◌, ℕ, ◌+◌, Bool, false, List, [], ◌∷◌, length, refl, sym, subst, Some}
use Rattle.std.specs.Prelude.{Option, None, MatchBool, nat_lt}
use Rattle.ch_config.specs.declared.config.Config.{Config}
use Rattle.ch_transcript.specs.Commands.{line_of}
use Rattle.ch_transcript.specs.declared.limits.TheConstants.{LONGEST_LINE}
use Rattle.ch_transcript.specs.Printing.{error_line, long_line}
use Rattle.ch_transcript.specs.Obeying.{Sense}
use Rattle.ch_transcript.specs.Outcomes.{played_as, MeansAs, Plays, Outcome, ends, after_text, Follows, OutcomeFrom}
use Rattle.ch_transcript.specs.Progress.{Progress, Played}

-- what a line makes, with what comes of those after it
unfoldable pub ran : ℕ → Option Played → (Progress → Outcome) → Outcome
ran n None more = ends 4 (error_line n)
ran n (Some x) more = after_text x.text (more x.next)

-- what lines make that mean so
unfoldable pub run : Config → ℕ → Progress → List (List ℕ) → List Sense → Outcome
run config n p [] senses = ends 0 []
run config n p (line ∷ lines) [] = ends 0 []
run config n p (line ∷ lines) (s ∷ senses) = ran n (played_as config p (line_of line) s) (λ q. run config (n + 1) q lines senses)

unfoldable pub MeanAfter : Option Played → (Progress → Type 0) → Type 0
MeanAfter None More = Unit {0}
MeanAfter (Some x) More = More x.next

-- each line means so where it stands, and is short
unfoldable pub AllMean : Config → Progress → List (List ℕ) → List Sense → Type 0
AllMean config p [] senses = Unit {0}
AllMean config p (line ∷ lines) [] = ⊥
AllMean config p (line ∷ lines) (s ∷ senses) =
    (nat_lt LONGEST_LINE (length line) ≡ false) × MeansAs config p (line_of line) s × MeanAfter (played_as config p (line_of line) s) (λ q. AllMean config q lines senses)

followed : (n : ℕ) (More : Progress → Outcome → Type 0) (Mean : Progress → Type 0) (more : Progress → Outcome) → ((q : Progress) → Mean q → More q (more q))
    → (x : Option Played) → MeanAfter x Mean → Follows n More x (ran n x more)
unfolding ran MeanAfter
followed n More Mean more next None h = refl
followed n More Mean more next (Some x) h = (more x.next, next x.next h, refl)

pub outcome_run : (config : Config) (n : ℕ) (p : Progress) (lines : List (List ℕ)) (senses : List Sense) → AllMean config p lines senses → OutcomeFrom config n p lines (run config n p lines senses)
unfolding run AllMean
outcome_run config n p [] senses h = refl
outcome_run config n p (line ∷ lines) [] h = absurd h
outcome_run config n p (line ∷ lines) (s ∷ senses) (short, means, after) =
    let x = played_as config p (line_of line) s in
    let More : Progress → Outcome → Type 0 = λ q later. OutcomeFrom config (n + 1) q lines later in
    let more : Progress → Outcome = λ q. run config (n + 1) q lines senses in
    let o = ran n x more in
    let P : Bool → Type 0 = λ t. MatchBool t (o ≡ ends 8 (long_line n)) ((y : Option Played) × Plays config p line y × Follows n More y o) in
    subst P (sym short) (x, (s, means, refl), followed n More (λ q. AllMean config q lines senses) more (λ q. outcome_run config (n + 1) q lines senses) x after)
