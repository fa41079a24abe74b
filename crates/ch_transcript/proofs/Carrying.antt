-- How the outcome of a transcript follows from that of its lines so far.
use Rattle.std.proofs.Common.{◌≡◌, ℕ, Bool, false, ◌+◌, ◌<◌, ◌≤◌, ◌∙◌, ap, sym, subst, refl, List, [], ◌∷◌, ◌++◌, length, append_assoc, append-nil, length-append, arith}
use Rattle.std.specs.Prelude.{Option, Some, None, MatchBool}
use Rattle.std.proofs.lemmas.Bool.{le-ltb, lt-ltb}
use Rattle.ch_config.specs.declared.config.Config.{Config}
use Rattle.ch_transcript.specs.Lines.{has_line_end, lines_of, whole_lines}
use Rattle.ch_transcript.specs.declared.limits.TheConstants.{LONGEST_LINE}
use Rattle.ch_transcript.specs.Printing.{error_line, long_line}
use Rattle.ch_transcript.specs.Outcomes.{Plays, Outcome, ends, after_text, Follows, OutcomeFrom, HasOutcome}
use Rattle.ch_transcript.specs.Progress.{Progress, beginning, Played}
use Rattle.ch_transcript.proofs.LineLemmas.{lines_of-line, lines_of-begun, lines_of-last, whole_lines-end, whole_lines-none}

-- these whole lines have written this, and come so far: the next line is the nth
pub record Carries (config : Config) (done wrote : List ℕ) (n : ℕ) (p : Progress) : Type 0 where
  pub on : (rest : List ℕ) (o : Outcome) → OutcomeFrom config n p (lines_of rest) o → HasOutcome config (done ++ rest) (after_text wrote o)
  pub whole : (rest : List ℕ) → whole_lines (done ++ rest) ≡ done ++ whole_lines rest

pub Carries-begin : (config : Config) → Carries config [] [] 1 beginning
Carries-begin config = record { on = λ rest o h. h; whole = λ rest. refl }

-- ---- one line

-- what follows a line that isn't too long
pub outcome-line : (config : Config) (n : ℕ) (p : Progress) (line : List ℕ) (lines : List (List ℕ)) (x : Option Played) (o : Outcome) → length line ≤ LONGEST_LINE → Plays config p line x
    → Follows n (λ q later. OutcomeFrom config (n + 1) q lines later) x o → OutcomeFrom config n p (line ∷ lines) o
outcome-line config n p line lines x o short plays follows =
    let P : Bool → Type 0 = λ t. MatchBool t (o ≡ ends 8 (long_line n))
    ((y : Option Played) × Plays config p line y × Follows n (λ q later. OutcomeFrom config (n + 1) q lines later) y o) in
    subst P (sym (le-ltb LONGEST_LINE (length line) short)) (x, plays, follows)

pub outcome-long : (config : Config) (n : ℕ) (p : Progress) (line : List ℕ) (lines : List (List ℕ)) → LONGEST_LINE < length line → OutcomeFrom config n p (line ∷ lines) (ends 8 (long_line n))
outcome-long config n p line lines long =
    let P : Bool → Type 0 = λ t. MatchBool t (ends 8 (long_line n) ≡ ends 8 (long_line n))
    ((y : Option Played) × Plays config p line y × Follows n (λ q later. OutcomeFrom config (n + 1) q lines later) y (ends 8 (long_line n))) in
    subst P (sym (lt-ltb LONGEST_LINE (length line) long)) refl

-- ---- outcomes under equal names

-- of equal bytes, with an equal outcome
pub moved : (config : Config) {a b : List ℕ} {o r : Outcome} → a ≡ b → o ≡ r → HasOutcome config a o → HasOutcome config b r
moved config {a} {b} {o} {r} same_bytes same_outcome h =
    let P : List ℕ → Type 0 = λ z. HasOutcome config z o in
    let Q : Outcome → Type 0 = λ z. HasOutcome config b z in
    subst Q same_outcome (subst P same_bytes h)

-- of equal lines
from_lines : (config : Config) (n : ℕ) (p : Progress) (a b : List (List ℕ)) (o : Outcome) → a ≡ b → OutcomeFrom config n p b o → OutcomeFrom config n p a o
from_lines config n p a b o same h =
    let P : List (List ℕ) → Type 0 = λ z. OutcomeFrom config n p z o in subst P (sym same) h

pub after_two : (a b : List ℕ) (o : Outcome) → after_text a (after_text b o) ≡ after_text (a ++ b) o
after_two a b o = ap (ends o.status) (sym (append_assoc a b o.text))

seam : (done line rest : List ℕ) → (done ++ (line ++ 10 ∷ [])) ++ rest ≡ done ++ (line ++ 10 ∷ rest)
seam done line rest = append_assoc done (line ++ 10 ∷ []) rest ∙ ap (λ z. done ++ z) (append_assoc line (10 ∷ []) rest)

-- ---- more lines

-- a line that says something
pub Carries-line : {config : Config} {done wrote : List ℕ} {n : ℕ} {p : Progress} (line : List ℕ) (x : Played) → Carries config done wrote n p → has_line_end line ≡ false → length line ≤ LONGEST_LINE
    → Plays config p line (Some x) → Carries config (done ++ (line ++ 10 ∷ [])) (wrote ++ x.text) (n + 1) x.next
Carries-line {config} {done} {wrote} {n} {p} line x c none short plays = record {
  on = λ rest o later. moved config (sym (seam done line rest)) (after_two wrote x.text o)
      (c.on (line ++ 10 ∷ rest) (after_text x.text o)
      (from_lines config n p _ _ _ (lines_of-line line rest none)
      (outcome-line config n p line (lines_of rest) (Some x) (after_text x.text o) short plays (o, later, refl))));
  whole = λ rest. ap whole_lines (seam done line rest) ∙ c.whole (line ++ 10 ∷ rest) ∙ ap (λ z. done ++ z) (whole_lines-end line rest) ∙ sym (seam done line (whole_lines rest));
}

-- the outcome of the lines so far alone
pub on_nothing : {config : Config} {done wrote : List ℕ} {n : ℕ} {p : Progress} → Carries config done wrote n p → HasOutcome config done (ends 0 wrote)
on_nothing {config} {done} {wrote} c = moved config (append-nil done) (ap (ends 0) (append-nil wrote)) (c.on [] (ends 0 []) refl)

-- the lines so far are whole
pub done_whole : {config : Config} {done wrote : List ℕ} {n : ℕ} {p : Progress} → Carries config done wrote n p → whole_lines done ≡ done
done_whole {done} c = ap whole_lines (sym (append-nil done)) ∙ c.whole [] ∙ append-nil done

-- ---- endings

-- the source ended
pub Carries-ended : {config : Config} {done wrote : List ℕ} {n : ℕ} {p : Progress} (read : List ℕ) → Carries config done wrote n p → read ≡ done → HasOutcome config read (ends 0 wrote)
Carries-ended {config} read c e = moved config (sym e) refl (on_nothing c)

-- a read failed
pub Carries-failed : {config : Config} {done wrote : List ℕ} {n : ℕ} {p : Progress} (read line : List ℕ) → Carries config done wrote n p → read ≡ done ++ line → has_line_end line ≡ false
    → HasOutcome config (whole_lines read) (ends 0 wrote)
Carries-failed {config} {done} read line c e none =
    moved config (sym (ap whole_lines e ∙ c.whole line ∙ ap (λ z. done ++ z) (whole_lines-none line none) ∙ append-nil done)) refl (on_nothing c)

-- the last line says something
pub Carries-last : {config : Config} {done wrote : List ℕ} {n : ℕ} {p : Progress} (read line : List ℕ) (x : Played) → Carries config done wrote n p → read ≡ done ++ line → has_line_end line ≡ false → length line ≤ LONGEST_LINE
    → 0 < length line → Plays config p line (Some x) → HasOutcome config read (ends 0 (wrote ++ x.text))
Carries-last {config} {wrote} {n} {p} read line x c e none short some plays =
    moved config (sym e) refl (c.on line (ends 0 x.text)
    (from_lines config n p _ _ _ (lines_of-last line none some)
    (outcome-line config n p line [] (Some x) (ends 0 x.text) short plays (ends 0 [], refl, ap (ends 0) (sym (append-nil x.text))))))

-- a line is refused, however the input goes on
pub Carries-refused : {config : Config} {done wrote : List ℕ} {n : ℕ} {p : Progress} (read line new rest : List ℕ) → Carries config done wrote n p → read ≡ done ++ (line ++ 10 ∷ new) → has_line_end line ≡ false → length line ≤ LONGEST_LINE
    → Plays config p line None → HasOutcome config (read ++ rest) (ends 4 (wrote ++ error_line n))
Carries-refused {config} {done} {wrote} {n} {p} read line new rest c e none short plays =
    moved config (sym (ap (λ z. z ++ rest) e ∙ append_assoc done (line ++ 10 ∷ new) rest ∙ ap (λ z. done ++ z) (append_assoc line (10 ∷ new) rest))) refl
    (c.on (line ++ 10 ∷ (new ++ rest)) (ends 4 (error_line n))
    (from_lines config n p _ _ _ (lines_of-line line (new ++ rest) none)
    (outcome-line config n p line (lines_of (new ++ rest)) None (ends 4 (error_line n)) short plays refl)))

pub Carries-last_refused : {config : Config} {done wrote : List ℕ} {n : ℕ} {p : Progress} (read line : List ℕ) → Carries config done wrote n p → read ≡ done ++ line → has_line_end line ≡ false → length line ≤ LONGEST_LINE
    → 0 < length line → Plays config p line None → HasOutcome config read (ends 4 (wrote ++ error_line n))
Carries-last_refused {config} {wrote} {n} {p} read line c e none short some plays =
    moved config (sym e) refl (c.on line (ends 4 (error_line n))
    (from_lines config n p _ _ _ (lines_of-last line none some)
    (outcome-line config n p line [] None (ends 4 (error_line n)) short plays refl)))

-- a line is too long, however the input goes on
begun_long : (config : Config) (n : ℕ) (p : Progress) (line more : List ℕ) → has_line_end line ≡ false → LONGEST_LINE < length line → OutcomeFrom config n p (lines_of (line ++ more)) (ends 8 (long_line n))
begun_long config n p [] more none long = absurd (omega arith)
begun_long config n p (b ∷ line) more none long =
    let at = lines_of-begun b line more none in
    let longer : LONGEST_LINE < length (b ∷ line ++ at.0) = omega (arith, length-append (b ∷ line) at.0, long) in
    from_lines config n p _ _ _ at.2 (outcome-long config n p (b ∷ line ++ at.0) at.1 longer)

pub Carries-long : {config : Config} {done wrote : List ℕ} {n : ℕ} {p : Progress} (read line more rest : List ℕ) → Carries config done wrote n p → read ≡ done ++ (line ++ more) → has_line_end line ≡ false → LONGEST_LINE < length line
    → HasOutcome config (read ++ rest) (ends 8 (wrote ++ long_line n))
Carries-long {config} {done} {wrote} {n} {p} read line more rest c e none long =
    moved config (sym (ap (λ z. z ++ rest) e ∙ append_assoc done (line ++ more) rest ∙ ap (λ z. done ++ z) (append_assoc line more rest))) refl
    (c.on (line ++ (more ++ rest)) (ends 8 (long_line n)) (begun_long config n p line (more ++ rest) none long))
