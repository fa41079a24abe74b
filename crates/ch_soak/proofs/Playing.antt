-- No line of a soak's transcript is refused.
use Rattle.std.proofs.Common.{◌≡◌, ℕ, zero, suc, ◌+◌, ◌<◌, ◌≤◌, min, Bool, true, false, cond, nat_lt, refl, sym, ap, subst, ◌∙◌, List, ◌∷◌, ◌++◌, length, append_assoc, arith, codes}
use Rattle.std.specs.Prelude.{Option, Some, None, MatchBool}
use Rattle.std.specs.Fmt.{decimal}
use Rattle.std.proofs.lemmas.Bool.{ltb-true, le-ltb}
use Rattle.std.proofs.lemmas.Bool.Decides.{nat_tests}
use Rattle.std.proofs.lemmas.Fmt.{decimal_digit}
use Rattle.ch_config.specs.Config.{built_in}
use Rattle.ch_protocol.specs.Targets.{target_refusal}
use Rattle.ch_transcript.specs.declared.commands.Command.TheVariants.{Open}
use Rattle.ch_transcript.specs.declared.commands.Line.TheVariants.{Timed}
use Rattle.ch_transcript.specs.Commands.{line_of, open_in}
use Rattle.ch_transcript.specs.Lines.{lines_of}
use Rattle.ch_transcript.specs.declared.limits.TheConstants.{LONGEST_LINE}
use Rattle.ch_transcript.specs.Outcomes.{at_moment, Plays, Outcome, ends, Follows, OutcomeFrom}
use Rattle.ch_transcript.specs.Printing.{line_end, long_line}
use Rattle.ch_transcript.specs.Progress.{Progress, Played, beginning}
use Rattle.ch_transcript.proofs.LineLemmas.{lines_of-line}
use Rattle.ch_soak.specs.declared.limits.TheConstants.{MOST_LINES}
use Rattle.ch_soak.specs.Generator.{draws_from, command_of as drawn_command, connection_count, line_at, state_after, lines_from}
use Rattle.ch_soak.specs.Laws.{EachIsPlayable}
use Rattle.ch_soak.proofs.Bytes.{is_plain, Plain, Plain-append, all_append, plain_no_end, plain_utf8}
use Rattle.ch_soak.proofs.Drawing.{Said, drawn_said, by_word, plain_of, pick, number_plain}
use Rattle.ch_soak.proofs.Keeping.{Keeps, opens_keeps, obeyed_keeps, played_keeps}
use Rattle.ch_soak.proofs.WordsOfLines.{line_is, more_whole}

-- before line i: the moment, and how many connections were opened
abbrev Stands : ℕ → Progress → Type 0
Stands i p = (p.at ≤ i) × (i ≤ 8 → p.at ≡ 0) × (length p.sockets ≡ min i 8)

-- line i was played
abbrev Stepped : ℕ → Option Played → Type 0
Stepped i None = ⊥
Stepped i (Some x) = Stands (i + 1) x.next

keeps_steps : (i n at : ℕ) (y : Option Played) → Keeps n at y → at ≤ i + 1 → (i + 1 ≤ 8 → at ≡ 0) → n ≡ min (i + 1) 8 → Stepped i y
keeps_steps i n at None keeps later first size = keeps
keeps_steps i n at (Some x) keeps later first size = (omega (arith, keeps.0, later), λ few. keeps.0 ∙ first few, keeps.1 ∙ size)

-- ---- lines that open a connection

abbrev target : List ℕ
target = codes "/app/k?protocol=7"

abbrev open_line : List ℕ
open_line = codes "0 open /app/k?protocol=7"

open_is : line_of open_line ≡ Timed 0 (Open target)
open_is =
    let text : List ℕ = codes "open /app/k?protocol=7" in
    ap (λ z. line_of (z ++ 32 ∷ text)) (sym (decimal_digit 0 (omega arith)))
    ∙ line_is 0 text (Open target) (omega arith)
    (plain_utf8 (decimal 0 ++ 32 ∷ text) (all_append is_plain (decimal 0) (32 ∷ text) (number_plain 0 (omega arith)).0 refl))
    (by_word (codes "open") target refl ∙ ap (open_in target) (more_whole target refl))

step_open : (i : ℕ) (p : Progress) (y : Option Played) → i < 8 → Stands i p → Plays built_in p open_line y → Stepped i y
step_open i p y few st plays =
    let none : p.at ≡ 0 = st.1 (omega (arith, few)) in
    keeps_steps i (length p.sockets + 1) 0 y
    (played_keeps built_in p open_line 0 (length p.sockets + 1) (Open target) y open_is (omega (arith, none))
    (λ s means. opens_keeps (at_moment 0 p) 0 (target_refusal built_in.key target) (omega (arith, st.2))) plays)
    (omega arith) (λ h. refl) (omega (arith, st.2, few))

-- ---- drawn lines

say_of : (i x : ℕ) → i < MOST_LINES → Said (drawn_command i (draws_from x) (draws_from x).action)
say_of i x few = drawn_said i (draws_from x) (draws_from x).action few (omega arith) (omega arith) (omega arith)

step_drawn : (i x : ℕ) (p : Progress) (y : Option Played) → 8 ≤ i → i < MOST_LINES → Stands i p
    → Plays built_in p (decimal i ++ codes " " ++ drawn_command i (draws_from x) (draws_from x).action) y → Stepped i y
step_drawn i x p y least few st plays =
    let text = drawn_command i (draws_from x) (draws_from x).action in
    let said = say_of i x few in
    let utf8 = plain_utf8 (decimal i ++ 32 ∷ text) (all_append is_plain (decimal i) (32 ∷ text) (number_plain i (omega (arith, few))).0 said.plain.0) in
    let is = ap line_of (append_assoc (decimal i) (codes " ") text) ∙ line_is i text said.command (omega (arith, few)) utf8 said.says in
    let eight : length p.sockets ≡ 8 = omega (arith, st.2, least) in
    keeps_steps i 8 i y
    (played_keeps built_in p (decimal i ++ codes " " ++ text) i 8 said.command y is st.0
    (λ s means. obeyed_keeps built_in (at_moment i p) i said.command s said.sure eight means) plays)
    (omega arith) (λ h. absurd (omega (arith, h, least))) (omega (arith, least))

-- ---- each line

not_below : (a b : ℕ) → nat_lt a b ≡ false → b ≤ a
not_below a b h = grind (arith, nat_tests)

step : (i x : ℕ) (p : Progress) (y : Option Played) → i < MOST_LINES → Stands i p → Plays built_in p (line_at i x) y → Stepped i y
step i x p y few st plays =
    (elim (nat_lt i connection_count) as (λ (b : Bool). nat_lt i connection_count ≡ b
    → Plays built_in p (cond b open_line (decimal i ++ codes " " ++ drawn_command i (draws_from x) (draws_from x).action)) y → Stepped i y) [
      | true ↦ λ is h. step_open i p y (ltb-true i 8 is) st h
      | false ↦ λ is h. step_drawn i x p y (not_below i 8 is) few st h
    ]) refl plays

wider : (j k : ℕ) (xs : List ℕ) → j ≤ k → Plain j xs → Plain k xs
wider j k xs le h = (h.0, omega (arith, h.1, le))

line_plain : (i x : ℕ) → i < MOST_LINES → Plain 500 (line_at i x)
line_plain i x few =
    let text = drawn_command i (draws_from x) (draws_from x).action in
    let said = say_of i x few in
    pick (Plain 500) (nat_lt i connection_count) open_line (decimal i ++ codes " " ++ text) (plain_of 500 open_line refl refl)
    (wider (20 + 1 + said.size) 500 (decimal i ++ codes " " ++ text) (omega (arith, said.small))
    (Plain-append (20 + 1) said.size (decimal i ++ codes " ") text (Plain-append 20 1 (decimal i) (codes " ") (number_plain i (omega (arith, few))) (plain_of 1 (codes " ") refl refl)) said.plain))

-- ---- all lines

good : (count i x n : ℕ) (p : Progress) (o : Outcome) → i + count ≤ MOST_LINES → Stands i p → OutcomeFrom built_in n p (lines_of (lines_from count i x)) o → o.status ≡ 0
good zero i x n p o few st judged = ap (λ (z : Outcome). z.status) judged
good (suc count) i x n p o few st judged =
    let line = line_at i x in
    let rest = lines_from count (i + 1) (state_after i x) in
    let small : i < MOST_LINES = omega (arith, few) in
    let plain = line_plain i x small in
    let split : lines_of (lines_from (suc count) i x) ≡ line ∷ lines_of rest = ap lines_of (append_assoc line line_end rest) ∙ lines_of-line line rest (plain_no_end line plain.0) in
    let first : OutcomeFrom built_in n p (line ∷ lines_of rest) o = subst (λ z. OutcomeFrom built_in n p z o) split judged in
    let More : Progress → Outcome → Type 0 = λ q later. OutcomeFrom built_in (n + 1) q (lines_of rest) later in
    let Played_ : Type 0 = (y : Option Played) × Plays built_in p line y × Follows n More y o in
    let h : Played_ = subst (λ t. MatchBool t (o ≡ ends 8 (long_line n)) Played_) (le-ltb LONGEST_LINE (length line) (omega (arith, plain.1))) first in
    (elim h.0 as (λ (y : Option Played). Stepped i y → Follows n More y o → o.status ≡ 0) [
      | None ↦ λ stepped follows. absurd stepped
      | Some z ↦ λ stepped follows. ap (λ (q : Outcome). q.status) follows.2
          ∙ good count (i + 1) (state_after i x) (n + 1) z.next follows.0 (omega (arith, few)) stepped follows.1
    ]) (step i x p h.0 small st h.1) h.2

pub playable : EachIsPlayable
playable = λ soak few o has. good soak.lines 0 soak.seed 1 beginning o (omega (arith, few)) (omega arith, λ h. refl, refl) has
