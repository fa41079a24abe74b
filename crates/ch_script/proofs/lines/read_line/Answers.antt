use Rattle.std.proofs.Common.{◌≡◌, true, false, Bool, List, ℕ, subst, sym, ap, ◌∙◌, cond, refl}
use Rattle.std.specs.Prelude.{Result, Ok, Err, IfOk}
use Rattle.std.specs.Str.{IsUtf8, is_utf8}
use Rattle.std.proofs.lemmas.Str.{is_utf8-from_IsUtf8, IsUtf8-from_is_utf8}
use Rattle.ch_base.specs.declared.memory.Memory.{Memory}
use Rattle.ch_transcript.specs.declared.commands.Line.{Line}
use Rattle.ch_transcript.specs.declared.commands.Line.TheVariants.{Bad}
use Rattle.ch_transcript.specs.Commands.{line_of, line_in, IsLine}
use Rattle.ch_script.proofs.Carried.{line_of-is}
use Rattle.ch_script.proofs.lines.read_line.Goals as goal

line_of-text : (line text : List ℕ) → IsUtf8 line → text ≡ line → line_in text ≡ line_of line
line_of-text line text utf8 is = ap line_in is ∙ sym (ap (λ b. cond b (line_in line) Bad) (is_utf8-from_IsUtf8 line utf8))

line_of-bytes : (line : List ℕ) → (IsUtf8 line → ⊥) → Bad ≡ line_of line
line_of-bytes line not_text =
    (elim (is_utf8 line) as (λ (b : Bool). is_utf8 line ≡ b → Bad ≡ line_of line) [
      | true ↦ λ is. absurd (not_text (IsUtf8-from_is_utf8 line is))
      | false ↦ λ is. sym (ap (λ b. cond b (line_in line) Bad) is)
    ]) refl

-- what a text is read as, said of its bytes
read_as : (r : Result Line Memory) (line text : List ℕ) → IsUtf8 line → text ≡ line → IfOk r (λ said. said ≡ line_in text) → IfOk r (λ said. said ≡ line_of line)
read_as (Ok said) line text utf8 is h = h ∙ line_of-text line text utf8 is
read_as (Err m) line text utf8 is h = tt

read_good : (r : Result Line Memory) (line : List ℕ) → IfOk r (λ said. said ≡ line_of line) → IfOk r IsLine
read_good (Ok said) line h = subst IsLine (sym h) (line_of-is line)
read_good (Err m) line h = tt

pub returns-in-Ok-clause-said : goal.returns-in-Ok-clause-said
returns-in-Ok-clause-said c = read_as c.read_text.result c.args.line.now c.in-Ok.text.now c.in-Ok.ensures.cases.1 c.in-Ok.ensures.cases.0 c.read_text.ensures

pub returns-in-Ok-clause-good : goal.returns-in-Ok-clause-good
returns-in-Ok-clause-good c =
    read_good c.read_text.result c.args.line.now (read_as c.read_text.result c.args.line.now c.in-Ok.text.now c.in-Ok.ensures.cases.1 c.in-Ok.ensures.cases.0 c.read_text.ensures)

pub returns-in-Err-clause-said : goal.returns-in-Err-clause-said
returns-in-Err-clause-said c = line_of-bytes c.args.line.now c.in-Err.ensures.cases.0
