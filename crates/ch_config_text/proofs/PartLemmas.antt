-- where the first of some byte stands
use Rattle.std.proofs.Common.{◌≡◌, ◌≢◌, ◌<◌, ℕ, List, [], length, get_or, take, drop, arith, ap, sym, ◌∙◌, ◌==◌}
use Rattle.std.proofs.Math.Seq.{take-length}
use Rattle.std.proofs.lemmas.Bool.{ne_eqb, eq-eqb}
use Rattle.std.proofs.lemmas.List.{length-take-le, drop_all}
use Rattle.std.specs.List.{position_or_len}
use Rattle.std.proofs.lemmas.List.Sums.{position_or_len_is}
use Rattle.ch_config_text.specs.Parts.{before, from_first}

-- where the first one stands at the place, the text from it on begins there
pub from_first-at : (mark at : ℕ) (text : List ℕ) → at < length text → get_or text at 0 ≡ mark → ((i : ℕ) → i < at → get_or text i 0 ≢ mark) → drop at text ≡ from_first mark text
from_first-at mark at text within is none_before =
    let place : position_or_len (λ b. b == mark) text ≡ at =
    position_or_len_is (λ b. b == mark) text at 0 (omega arith) (λ k h. ne_eqb (get_or text k 0) mark (none_before k h)) (λ _. eq-eqb (get_or text at 0) mark is) in
    let long : length (before mark text) ≡ at = ap (λ n. length (take n text)) place ∙ length-take-le at text (omega arith) in
    ap (λ n. drop n text) (sym long)

-- where none stands there, nothing is left
pub from_first-none : (mark : ℕ) (text : List ℕ) → ((i : ℕ) → i < length text → get_or text i 0 ≢ mark) → [] ≡ from_first mark text
from_first-none mark text none =
    let place : position_or_len (λ b. b == mark) text ≡ length text =
    position_or_len_is (λ b. b == mark) text (length text) 0 (omega arith) (λ k h. ne_eqb (get_or text k 0) mark (none k h)) (λ h. absurd (omega arith)) in
    let all : length (before mark text) ≡ length text = ap (λ n. length (take n text)) place ∙ ap length (take-length text) in
    sym (drop_all (length (before mark text)) text (omega arith))
