-- The parts of a line, and the numbers in it.
use Rattle.std.proofs.Common.{◌≡◌, ℕ, ◌+◌, ◌≤◌, true, false, ◌&&◌, not, cond, nat_le, refl, sym, ap, ◌∙◌, List, [], ◌∷◌, ◌++◌, length, take, drop, length-append, append-nil, arith, bytes_eq}
use Rattle.std.specs.Prelude.{Option, Some, None}
use Rattle.std.specs.Fmt.{decimal}
use Rattle.std.specs.List.{list_any, list_all, position_or_len, after_first}
use Rattle.std.specs.Str.{is_utf8}
use Rattle.std.proofs.Math.Seq.{take-append_seam, drop-append-add}
use Rattle.std.proofs.lemmas.Bool.{lt-ltb, le-ltb}
use Rattle.std.proofs.lemmas.Fmt.{decimal_is_IsNumeral}
use Rattle.std.proofs.lemmas.Slice.Eq.{bytes_eq-Decides}
use Rattle.ch_transcript.specs.declared.commands.Command.{Command}
use Rattle.ch_transcript.specs.declared.commands.Line.TheVariants.{Skipped, Timed, Bad}
use Rattle.ch_transcript.specs.Commands.{is_blank, first_part, more_parts, number_in, command_of, command_after, timed, is_skipped, line_in, line_of}
use Rattle.ch_base.specs.declared.limits.TheConstants.{LATEST_MOMENT}
use Rattle.ch_soak.proofs.Bytes.{is_digit, digit_least, and_both, both_true, or_left, or_right, differs, at_least, digits_are, digits_no_blank}

-- no blank stands in the word
abbrev pub Word : List ℕ → Type 0
Word word = list_any is_blank word ≡ false

position_at : (word rest : List ℕ) → Word word → position_or_len is_blank (word ++ 32 ∷ rest) ≡ length word
position_at [] rest none = refl
position_at (b ∷ word) rest none =
    ap (λ t. cond (not t) (1 + position_or_len is_blank (word ++ 32 ∷ rest)) 0) (or_left (is_blank b) (list_any is_blank word) none)
    ∙ omega (arith, position_at word rest (or_right (is_blank b) (list_any is_blank word) none))

position_none : (word : List ℕ) → Word word → position_or_len is_blank word ≡ length word
position_none [] none = refl
position_none (b ∷ word) none =
    ap (λ t. cond (not t) (1 + position_or_len is_blank word) 0) (or_left (is_blank b) (list_any is_blank word) none)
    ∙ omega (arith, position_none word (or_right (is_blank b) (list_any is_blank word) none))

pub first_of : (word rest : List ℕ) → Word word → first_part (word ++ 32 ∷ rest) ≡ word
first_of word rest none = ap (λ n. take n (word ++ 32 ∷ rest)) (position_at word rest none) ∙ take-append_seam word (32 ∷ rest)

pub more_of : (word rest : List ℕ) → Word word → more_parts (word ++ 32 ∷ rest) ≡ Some rest
more_of word rest none =
    let text = word ++ 32 ∷ rest in
    let place = position_at word rest none in
    ap (λ t. cond t (Some (after_first is_blank text)) None) (lt-ltb (position_or_len is_blank text) (length text) (omega (arith, place, length-append word (32 ∷ rest))))
    ∙ ap Some (ap (λ n. drop (n + 1) text) place ∙ drop-append-add word (32 ∷ rest) 1)

pub first_whole : (word : List ℕ) → Word word → first_part word ≡ word
first_whole word none =
    ap (λ n. take n word) (position_none word none)
    ∙ (ap (λ z. take (length word) z) (sym (append-nil word)) ∙ take-append_seam word [])

pub more_whole : (word : List ℕ) → Word word → more_parts word ≡ None
more_whole word none =
    ap (λ t. cond t (Some (after_first is_blank word)) None) (le-ltb (position_or_len is_blank word) (length word) (omega (arith, position_none word none)))

-- ---- numbers

pub number_of : (n : ℕ) → n ≤ LATEST_MOMENT → number_in (decimal n) ≡ Some n
number_of n small =
    let F : ℕ → Option ℕ = λ v. cond (nat_le v LATEST_MOMENT && bytes_eq (decimal v) (decimal n)) (Some v) None in
    ap F (decimal_is_IsNumeral n (omega (arith, small))).1
    ∙ ap (λ t. cond t (Some n) None) (both_true (nat_le n LATEST_MOMENT) (bytes_eq (decimal n) (decimal n)) (at_least n LATEST_MOMENT small) ((bytes_eq-Decides (decimal n) (decimal n)).1 refl))

-- ---- lines

not_skipped : (ds rest : List ℕ) → list_all is_digit ds ≡ true → is_skipped (ds ++ 32 ∷ rest) ≡ false
not_skipped [] rest a = refl
not_skipped (x ∷ ds) rest a = differs x 35 (omega (arith, digit_least x (and_both (is_digit x) (list_all is_digit ds) a).0))

-- a moment, a blank and a command
pub line_is : (i : ℕ) (text : List ℕ) (command : Command) → i ≤ LATEST_MOMENT → is_utf8 (decimal i ++ 32 ∷ text) ≡ true → command_of text ≡ Some command
    → line_of (decimal i ++ 32 ∷ text) ≡ Timed i command
line_is i text command small utf8 is =
    let line = decimal i ++ 32 ∷ text in
    let digits = digits_are i (omega (arith, small)) in
    let none = digits_no_blank (decimal i) digits in
    ap (λ t. cond t (line_in line) Bad) utf8
    ∙ (ap (λ t. cond t Skipped (timed (number_in (first_part line)) (command_after (more_parts line)))) (not_skipped (decimal i) text digits)
    ∙ (ap (λ z. timed (number_in z) (command_after (more_parts line))) (first_of (decimal i) text none)
    ∙ (ap (λ z. timed z (command_after (more_parts line))) (number_of i small)
    ∙ (ap (λ z. timed (Some i) (command_after z)) (more_of (decimal i) text none)
    ∙ ap (timed (Some i)) is))))
