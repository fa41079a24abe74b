-- How the reader comes to a line.
use Rattle.std.proofs.Common.{◌≡◌, ℕ, nat_eq, Bool, true, false, ◌||◌, ◌+◌, ◌<◌, ◌≤◌, ◌∙◌, ap, sym, refl, subst, List, [], ◌∷◌, ◌++◌, length, append_assoc, append-nil, length-append, arith}
use Rattle.std.specs.Prelude.{Option, MatchBool}
use Rattle.std.proofs.lemmas.List.Folds.{list_any-append}
use Rattle.std.specs.Io.KnownBytes.{Consumes, IsAtEnd}
use Rattle.ch_io.proofs.Known.{Consumes-then, Consumes-none}
use Rattle.ch_transcript.specs.Lines.{has_line_end}
use Rattle.ch_transcript.specs.declared.limits.TheConstants.{LONGEST_LINE}
use Rattle.ch_replay.specs.Reading.{TakesToEnd, TakesAll, ReadsLine}
use Rattle.ch_replay.specs.declared.line_reader.Next.TheVariants.{Whole, Last, Ended, Long, Failed, Memory}

-- the bytes that were read so far, with those held before, are the line so far and those held now
pub record Held (left_old left_now : Option (List ℕ)) (limit_old limit_now : ℕ) (old line now : List ℕ) : Type 0 where
  pub bytes : List ℕ
  pub consumed : Consumes left_old left_now bytes
  pub limit : length bytes + limit_now ≤ limit_old
  pub held : old ++ bytes ≡ line ++ now
  pub none : has_line_end line ≡ false

pub Held-begin : (left : Option (List ℕ)) (limit : ℕ) (old : List ℕ) → Held left left limit limit old [] old
Held-begin left limit old = record {
  bytes = [];
  consumed = Consumes-none left;
  limit = omega arith;
  held = append-nil old;
  none = refl;
}

-- no line end stands in two parts
pub none_in_both : (x y : List ℕ) → has_line_end x ≡ false → has_line_end y ≡ false → has_line_end (x ++ y) ≡ false
none_in_both x y p q = list_any-append (λ b. nat_eq b 10) x y ∙ ap (λ b. b || has_line_end y) p ∙ q

pub Held-all : {lo ln : Option (List ℕ)} {mo mn : ℕ} {old line now new line' : List ℕ} → Held lo ln mo mn old line now → TakesAll now new line line' → Held lo ln mo mn old line' []
Held-all {line} {now} {line'} h t = record {
  bytes = h.bytes;
  consumed = h.consumed;
  limit = h.limit;
  held = h.held ∙ sym t.line ∙ sym (append-nil line');
  none = subst (λ (x : List ℕ). has_line_end x ≡ false) (sym t.line) (none_in_both line now h.none t.none);
}

pub Held-read : {lo ln lk : Option (List ℕ)} {mo mn mk : ℕ} {old line b : List ℕ} → Held lo ln mo mn old line [] → Consumes ln lk b → length b + mk ≤ mn → Held lo lk mo mk old line b
Held-read {lo} {ln} {lk} {mk} {old} {line} {b} h c m = record {
  bytes = h.bytes ++ b;
  consumed = Consumes-then lo ln lk h.bytes b h.consumed c;
  limit = omega (arith, h.limit, m, length-append h.bytes b);
  held = sym (append_assoc old h.bytes b) ∙ ap (λ z. z ++ b) (h.held ∙ append-nil line);
  none = h.none;
}

pub Held-whole : {lo ln : Option (List ℕ)} {mo mn : ℕ} {old line now new line' : List ℕ} → Held lo ln mo mn old line now → TakesToEnd now new line line' → length line' ≤ LONGEST_LINE → ReadsLine lo ln mo mn old Whole line' new
Held-whole {line} {new} h t short = record {
  bytes = h.bytes;
  consumed = h.consumed;
  limit = h.limit;
  gives = (
    h.held ∙ ap (λ z. line ++ z) t.split ∙ sym (append_assoc line t.front (10 ∷ new)) ∙ ap (λ z. z ++ 10 ∷ new) (sym t.line),
    subst (λ (x : List ℕ). has_line_end x ≡ false) (sym t.line) (none_in_both line t.front h.none t.none_before),
    short,
  );
  ended = tt;
}

pub Held-long : {lo ln : Option (List ℕ)} {mo mn : ℕ} {old line now line' : List ℕ} (new : List ℕ) (is_whole : Bool) → Held lo ln mo mn old line now
    → MatchBool is_whole (TakesToEnd now new line line') (TakesAll now new line line') → LONGEST_LINE < length line' → ReadsLine lo ln mo mn old Long line' new
unfolding Held-all
Held-long {line} new true h t long =
    record {
      bytes = h.bytes;
      consumed = h.consumed;
      limit = h.limit;
      gives = (
        (10 ∷ new, h.held ∙ ap (λ z. line ++ z) t.split ∙ sym (append_assoc line t.front (10 ∷ new)) ∙ ap (λ z. z ++ 10 ∷ new) (sym t.line)),
        subst (λ (x : List ℕ). has_line_end x ≡ false) (sym t.line) (none_in_both line t.front h.none t.none_before),
        long,
      );
      ended = tt;
    }
Held-long {line} {now} {line'} new false h t long =
    let all = Held-all h t in
    record {
      bytes = h.bytes;
      consumed = h.consumed;
      limit = h.limit;
      gives = (([], all.held), all.none, long);
      ended = tt;
    }

pub Held-memory : {lo ln : Option (List ℕ)} {mo mn : ℕ} {old line now line' new : List ℕ} → Held lo ln mo mn old line now → ReadsLine lo ln mo mn old Memory line' new
Held-memory h = record { bytes = h.bytes; consumed = h.consumed; limit = h.limit; gives = tt; ended = tt }

-- after a read that gave nothing
pub Held-still : {lo ln lk : Option (List ℕ)} {mo mn mk : ℕ} {old line new : List ℕ} → Held lo ln mo mn old line [] → new ≡ [] → Consumes ln lk new → length new + mk ≤ mn → Held lo lk mo mk old line []
Held-still {lo} {ln} {lk} {mo} {mn} {mk} {old} {line} h none c m =
    let P : List ℕ → Type 0 = λ x. Held lo lk mo mk old line x in subst P none (Held-read h c m)

pub Held-failed : {lo ln : Option (List ℕ)} {mo mn : ℕ} {old line new : List ℕ} → Held lo ln mo mn old line [] → ReadsLine lo ln mo mn old Failed line new
Held-failed {line} h = record { bytes = h.bytes; consumed = h.consumed; limit = h.limit; gives = (h.held ∙ append-nil line, h.none); ended = tt }

pub Held-ended : {lo ln : Option (List ℕ)} {mo mn : ℕ} {old line new : List ℕ} → Held lo ln mo mn old line [] → line ≡ [] → IsAtEnd ln → ReadsLine lo ln mo mn old Ended line new
Held-ended {line} h none end = record { bytes = h.bytes; consumed = h.consumed; limit = h.limit; gives = h.held ∙ append-nil line ∙ none; ended = end }

pub Held-last : {lo ln : Option (List ℕ)} {mo mn : ℕ} {old line new : List ℕ} → Held lo ln mo mn old line [] → length line ≤ LONGEST_LINE → 0 < length line → IsAtEnd ln → ReadsLine lo ln mo mn old Last line new
Held-last {line} h short some end = record { bytes = h.bytes; consumed = h.consumed; limit = h.limit; gives = (h.held ∙ append-nil line, h.none, short, some); ended = end }

pub Held-part : {lo ln : Option (List ℕ)} {mo mn : ℕ} {old line now line' : List ℕ} (new : List ℕ) (is_whole : Bool) → is_whole ≡ false → Held lo ln mo mn old line now
    → MatchBool is_whole (TakesToEnd now new line line') (TakesAll now new line line') → Held lo ln mo mn old line' []
Held-part new true is h t = absurd (cc)
Held-part new false is h t = Held-all h t

pub Held-given : {lo ln : Option (List ℕ)} {mo mn : ℕ} {old line now line' : List ℕ} (new : List ℕ) (is_whole : Bool) → is_whole ≡ true → Held lo ln mo mn old line now
    → MatchBool is_whole (TakesToEnd now new line line') (TakesAll now new line line') → length line' ≤ LONGEST_LINE → ReadsLine lo ln mo mn old Whole line' new
Held-given new true is h t short = Held-whole h t short
Held-given new false is h t short = absurd (cc)
