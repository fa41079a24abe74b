-- Where a text is at fault.
use Rattle.std.proofs.lemmas.Bool.{eqb-true, cases_lt}
use Rattle.std.proofs.lemmas.List.{take_more, length-take-le, take-append-drop}
use Rattle.std.proofs.Common.{◌==◌, take-add, take_all, ◌≡◌, ◌⊎◌, inl, inr, ℕ, zero, suc, ◌+◌, ◌-◌, ◌<◌, ◌≤◌, List, [], ◌∷◌, ◌++◌, length, append_assoc, take, drop, get_or, Bool, true, false, cond, Some, None, refl, sym, ap, ◌∙◌, subst, arith}
use Rattle.ch_base.specs.JsonTree.{Plain, Tree, no_items, Members}
use Rattle.ch_base.specs.JsonTree as tree
use Rattle.ch_base.specs.JsonText.{SpellsWithin, is_blank}
use Rattle.ch_base.specs.declared.limits.TheConstants.{MAX_DEPTH}
use Rattle.ch_json.specs.Front.{IsFront, IsLongestFront, IsTooDeep, IsSyntaxFault}
use Rattle.ch_json.specs.Scalars.{InNumber, minus, NumberStep, more, stop, number_step, StringStep, ends, on, fault, string_step, may_end}
use Rattle.ch_json.specs.Machine.{span, Frame, in_array, in_object, Mode, value, first_item, first_key, next_key, key, colon, word, number, string, after, Outcome, go, wrong, deep, open_bracket, start_number, start, after_step, in_word, string_outcome, key_outcome, number_outcome, step, run, begin, finish}
use Rattle.ch_json.proofs.Fronts.{GoesOn, front_on, front_back, spelled_is_read, read_as}

-- ---- with room for one bracket more

abbrev Raised : Outcome → Outcome → Type 0
Raised (go m room fs) o = o ≡ go m (suc room) fs
Raised wrong o = o ≡ wrong
Raised deep o = GoesOn o

both : (c : Bool) (x y u v : Outcome) → Raised x u → Raised y v → Raised (cond c x y) (cond c u v)
both true x y u v h k = h
both false x y u v h k = k

open_raised : (room : ℕ) (m : Mode) (fs : List Frame) → Raised (open_bracket room m fs) (open_bracket (suc room) m fs)
open_raised zero m fs = tt
open_raised (suc room) m fs = refl

number_raised : (room at : ℕ) (fs : List Frame) (x : NumberStep) → Raised (start_number room at fs x) (start_number (suc room) at fs x)
number_raised room at fs (more q) = refl
number_raised room at fs stop = refl

start_raised : (room : ℕ) (fs : List Frame) (at b : ℕ) → Raised (start room fs at b) (start (suc room) fs at b)
unfolding start
start_raised room fs at b =
    both (b == 34) _ _ _ _ refl (both (b == 91) _ _ _ _ (open_raised room (first_item at) fs) (both (b == 123) _ _ _ _ (open_raised room (first_key at) fs)
    (both (b == 110) _ _ _ _ refl (both (b == 102) _ _ _ _ refl (both (b == 116) _ _ _ _ refl (both (b == 45) _ _ _ _ refl (number_raised room at fs (number_step minus b))))))))

after_raised : (v : Tree) (room : ℕ) (fs : List Frame) (at b : ℕ) → Raised (after_step v room fs at b) (after_step v (suc room) fs at b)
unfolding after_step
after_raised v room [] at b = both (is_blank b) _ _ _ _ refl refl
after_raised v room (in_array from vs ∷ fs) at b = both (is_blank b) _ _ _ _ refl (both (b == 44) _ _ _ _ refl (both (b == 93) _ _ _ _ refl refl))
after_raised v room (in_object from ms k ∷ fs) at b = both (is_blank b) _ _ _ _ refl (both (b == 44) _ _ _ _ refl (both (b == 125) _ _ _ _ refl refl))

word_raised : (p : Plain) (from at : ℕ) (rest : List ℕ) (room : ℕ) (fs : List Frame) → Raised (in_word p from at rest room fs) (in_word p from at rest (suc room) fs)
word_raised p from at [] room fs = refl
word_raised p from at (c ∷ rest) room fs = refl

key_raised : (from : ℕ) (ms : Members) (at_key at room : ℕ) (fs : List Frame) (x : StringStep) → Raised (key_outcome from ms at_key at room fs x) (key_outcome from ms at_key at (suc room) fs x)
key_raised from ms at_key at room fs ends = refl
key_raised from ms at_key at room fs (on q) = refl
key_raised from ms at_key at room fs fault = refl

string_raised : (from at room : ℕ) (fs : List Frame) (x : StringStep) → Raised (string_outcome from at room fs x) (string_outcome from at (suc room) fs x)
string_raised from at room fs ends = refl
string_raised from at room fs (on q) = refl
string_raised from at room fs fault = refl

outcome_raised : (q : InNumber) (from at room : ℕ) (fs : List Frame) (b : ℕ) (x : NumberStep) → Raised (number_outcome q from at room fs b x) (number_outcome q from at (suc room) fs b x)
outcome_raised q from at room fs b (more next) = refl
outcome_raised q from at room fs b stop = both (may_end q) _ _ _ _ (after_raised (tree.plain tree.number (span from at)) room fs at b) refl

step_raised : (m : Mode) (room : ℕ) (fs : List Frame) (at b : ℕ) → Raised (step m room fs at b) (step m (suc room) fs at b)
unfolding step
step_raised value room fs at b = both (is_blank b) _ _ _ _ refl (start_raised room fs at b)
step_raised (first_item from) room fs at b = both (is_blank b) _ _ _ _ refl (both (b == 93) _ _ _ _ refl (start_raised room (in_array from no_items ∷ fs) at b))
step_raised (first_key from) room fs at b = both (is_blank b) _ _ _ _ refl (both (b == 125) _ _ _ _ refl (both (b == 34) _ _ _ _ refl refl))
step_raised (next_key from ms) room fs at b = both (is_blank b) _ _ _ _ refl (both (b == 34) _ _ _ _ refl refl)
step_raised (key from ms at_key q) room fs at b = key_raised from ms at_key at room fs (string_step q b)
step_raised (colon from ms k) room fs at b = both (is_blank b) _ _ _ _ refl (both (b == 58) _ _ _ _ refl refl)
step_raised (word p from c rest) room fs at b = both (b == c) _ _ _ _ (word_raised p from at rest room fs) refl
step_raised (number from q) room fs at b = outcome_raised q from at room fs b (number_step q b)
step_raised (string from q) room fs at b = string_raised from at room fs (string_step q b)
step_raised (after v) room fs at b = after_raised v room fs at b

-- ---- a bracket too deep is a bracket

abbrev Opens : ℕ → Outcome → Type 0
Opens b (go m room fs) = Unit {0}
Opens b wrong = Unit {0}
Opens b deep = (b ≡ 91) ⊎ (b ≡ 123)

opens_cond : (b : ℕ) (c : Bool) (x y : Outcome) → (c ≡ true → Opens b x) → Opens b y → Opens b (cond c x y)
opens_cond b true x y f g = f refl
opens_cond b false x y f g = g

bracket_opens : (b room : ℕ) (m : Mode) (fs : List Frame) → (b ≡ 91) ⊎ (b ≡ 123) → Opens b (open_bracket room m fs)
bracket_opens b zero m fs h = h
bracket_opens b (suc room) m fs h = tt

number_opens : (b room at : ℕ) (fs : List Frame) (x : NumberStep) → Opens b (start_number room at fs x)
number_opens b room at fs (more q) = tt
number_opens b room at fs stop = tt

start_opens : (room : ℕ) (fs : List Frame) (at b : ℕ) → Opens b (start room fs at b)
unfolding start
start_opens room fs at b =
    opens_cond b (b == 34) _ _ (λ _. tt)
    (opens_cond b (b == 91) _ _ (λ e. bracket_opens b room (first_item at) fs (inl (eqb-true b 91 e)))
    (opens_cond b (b == 123) _ _ (λ e. bracket_opens b room (first_key at) fs (inr (eqb-true b 123 e)))
    (opens_cond b (b == 110) _ _ (λ _. tt) (opens_cond b (b == 102) _ _ (λ _. tt) (opens_cond b (b == 116) _ _ (λ _. tt)
    (opens_cond b (b == 45) _ _ (λ _. tt) (number_opens b room at fs (number_step minus b))))))))

after_opens : (v : Tree) (room : ℕ) (fs : List Frame) (at b : ℕ) → Opens b (after_step v room fs at b)
unfolding after_step
after_opens v room [] at b = opens_cond b (is_blank b) _ _ (λ _. tt) tt
after_opens v room (in_array from vs ∷ fs) at b = opens_cond b (is_blank b) _ _ (λ _. tt) (opens_cond b (b == 44) _ _ (λ _. tt) (opens_cond b (b == 93) _ _ (λ _. tt) tt))
after_opens v room (in_object from ms k ∷ fs) at b = opens_cond b (is_blank b) _ _ (λ _. tt) (opens_cond b (b == 44) _ _ (λ _. tt) (opens_cond b (b == 125) _ _ (λ _. tt) tt))

word_opens : (b : ℕ) (p : Plain) (from at : ℕ) (rest : List ℕ) (room : ℕ) (fs : List Frame) → Opens b (in_word p from at rest room fs)
word_opens b p from at [] room fs = tt
word_opens b p from at (c ∷ rest) room fs = tt

key_opens : (b from : ℕ) (ms : Members) (at_key at room : ℕ) (fs : List Frame) (x : StringStep) → Opens b (key_outcome from ms at_key at room fs x)
key_opens b from ms at_key at room fs ends = tt
key_opens b from ms at_key at room fs (on q) = tt
key_opens b from ms at_key at room fs fault = tt

string_opens : (b from at room : ℕ) (fs : List Frame) (x : StringStep) → Opens b (string_outcome from at room fs x)
string_opens b from at room fs ends = tt
string_opens b from at room fs (on q) = tt
string_opens b from at room fs fault = tt

outcome_opens : (q : InNumber) (from at room : ℕ) (fs : List Frame) (b : ℕ) (x : NumberStep) → Opens b (number_outcome q from at room fs b x)
outcome_opens q from at room fs b (more next) = tt
outcome_opens q from at room fs b stop = opens_cond b (may_end q) _ _ (λ _. after_opens (tree.plain tree.number (span from at)) room fs at b) tt

step_opens : (m : Mode) (room : ℕ) (fs : List Frame) (at b : ℕ) → Opens b (step m room fs at b)
unfolding step
step_opens value room fs at b = opens_cond b (is_blank b) _ _ (λ _. tt) (start_opens room fs at b)
step_opens (first_item from) room fs at b = opens_cond b (is_blank b) _ _ (λ _. tt) (opens_cond b (b == 93) _ _ (λ _. tt) (start_opens room (in_array from no_items ∷ fs) at b))
step_opens (first_key from) room fs at b = opens_cond b (is_blank b) _ _ (λ _. tt) (opens_cond b (b == 125) _ _ (λ _. tt) (opens_cond b (b == 34) _ _ (λ _. tt) tt))
step_opens (next_key from ms) room fs at b = opens_cond b (is_blank b) _ _ (λ _. tt) (opens_cond b (b == 34) _ _ (λ _. tt) tt)
step_opens (key from ms at_key q) room fs at b = key_opens b from ms at_key at room fs (string_step q b)
step_opens (colon from ms k) room fs at b = opens_cond b (is_blank b) _ _ (λ _. tt) (opens_cond b (b == 58) _ _ (λ _. tt) tt)
step_opens (word p from c rest) room fs at b = opens_cond b (b == c) _ _ (λ _. word_opens b p from at rest room fs) tt
step_opens (number from q) room fs at b = outcome_opens q from at room fs b (number_step q b)
step_opens (string from q) room fs at b = string_opens b from at room fs (string_step q b)
step_opens (after v) room fs at b = after_opens v room fs at b

-- ---- one byte more

abbrev pub next : Outcome → ℕ → ℕ → Outcome
next (go m room fs) at b = step m room fs at b
next wrong at b = wrong
next deep at b = deep

pub run_more : (o : Outcome) (at : ℕ) (t : List ℕ) (b : ℕ) → run o at (t ++ b ∷ []) ≡ next (run o at t) (at + length t) b
unfolding run
run_more (go m room fs) at [] b = ap (λ k. step m room fs k b) (omega arith)
run_more wrong at [] b = refl
run_more deep at [] b = refl
run_more (go m room fs) at (x ∷ t) b = run_more (step m room fs at x) (at + 1) t b ∙ ap (λ k. next (run (step m room fs at x) (at + 1) t) k b) (omega arith)
run_more wrong at (x ∷ t) b = refl
run_more deep at (x ∷ t) b = refl

-- read with one more open bracket allowed
run_raised : (o p : Outcome) (at : ℕ) (t : List ℕ) → Raised o p → GoesOn (run o at t) ⊎ (run o at t ≡ wrong) → Raised (run o at t) (run p at t)
unfolding run
run_raised o p at [] h k = h
run_raised (go m room fs) p at (b ∷ t) h k =
    subst (λ x. Raised (run (step m room fs at b) (at + 1) t) (run x at (b ∷ t))) (sym h) (run_raised (step m room fs at b) (step m (suc room) fs at b) (at + 1) t (step_raised m room fs at b) k)
run_raised wrong p at (b ∷ t) h k = subst (λ x. run x at (b ∷ t) ≡ wrong) (sym h) refl
run_raised deep p at (b ∷ t) h (inl k) = absurd k
run_raised deep p at (b ∷ t) h (inr k) = absurd (cc)

-- ---- the faults

front_shorter : (limit : ℕ) (p q : List ℕ) → IsFront limit (p ++ q) → IsFront limit p
front_shorter limit p q (more_, v, h) = (q ++ more_, v, subst (λ y. SpellsWithin limit y v) (append_assoc p q more_) h)

-- a prefix of a prefix
front_take : (limit : ℕ) (text : List ℕ) (a n : ℕ) → a ≤ n → IsFront limit (take n text) → IsFront limit (take a text)
front_take limit text a n le h =
    let split : take n text ≡ take a text ++ take (n - a) (drop a text) = let e : a + (n - a) ≡ n = omega arith in sym (ap (λ k. take k text) e) ∙ take-add a (n - a) text in
    front_shorter limit (take a text) (take (n - a) (drop a text)) (subst (IsFront limit) split h)

pub front_whole : (limit : ℕ) (text : List ℕ) (n : ℕ) (v : Tree) → SpellsWithin limit text v → IsFront limit (take n text)
front_whole limit text n v h = (drop n text, v, subst (λ y. SpellsWithin limit y v) (sym (take-append-drop n text)) h)

pub read_more : (limit : ℕ) (text : List ℕ) (at : ℕ) → at < length text → run (begin limit) 0 (take (at + 1) text) ≡ next (run (begin limit) 0 (take at text)) at (get_or text at 0)
read_more limit text at h =
    let e : take (at + 1) text ≡ take at text ++ get_or text at 0 ∷ [] = take_more text at 0 h in
    let len : 0 + length (take at text) ≡ at = omega (arith, length-take-le at text (omega arith)) in
    ap (run (begin limit) 0) e ∙ run_more (begin limit) 0 (take at text) (get_or text at 0) ∙ ap (λ k. next (run (begin limit) 0 (take at text)) k (get_or text at 0)) len

goes : (o : Outcome) (m : Mode) (room : ℕ) (fs : List Frame) → o ≡ go m room fs → GoesOn o
goes o m room fs e = subst GoesOn (sym e) tt

-- ---- there is one longest front

-- the front at n is the longest, and so is that at `at`
same_length : (limit : ℕ) (text : List ℕ) (at n : ℕ) → IsFront limit (take at text) → (IsFront limit (take (at + 1) text) → ⊥) → IsFront limit (take n text) → (IsFront limit (take (n + 1) text) → ⊥) → n ≡ at
same_length limit text at n front end front_n end_n =
    elim (cases_lt n at) [
      | inl below ↦ absurd (end_n (front_take limit text (n + 1) at (omega arith) front))
      | inr above ↦ elim (cases_lt at n) [ inl past ↦ absurd (end (front_take limit text (at + 1) n (omega arith) front_n)) | inr equal ↦ omega arith ]
    ]

pub one_longest : (text : List ℕ) (a b : ℕ) → IsLongestFront text a → IsLongestFront text b → a ≡ b
one_longest text a b h k =
    elim (cases_lt a b) [
      | inl below ↦ absurd (h.longest b below k.within k.front)
      | inr above ↦ elim (cases_lt b a) [ inl past ↦ absurd (k.longest a past h.within h.front) | inr equal ↦ omega arith ]
    ]

pub one_too_deep : (text : List ℕ) (a b : ℕ) → IsTooDeep text a → IsTooDeep text b → a ≡ b
one_too_deep text a b h k = same_length MAX_DEPTH text b a k.before k.here h.before h.here

pub syntax_at : (text : List ℕ) (at : ℕ) (m : Mode) (room : ℕ) (fs : List Frame) → at < length text → run (begin MAX_DEPTH) 0 (take at text) ≡ go m room fs → step m room fs at (get_or text at 0) ≡ wrong → IsSyntaxFault text at
syntax_at text at m room fs inside before here =
    let stops : run (begin MAX_DEPTH) 0 (take (at + 1) text) ≡ wrong = read_more MAX_DEPTH text at inside ∙ ap (λ o. next o at (get_or text at 0)) before ∙ here in
    let no_front : IsFront MAX_DEPTH (take (at + 1) text) → ⊥ = λ f. subst GoesOn stops (front_on MAX_DEPTH (take (at + 1) text) f) in
    record {
      none = λ v h. no_front (front_whole MAX_DEPTH text (at + 1) v h);
      longest = record {
        within = omega arith;
        front = front_back MAX_DEPTH (take at text) (goes _ m room fs before);
        longest = λ n below le f. no_front (front_take MAX_DEPTH text (at + 1) n (omega arith) f);
      };
      not_deep = λ n d.
          let same : n ≡ at = same_length MAX_DEPTH text at n (front_back MAX_DEPTH (take at text) (goes _ m room fs before)) no_front d.before d.here in
          let raised : Raised (run (begin MAX_DEPTH) 0 (take (at + 1) text)) (run (begin (suc MAX_DEPTH)) 0 (take (at + 1) text)) =
          run_raised (begin MAX_DEPTH) (begin (suc MAX_DEPTH)) 0 (take (at + 1) text) refl (inr stops) in
          let deeper : run (begin (suc MAX_DEPTH)) 0 (take (at + 1) text) ≡ wrong = subst (λ o. Raised o (run (begin (suc MAX_DEPTH)) 0 (take (at + 1) text))) stops raised in
          subst GoesOn deeper (front_on (suc MAX_DEPTH) (take (at + 1) text) (subst (λ k. IsFront (suc MAX_DEPTH) (take (k + 1) text)) same d.deeper));
    }

pub syntax_at_end : (text : List ℕ) (m : Mode) (room : ℕ) (fs : List Frame) → run (begin MAX_DEPTH) 0 text ≡ go m room fs → finish (length text) (go m room fs) ≡ None → IsSyntaxFault text (length text)
syntax_at_end text m room fs before here =
    record {
      none = λ v h.
          let found : read_as MAX_DEPTH text ≡ Some v = spelled_is_read MAX_DEPTH text v h in
          let none : read_as MAX_DEPTH text ≡ None = ap (finish (length text)) before ∙ here in
          absurd (cc);
      longest = record {
        within = omega arith;
        front = subst (IsFront MAX_DEPTH) (sym (take_all (length text) text (omega arith))) (front_back MAX_DEPTH text (goes _ m room fs before));
        longest = λ n below le f. absurd (omega arith);
      };
      not_deep = λ n d.
          let whole : IsFront MAX_DEPTH (take (length text) text) = subst (IsFront MAX_DEPTH) (sym (take_all (length text) text (omega arith))) (front_back MAX_DEPTH text (goes _ m room fs before)) in
          d.here (front_take MAX_DEPTH text (n + 1) (length text) (omega (arith, d.inside)) whole);
    }

pub deep_at : (text : List ℕ) (at : ℕ) (m : Mode) (room : ℕ) (fs : List Frame) → at < length text → run (begin MAX_DEPTH) 0 (take at text) ≡ go m room fs → step m room fs at (get_or text at 0) ≡ deep → IsTooDeep text at
deep_at text at m room fs inside before here =
    let stops : run (begin MAX_DEPTH) 0 (take (at + 1) text) ≡ deep = read_more MAX_DEPTH text at inside ∙ ap (λ o. next o at (get_or text at 0)) before ∙ here in
    let raised : Raised (run (begin MAX_DEPTH) 0 (take at text)) (run (begin (suc MAX_DEPTH)) 0 (take at text)) =
    run_raised (begin MAX_DEPTH) (begin (suc MAX_DEPTH)) 0 (take at text) refl (inl (goes _ m room fs before)) in
    let above : run (begin (suc MAX_DEPTH)) 0 (take at text) ≡ go m (suc room) fs = subst (λ o. Raised o (run (begin (suc MAX_DEPTH)) 0 (take at text))) before raised in
    let higher : GoesOn (step m (suc room) fs at (get_or text at 0)) = subst (λ o. Raised o (step m (suc room) fs at (get_or text at 0))) here (step_raised m room fs at (get_or text at 0)) in
    let there : run (begin (suc MAX_DEPTH)) 0 (take (at + 1) text) ≡ step m (suc room) fs at (get_or text at 0) =
    read_more (suc MAX_DEPTH) text at inside ∙ ap (λ o. next o at (get_or text at 0)) above in
    record {
      inside = inside;
      bracket = subst (Opens (get_or text at 0)) here (step_opens m room fs at (get_or text at 0));
      before = front_back MAX_DEPTH (take at text) (goes _ m room fs before);
      here = λ f. subst GoesOn stops (front_on MAX_DEPTH (take (at + 1) text) f);
      deeper = front_back (suc MAX_DEPTH) (take (at + 1) text) (subst GoesOn (sym there) higher);
    }
