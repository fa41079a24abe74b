-- The fronts of JSON texts are the texts that are read without a fault.
use Rattle.std.proofs.Common.{◌≡◌, inl, inr, ℕ, zero, suc, ◌+◌, ◌-◌, ◌≤◌, List, [], ◌∷◌, ◌++◌, length, length-append, append-nil, Option, Some, None, refl, sym, ap, ap₂, ◌∙◌, subst, arith}
use Rattle.ch_base.specs.Grammar.{Byte, ◌then◌}
use Rattle.ch_base.specs.JsonTree.{Span, Tree, no_items, item, Members, no_members, member}
use Rattle.ch_base.specs.JsonTree as tree
use Rattle.ch_base.specs.JsonText.{Blanks, Value, SpellsWithin}
use Rattle.ch_json.specs.Front.{IsFront}
use Rattle.ch_json.specs.Scalars.{minus, may_end, RestOfNumber}
use Rattle.ch_json.specs.Machine.{span, Frame, in_array, in_object, Mode, value, first_item, first_key, next_key, key, colon, word, number, string, after, Outcome, go, wrong, deep, onto, onto_members, step, Goes, BehindValue, AtValue, AtColon, AtKey, Completes, AfterStep, run, begin, finish}
use Rattle.ch_json.proofs.Choice.{either_way, when_so}
use Rattle.ch_json.proofs.Strings.{string_end, string_ends, string_open}
use Rattle.ch_json.proofs.Numbers.{number_end, number_completes, number_ends, number_at_end}
use Rattle.ch_json.proofs.Steps.{step_on, step_back}

-- ---- each state can be completed

abbrev closing : List Frame → List ℕ
closing [] = []
closing (in_array from vs ∷ fs) = 93 ∷ closing fs
closing (in_object from ms k ∷ fs) = 125 ∷ closing fs

abbrev completion : Mode → List Frame → List ℕ
completion value fs = 48 ∷ closing fs
completion (first_item from) fs = 93 ∷ closing fs
completion (first_key from) fs = 125 ∷ closing fs
completion (next_key from ms) fs = 34 ∷ 34 ∷ 58 ∷ 48 ∷ 125 ∷ closing fs
completion (key from ms at q) fs = string_end q ++ (58 ∷ 48 ∷ 125 ∷ closing fs)
completion (colon from ms k) fs = 58 ∷ 48 ∷ 125 ∷ closing fs
completion (word p from c rest) fs = c ∷ (rest ++ closing fs)
completion (number from q) fs = number_end q ++ closing fs
completion (string from q) fs = string_end q ++ closing fs
completion (after v) fs = closing fs

goes_closing : (n room : ℕ) (fs : List Frame) (v : Tree) → length (closing fs) ≤ n → (w : Tree) × Goes n room fs v (closing fs) w
goes_closing n room [] v h = (v, (refl, refl))
goes_closing n room (in_array from vs ∷ fs) v h =
    let s = span from (n - length (closing fs)) in
    let k = goes_closing n (suc room) fs (tree.array (onto vs (item v no_items)) s) (omega arith) in
    (k.0, (no_items, closing fs, s, (93 ∷ closing fs, inl refl, refl), refl, omega arith, k.1))
goes_closing n room (in_object from ms name ∷ fs) v h =
    let s = span from (n - length (closing fs)) in
    let k = goes_closing n (suc room) fs (tree.object (onto_members ms (member name v no_members)) s) (omega arith) in
    (k.0, (no_members, closing fs, s, (125 ∷ closing fs, inl refl, refl), refl, omega arith, k.1))

made_closing : (n room : ℕ) (fs : List Frame) (make : Span → Tree) (from : ℕ) → length (closing fs) ≤ n → (w : Tree) × BehindValue n room fs make from (closing fs) w
made_closing n room fs make from h =
    let s = span from (n - length (closing fs)) in
    let k = goes_closing n room fs (make s) h in
    (k.0, (s, refl, omega arith, k.1))

-- a nought is a value
nought : (n room : ℕ) (fs : List Frame) → length (48 ∷ closing fs) ≤ n → (w : Tree) × AtValue n room fs (48 ∷ closing fs) w
nought n room fs h =
    let s = span (n - length (48 ∷ closing fs)) (n - length (closing fs)) in
    let k = goes_closing n room fs (tree.plain tree.number s) (omega arith) in
    (k.0, (tree.plain tree.number s, closing fs, ((omega arith, omega arith), (48 ∷ closing fs, inl refl, number_completes minus (closing fs))), k.1))

colon_closing : (n room : ℕ) (fs : List Frame) (from : ℕ) (ms : Members) (name : Span) → length (58 ∷ 48 ∷ 125 ∷ closing fs) ≤ n → (w : Tree) × AtColon n room fs from ms name (58 ∷ 48 ∷ 125 ∷ closing fs) w
colon_closing n room fs from ms name h =
    let k = nought n room (in_object from ms name ∷ fs) (omega arith) in
    (k.0, (48 ∷ 125 ∷ closing fs, (58 ∷ 48 ∷ 125 ∷ closing fs, inl refl, (48 ∷ 125 ∷ closing fs, refl, inl refl)), k.1))

completes : (n : ℕ) (m : Mode) (room : ℕ) (fs : List Frame) → length (completion m fs) ≤ n → (w : Tree) × Completes n m room fs (completion m fs) w
completes n value room fs h = let k = nought n room fs h in (k.0, (48 ∷ closing fs, inl refl, k.1))
completes n (first_item from) room fs h = let k = made_closing n (suc room) fs (tree.array no_items) from (omega arith) in (k.0, inl (closing fs, (93 ∷ closing fs, inl refl, refl), k.1))
completes n (first_key from) room fs h = let k = made_closing n (suc room) fs (tree.object no_members) from (omega arith) in (k.0, inl (closing fs, (125 ∷ closing fs, inl refl, refl), k.1))
completes n (next_key from ms) room fs h =
    let rest : List ℕ = 58 ∷ 48 ∷ 125 ∷ closing fs in
    let name = span (n - length (34 ∷ 34 ∷ rest)) (n - length rest) in
    let k = colon_closing n room fs from ms name (omega arith) in
    (k.0, (34 ∷ 34 ∷ rest, name, rest, inl refl, ((omega arith, omega arith), ([], (34 ∷ rest, refl, refl))), k.1))
completes n (key from ms at q) room fs h =
    let rest : List ℕ = 58 ∷ 48 ∷ 125 ∷ closing fs in
    let fits : length rest ≤ n = omega (arith, length-append (string_end q) rest) in
    let name = span at (n - length rest) in
    let k = colon_closing n room fs from ms name fits in
    (k.0, (name, rest, refl, omega arith, string_ends q rest, k.1))
completes n (colon from ms name) room fs h = colon_closing n room fs from ms name h
completes n (word p from c rest) room fs h = let k = made_closing n room fs (tree.plain p) from (omega (arith, length-append rest (closing fs))) in (k.0, (closing fs, refl, k.1))
completes n (number from q) room fs h =
    let k = made_closing n room fs (tree.plain tree.number) from (omega (arith, length-append (number_end q) (closing fs))) in (k.0, (closing fs, number_completes q (closing fs), k.1))
completes n (string from q) room fs h =
    let k = made_closing n room fs (tree.plain tree.string) from (omega (arith, length-append (string_end q) (closing fs))) in (k.0, (closing fs, string_ends q (closing fs), k.1))
completes n (after v) room fs h = goes_closing n room fs v h

-- ---- over whole texts

pub run_on : (n : ℕ) (o : Outcome) (at : ℕ) (t u : List ℕ) (w : Tree) → at + length (t ++ u) ≡ n → AfterStep n o (t ++ u) w → AfterStep n (run o at t) u w
unfolding run
run_on n o at [] u w size h = h
run_on n (go m room fs) at (b ∷ t) u w size h = run_on n (step m room fs at b) (at + 1) t u w (omega arith) (step_on n m room fs at b (t ++ u) w size h)
run_on n wrong at (b ∷ t) u w size h = h
run_on n deep at (b ∷ t) u w size h = h

pub run_back : (n : ℕ) (o : Outcome) (at : ℕ) (t u : List ℕ) (w : Tree) → at + length (t ++ u) ≡ n → AfterStep n (run o at t) u w → AfterStep n o (t ++ u) w
unfolding run
run_back n o at [] u w size h = h
run_back n (go m room fs) at (b ∷ t) u w size h = step_back n m room fs at b (t ++ u) w size (run_back n (step m room fs at b) (at + 1) t u w (omega arith) h)
run_back n wrong at (b ∷ t) u w size h = h
run_back n deep at (b ∷ t) u w size h = h

pub begin_on : (limit : ℕ) (t : List ℕ) (w : Tree) → SpellsWithin limit t w → AfterStep (length t) (begin limit) t w
begin_on limit t w (m, k, blanks, val, last) = (m, blanks, (w, k, val, (last, refl)))

pub begin_back : (limit : ℕ) (t : List ℕ) (w : Tree) → AfterStep (length t) (begin limit) t w → SpellsWithin limit t w
begin_back limit t w (m, blanks, (v, k, val, (last, same))) = (m, k, blanks, subst (λ y. Value (length t) limit y m k) same val, last)

abbrev pub GoesOn : Outcome → Type 0
GoesOn (go m room fs) = Unit {0}
GoesOn wrong = ⊥
GoesOn deep = ⊥

some_on : (n : ℕ) (o : Outcome) (t : List ℕ) (w : Tree) → AfterStep n o t w → GoesOn o
some_on n (go m room fs) t w h = tt
some_on n wrong t w h = h
some_on n deep t w h = h

pub front_on : (limit : ℕ) (p : List ℕ) → IsFront limit p → GoesOn (run (begin limit) 0 p)
front_on limit p (more, v, h) = some_on (length (p ++ more)) _ more v (run_on (length (p ++ more)) (begin limit) 0 p more v (omega arith) (begin_on limit (p ++ more) v h))

front_of : (limit : ℕ) (p : List ℕ) (o : Outcome) → run (begin limit) 0 p ≡ o → GoesOn o → IsFront limit p
front_of limit p (go m room fs) is h =
    let c = completion m fs in
    let n : ℕ = length (p ++ c) in
    let k = completes n m room fs (omega (arith, length-append p c)) in
    let there : AfterStep n (run (begin limit) 0 p) c k.0 = subst (λ o. AfterStep n o c k.0) (sym is) k.1 in
    (c, k.0, begin_back limit (p ++ c) k.0 (run_back n (begin limit) 0 p c k.0 (omega arith) there))
front_of limit p wrong is h = absurd h
front_of limit p deep is h = absurd h

pub front_back : (limit : ℕ) (p : List ℕ) → GoesOn (run (begin limit) 0 p) → IsFront limit p
front_back limit p h = front_of limit p (run (begin limit) 0 p) refl h

-- ---- where the text ends

no_word : (c : ℕ) (x r : List ℕ) → ◌≡◌ {A = List ℕ} [] (c ∷ (x ++ r)) → ⊥
no_word c x r e = cc

empty_blanks : (a : ℕ) (r : List ℕ) → (Blanks then Byte a) [] r → ⊥
empty_blanks a r (m, same, e) = cc

empty_value : (n room : ℕ) (v : Tree) (k : List ℕ) → Value n room v [] k → ⊥
empty_value n room (tree.plain tree.null s) k (st, e) = cc
empty_value n room (tree.plain tree.no s) k (st, e) = cc
empty_value n room (tree.plain tree.yes s) k (st, e) = cc
empty_value n room (tree.plain tree.number s) k (st, (m, inl same, h)) = let p = number_at_end minus k (subst (λ y. RestOfNumber minus y k) (sym same) h) in cc p.0
empty_value n room (tree.plain tree.number s) k (st, (m, inr e, h)) = cc
empty_value n room (tree.plain tree.string s) k (st, (cs, (m, e, h))) = cc
empty_value n zero (tree.array vs s) k h = h
empty_value n (suc room) (tree.array vs s) k (st, (m, e, h)) = cc
empty_value n zero (tree.object vs s) k h = h
empty_value n (suc room) (tree.object vs s) k (st, (m, e, h)) = cc

goes_end : (n room : ℕ) (fs : List Frame) (v w : Tree) → Goes n room fs v [] w → (fs ≡ []) × (v ≡ w)
goes_end n room [] v w (e, same) = (refl, same)
goes_end n room (in_array from vs ∷ fs) v w (no_items, r, s, h, e, f, g) = absurd (empty_blanks 93 r h)
goes_end n room (in_array from vs ∷ fs) v w (item v2 vs2, r, s, (m, k, (j, h, (i, x, z)), y, q), e, f, g) = absurd (empty_blanks 44 i (j, h, x))
goes_end n room (in_object from ms name ∷ fs) v w (no_members, r, s, h, e, f, g) = absurd (empty_blanks 125 r h)
goes_end n room (in_object from ms name ∷ fs) v w (member name2 v2 ms2, r, s, (m, j1, j2, j3, (j, h, (i, x, z)), y, q, u, o), e, f, g) = absurd (empty_blanks 44 i (j, h, x))

empty_key : (n room : ℕ) (fs : List Frame) (from : ℕ) (ms : Members) (w : Tree) → AtKey n room fs from ms [] w → ⊥
empty_key n room fs from ms w (m, name, k, same, (st, (cs, (j, e, h))), rest) = cc

abbrev AtEnd : ℕ → Mode → ℕ → List Frame → Tree → Type 0
AtEnd n m room fs w = (fs ≡ []) × (finish n (go m room []) ≡ Some w)

at_end : (n : ℕ) (m : Mode) (room : ℕ) (fs : List Frame) (w : Tree) → Completes n m room fs [] w → AtEnd n m room fs w
at_end n value room fs w (m, same, (v, k, val, g)) = absurd (empty_value n room v k (subst (λ y. Value n room v y k) same val))
at_end n (first_item from) room fs w (inl (r, h, made)) = absurd (empty_blanks 93 r h)
at_end n (first_item from) room fs w (inr (m, same, (v, k, val, g))) = absurd (empty_value n room v k (subst (λ y. Value n room v y k) same val))
at_end n (first_key from) room fs w (inl (r, h, made)) = absurd (empty_blanks 125 r h)
at_end n (first_key from) room fs w (inr h) = absurd (empty_key n room fs from no_members w h)
at_end n (next_key from ms) room fs w h = absurd (empty_key n room fs from ms w h)
at_end n (key from ms at q) room fs w (name, k, e, f, h, g) = absurd (string_open q k h)
at_end n (colon from ms name) room fs w (j, (m, same, (k, e, blanks)), h) = absurd (cc)
at_end n (word p from c rest) room fs w (r, e, made) = absurd (no_word c rest r e)
at_end n (number from q) room fs w (r, h, (s, e, f, g)) =
    let p = number_at_end q r h in
    let k = goes_end n room fs (tree.plain tree.number s) w (subst (λ y. Goes n room fs (tree.plain tree.number s) y w) p.1 g) in
    let here : s ≡ span from n = ap₂ span e (omega (arith, ap length p.1)) in
    let same : tree.plain tree.number (span from n) ≡ w = cc in
    (k.0, when_so (λ o. o ≡ Some w) (may_end q) _ None p.0 (ap Some same))
at_end n (string from q) room fs w (r, h, made) = absurd (string_open q r h)
at_end n (after v) room fs w h = let k = goes_end n room fs v w h in (k.0, ap Some k.1)

pub finish_on : (n : ℕ) (o : Outcome) (w : Tree) → AfterStep n o [] w → finish n o ≡ Some w
finish_on n (go m room fs) w h = let k = at_end n m room fs w h in subst (λ y. finish n (go m room y) ≡ Some w) (sym k.0) k.1
finish_on n wrong w h = absurd h
finish_on n deep w h = absurd h

pub finish_back : (n : ℕ) (o : Outcome) (w : Tree) → finish n o ≡ Some w → AfterStep n o [] w
finish_back n wrong w h = absurd (cc)
finish_back n deep w h = absurd (cc)
finish_back n (go m room (f ∷ fs)) w h = absurd (cc)
finish_back n (go value room []) w h = absurd (cc)
finish_back n (go (first_item from) room []) w h = absurd (cc)
finish_back n (go (first_key from) room []) w h = absurd (cc)
finish_back n (go (next_key from ms) room []) w h = absurd (cc)
finish_back n (go (key from ms at q) room []) w h = absurd (cc)
finish_back n (go (colon from ms k) room []) w h = absurd (cc)
finish_back n (go (word p from c rest) room []) w h = absurd (cc)
finish_back n (go (number from q) room []) w h =
    either_way (λ o. o ≡ Some w) (may_end q) (Some (tree.plain tree.number (span from n))) None (λ may same. ([], number_ends q [] may, (span from n, refl, omega arith, (refl, cc)))) (λ _ e. absurd (cc e)) h
finish_back n (go (string from q) room []) w h = absurd (cc)
finish_back n (go (after v) room []) w h = (refl, cc)

-- ---- the texts that are read, and their trees

-- what the bytes of a text are read as
abbrev pub read_as : ℕ → List ℕ → Option Tree
read_as limit text = finish (length text) (run (begin limit) 0 text)

pub spelled_is_read : (limit : ℕ) (text : List ℕ) (w : Tree) → SpellsWithin limit text w → read_as limit text ≡ Some w
spelled_is_read limit text w h =
    let n : ℕ = length text in
    let same : text ++ [] ≡ text = append-nil text in
    finish_on n (run (begin limit) 0 text) w (run_on n (begin limit) 0 text [] w (omega (arith, ap length same)) (subst (λ y. AfterStep n (begin limit) y w) (sym same) (begin_on limit text w h)))

pub read_is_spelled : (limit : ℕ) (text : List ℕ) (w : Tree) → read_as limit text ≡ Some w → SpellsWithin limit text w
read_is_spelled limit text w h =
    let n : ℕ = length text in
    let same : text ++ [] ≡ text = append-nil text in
    begin_back limit text w (subst (λ y. AfterStep n (begin limit) y w) same (run_back n (begin limit) 0 text [] w (omega (arith, ap length same)) (finish_back n (run (begin limit) 0 text) w h)))

-- a text spells at most one tree
pub one_tree : (limit : ℕ) (text : List ℕ) (v w : Tree) → SpellsWithin limit text v → SpellsWithin limit text w → v ≡ w
one_tree limit text v w h k =
    let same : Some v ≡ Some w = sym (spelled_is_read limit text v h) ∙ spelled_is_read limit text w k in
    cc
