-- Reading a byte at a time. Only private clauses cite it.
use Rattle.std.specs.Prelude.{Option, Some, None, ◌≡◌, ◌⊎◌, ℕ, zero, suc, ◌+◌, List, [], ◌∷◌, ◌++◌, length, cond, ◌==◌}
use Rattle.ch_base.specs.Grammar.{Byte, ◌then◌}
use Rattle.ch_base.specs.JsonTree.{Span, Plain, Tree, Items, no_items, item, Members, no_members, member}
use Rattle.ch_base.specs.JsonTree as tree
use Rattle.ch_base.specs.JsonText.{is_blank, Blanks, IsSpanOf, String, Value, MoreItems, MoreMembers}
use Rattle.ch_json.specs.Scalars.{InString, chars, StringStep, ends, on, fault, string_step, RestOfString, InNumber, minus, NumberStep, more, stop, number_step, may_end, RestOfNumber}

abbrev pub span : ℕ → ℕ → Span
span a b = record { from = a; to = b }

-- An open bracket: where it stands, and what it has so far, the newest first; an object's key whose value comes.
pub data Frame : Type 0 where
  in_array : ℕ → Items → Frame
  in_object : ℕ → Members → Span → Frame

-- what the next byte may be part of
pub data Mode : Type 0 where
  value : Mode
  first_item : ℕ → Mode
  first_key : ℕ → Mode
  next_key : ℕ → Members → Mode
  key : ℕ → Members → ℕ → InString → Mode
  colon : ℕ → Members → Span → Mode
  word : Plain → ℕ → ℕ → List ℕ → Mode
  number : ℕ → InNumber → Mode
  string : ℕ → InString → Mode
  after : Tree → Mode

pub data Outcome : Type 0 where
  go : Mode → ℕ → List Frame → Outcome
  wrong : Outcome
  deep : Outcome

-- the first ones back in order, and then the others
abbrev pub onto : Items → Items → Items
onto no_items others = others
onto (item v vs) others = onto vs (item v others)

abbrev pub onto_members : Members → Members → Members
onto_members no_members others = others
onto_members (member k v ms) others = onto_members ms (member k v others)

abbrev pub open_bracket : ℕ → Mode → List Frame → Outcome
open_bracket zero m fs = deep
open_bracket (suc room) m fs = go m room fs

abbrev pub start_number : ℕ → ℕ → List Frame → NumberStep → Outcome
start_number room at fs (more q) = go (number at q) room fs
start_number room at fs stop = wrong

-- the byte b, at place `at`, begins a value
unfoldable pub start : ℕ → List Frame → ℕ → ℕ → Outcome
start room fs at b =
    cond (b == 34) (go (string at chars) room fs)
    (cond (b == 91) (open_bracket room (first_item at) fs)
    (cond (b == 123) (open_bracket room (first_key at) fs)
    (cond (b == 110) (go (word tree.null at 117 (108 ∷ 108 ∷ [])) room fs)
    (cond (b == 102) (go (word tree.no at 97 (108 ∷ 115 ∷ 101 ∷ [])) room fs)
    (cond (b == 116) (go (word tree.yes at 114 (117 ∷ 101 ∷ [])) room fs)
    (cond (b == 45) (go (number at minus) room fs) (start_number room at fs (number_step minus b))))))))

-- the byte b, at place `at`, stands behind the value v
unfoldable pub after_step : Tree → ℕ → List Frame → ℕ → ℕ → Outcome
after_step v room [] at b = cond (is_blank b) (go (after v) room []) wrong
after_step v room (in_array from vs ∷ fs) at b =
    cond (is_blank b) (go (after v) room (in_array from vs ∷ fs))
    (cond (b == 44) (go value room (in_array from (item v vs) ∷ fs)) (cond (b == 93) (go (after (tree.array (onto vs (item v no_items)) (span from (at + 1)))) (suc room) fs) wrong))
after_step v room (in_object from ms k ∷ fs) at b =
    cond (is_blank b) (go (after v) room (in_object from ms k ∷ fs))
    (cond (b == 44) (go (next_key from (member k v ms)) room fs)
    (cond (b == 125) (go (after (tree.object (onto_members ms (member k v no_members)) (span from (at + 1)))) (suc room) fs) wrong))

abbrev pub in_word : Plain → ℕ → ℕ → List ℕ → ℕ → List Frame → Outcome
in_word p from at [] room fs = go (after (tree.plain p (span from (at + 1)))) room fs
in_word p from at (c ∷ rest) room fs = go (word p from c rest) room fs

abbrev pub string_outcome : ℕ → ℕ → ℕ → List Frame → StringStep → Outcome
string_outcome from at room fs ends = go (after (tree.plain tree.string (span from (at + 1)))) room fs
string_outcome from at room fs (on q) = go (string from q) room fs
string_outcome from at room fs fault = wrong

abbrev pub key_outcome : ℕ → Members → ℕ → ℕ → ℕ → List Frame → StringStep → Outcome
key_outcome from ms at_key at room fs ends = go (colon from ms (span at_key (at + 1))) room fs
key_outcome from ms at_key at room fs (on q) = go (key from ms at_key q) room fs
key_outcome from ms at_key at room fs fault = wrong

abbrev pub number_outcome : InNumber → ℕ → ℕ → ℕ → List Frame → ℕ → NumberStep → Outcome
number_outcome q from at room fs b (more next) = go (number from next) room fs
number_outcome q from at room fs b stop = cond (may_end q) (after_step (tree.plain tree.number (span from at)) room fs at b) wrong

unfoldable pub step : Mode → ℕ → List Frame → ℕ → ℕ → Outcome
step value room fs at b = cond (is_blank b) (go value room fs) (start room fs at b)
step (first_item from) room fs at b =
    cond (is_blank b) (go (first_item from) room fs) (cond (b == 93) (go (after (tree.array no_items (span from (at + 1)))) (suc room) fs) (start room (in_array from no_items ∷ fs) at b))
step (first_key from) room fs at b =
    cond (is_blank b) (go (first_key from) room fs)
    (cond (b == 125) (go (after (tree.object no_members (span from (at + 1)))) (suc room) fs) (cond (b == 34) (go (key from no_members at chars) room fs) wrong))
step (next_key from ms) room fs at b = cond (is_blank b) (go (next_key from ms) room fs) (cond (b == 34) (go (key from ms at chars) room fs) wrong)
step (key from ms at_key q) room fs at b = key_outcome from ms at_key at room fs (string_step q b)
step (colon from ms k) room fs at b = cond (is_blank b) (go (colon from ms k) room fs) (cond (b == 58) (go value room (in_object from ms k ∷ fs)) wrong)
step (word p from c rest) room fs at b = cond (b == c) (in_word p from at rest room fs) wrong
step (number from q) room fs at b = number_outcome q from at room fs b (number_step q b)
step (string from q) room fs at b = string_outcome from at room fs (string_step q b)
step (after v) room fs at b = after_step v room fs at b

-- ---- what completes a state: the bytes t, the last of a text of n, make of it the tree w

abbrev mutual
  -- behind the value v
  pub Goes : ℕ → ℕ → List Frame → Tree → List ℕ → Tree → Type 0
  Goes n room [] v t w = Blanks t [] × (v ≡ w)
  Goes n room (in_array from vs ∷ fs) v t w =
      (more : Items) × (r : List ℕ) × (s : Span) × MoreItems n room more t r × (s.from ≡ from) × (s.to + length r ≡ n) × Goes n (suc room) fs (tree.array (onto vs (item v more)) s) r w
  Goes n room (in_object from ms k ∷ fs) v t w =
      (more : Members) × (r : List ℕ) × (s : Span)
      × MoreMembers n room more t r × (s.from ≡ from) × (s.to + length r ≡ n) × Goes n (suc room) fs (tree.object (onto_members ms (member k v more)) s) r w

-- behind a value from `from` to r
abbrev pub BehindValue : ℕ → ℕ → List Frame → (Span → Tree) → ℕ → List ℕ → Tree → Type 0
BehindValue n room fs make from r w = (s : Span) × (s.from ≡ from) × (s.to + length r ≡ n) × Goes n room fs (make s) r w

-- a value comes at once
abbrev pub AtValue : ℕ → ℕ → List Frame → List ℕ → Tree → Type 0
AtValue n room fs t w = (v : Tree) × (k : List ℕ) × Value n room v t k × Goes n room fs v k w

-- a colon comes
abbrev pub AtColon : ℕ → ℕ → List Frame → ℕ → Members → Span → List ℕ → Tree → Type 0
AtColon n room fs from ms k t w = (j : List ℕ) × (Blanks then Byte 58 then Blanks) t j × AtValue n room (in_object from ms k ∷ fs) j w

abbrev pub AtKey : ℕ → ℕ → List Frame → ℕ → Members → List ℕ → Tree → Type 0
AtKey n room fs from ms t w = (m : List ℕ) × (name : Span) × (k : List ℕ) × Blanks t m × (IsSpanOf n name m k × String m k) × AtColon n room fs from ms name k w

abbrev pub Completes : ℕ → Mode → ℕ → List Frame → List ℕ → Tree → Type 0
Completes n value room fs t w = (m : List ℕ) × Blanks t m × AtValue n room fs m w
Completes n (first_item from) room fs t w =
    ((r : List ℕ) × (Blanks then Byte 93) t r × BehindValue n (suc room) fs (tree.array no_items) from r w) ⊎ ((m : List ℕ) × Blanks t m × AtValue n room (in_array from no_items ∷ fs) m w)
Completes n (first_key from) room fs t w = ((r : List ℕ) × (Blanks then Byte 125) t r × BehindValue n (suc room) fs (tree.object no_members) from r w) ⊎ AtKey n room fs from no_members t w
Completes n (next_key from ms) room fs t w = AtKey n room fs from ms t w
Completes n (key from ms at_key q) room fs t w = (name : Span) × (k : List ℕ) × (name.from ≡ at_key) × (name.to + length k ≡ n) × RestOfString q t k × AtColon n room fs from ms name k w
Completes n (colon from ms k) room fs t w = AtColon n room fs from ms k t w
Completes n (word p from c rest) room fs t w = (r : List ℕ) × (t ≡ c ∷ (rest ++ r)) × BehindValue n room fs (tree.plain p) from r w
Completes n (number from q) room fs t w = (r : List ℕ) × RestOfNumber q t r × BehindValue n room fs (tree.plain tree.number) from r w
Completes n (string from q) room fs t w = (r : List ℕ) × RestOfString q t r × BehindValue n room fs (tree.plain tree.string) from r w
Completes n (after v) room fs t w = Goes n room fs v t w

abbrev pub AfterStep : ℕ → Outcome → List ℕ → Tree → Type 0
AfterStep n (go m room fs) t w = Completes n m room fs t w
AfterStep n wrong t w = ⊥
AfterStep n deep t w = ⊥

-- ---- a whole text

-- what the bytes make of an outcome, the first of them at place `at`
unfoldable pub run : Outcome → ℕ → List ℕ → Outcome
run o at [] = o
run (go m room fs) at (b ∷ t) = run (step m room fs at b) (at + 1) t
run wrong at (b ∷ t) = wrong
run deep at (b ∷ t) = deep

abbrev pub begin : ℕ → Outcome
begin limit = go value limit []

-- the tree, where the text ends here
abbrev pub finish : ℕ → Outcome → Option Tree
finish n wrong = None
finish n deep = None
finish n (go m room (f ∷ fs)) = None
finish n (go value room []) = None
finish n (go (first_item from) room []) = None
finish n (go (first_key from) room []) = None
finish n (go (next_key from ms) room []) = None
finish n (go (key from ms at q) room []) = None
finish n (go (colon from ms k) room []) = None
finish n (go (word p from c rest) room []) = None
finish n (go (number from q) room []) = cond (may_end q) (Some (tree.plain tree.number (span from n))) None
finish n (go (string from q) room []) = None
finish n (go (after v) room []) = Some v
