-- Where a request's head stands in the bytes that came so far (RFC 9112, sections 2 to 5).
use Rattle.std.specs.Prelude.{◌≡◌, ℕ, zero, suc, ◌==◌, Bool, ◌||◌, nat_le, List, [], ◌∷◌, length, take, map, if◌then◌else◌}
use Rattle.std.specs.List.{count_by}
use Rattle.httparse.specs.Grammar.{RequestHead, Field, ReadsRequest, HasNoRequest, NeverHasRequest, MayBecomeRequest, EndsInTarget, print_request, field_value}
use Rattle.ch_requests.specs.declared.limits.TheConstants.{LONGEST_HEAD, MOST_LINES}
use Rattle.ch_requests.specs.declared.head.Head.{Head}
use Rattle.ch_requests.specs.declared.head.HeadField.{HeadField}

-- ---- the first bytes

abbrev pub is_line_end : ℕ → Bool
is_line_end b = b == 10

-- the bytes up to the nth line end, that one among them; all of them where there are fewer
abbrev pub first_lines : ℕ → List ℕ → List ℕ
first_lines zero bytes = []
first_lines (suc n) [] = []
first_lines (suc n) (b ∷ bytes) = b ∷ first_lines (if is_line_end b then n else suc n) bytes

-- the bytes among which a head is looked for
abbrev pub first_bytes : List ℕ → List ℕ
first_bytes bytes = first_lines MOST_LINES (take LONGEST_HEAD bytes)

-- whether no more of them can come
abbrev pub is_full : List ℕ → Bool
is_full first = nat_le LONGEST_HEAD (length first) || nat_le MOST_LINES (count_by is_line_end first)

-- ---- heads

abbrev pub field_of : Field → HeadField
field_of f = record { name = f.name; value = field_value f }

abbrev pub head_of : RequestHead → Head
head_of h = record {
  method = h.method;
  target = h.target;
  minor = h.minor;
  fields = map field_of h.fields;
  used = length (print_request h);
}

-- what the first bytes hold of a head
pub data Heading : Type 0 where
  hopeless : Heading
  unfinished : Heading
  whole : Head → Heading

-- They can't begin a head; or they may; or they begin with this head. A target is judged once the byte after it is there.
abbrev pub IsHeading : List ℕ → Heading → Type 0
IsHeading first hopeless = NeverHasRequest first × (EndsInTarget first → ⊥)
IsHeading first unfinished = HasNoRequest first × MayBecomeRequest first
IsHeading first (whole head) = (h : RequestHead) × (rest : List ℕ) × ReadsRequest first h rest × (head ≡ head_of h)
