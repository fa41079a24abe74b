-- What the reader's states stand for. Only private clauses cite it.
use Rattle.std.specs.Prelude.{◌≡◌, ℕ, ◌+◌, List, [], ◌∷◌, ◌++◌, length, drop, map, Some, None, Result, Ok, Err}
use Rattle.ch_base.specs.JsonTree as tree
use Rattle.ch_base.specs.JsonTree.{Tree, Items, no_items, item, Members, no_members, member}
use Rattle.ch_base.specs.declared.limits.TheConstants.{MAX_DEPTH}
use Rattle.ch_json.specs.Document.{Nodes, Shows}
use Rattle.ch_json.specs.Machine as spec
use Rattle.ch_json.specs.Machine.{Outcome, go, wrong, deep, in_array, in_object}
use Rattle.ch_json.specs.States.{in_string_of, in_number_of}
use Rattle.ch_json.specs.declared.entry.Plain.{Plain}
use Rattle.ch_json.specs.declared.entry.Plain.TheVariants.{Null, False, True, Number, Str}
use Rattle.ch_json.specs.declared.entry.Content.{Content}
use Rattle.ch_json.specs.Entries.{span_of, plain_of, member_of, shape_of, held}
use Rattle.ch_json.specs.declared.reader.Frame.{Frame}
use Rattle.ch_json.specs.declared.reader.Frame.TheVariants as frame
use Rattle.ch_json.specs.declared.reader.Mode.{Mode}
use Rattle.ch_json.specs.declared.reader.Mode.TheVariants as mode
use Rattle.ch_json.specs.declared.error.JsonError.{JsonError}
use Rattle.ch_json.specs.declared.error.JsonError.TheVariants as error
use Rattle.ch_json.specs.declared.reader.Reader.{Reader}

-- the same, of what an open bracket has so far, the newest first
abbrev pub ItemsSoFar : Nodes → List ℕ → Items → Type 0
ItemsSoFar ds ks no_items = ks ≡ []
ItemsSoFar ds ks (item v vs) = (before : List ℕ) × (k : ℕ) × (ks ≡ before ++ k ∷ []) × Shows ds k v × ItemsSoFar ds before vs

abbrev pub MembersSoFar : Nodes → List (tree.Span × ℕ) → Members → Type 0
MembersSoFar ds ks no_members = ks ≡ []
MembersSoFar ds ks (member name v ms) = (before : List (tree.Span × ℕ)) × (k : ℕ) × (ks ≡ before ++ (name, k) ∷ []) × Shows ds k v × MembersSoFar ds before ms

abbrev pub IsArray : Nodes → Frame → ℕ → Items → Type 0
IsArray ds (frame.Array a v) from vs = (a ≡ from) × ItemsSoFar ds v.items vs
IsArray ds (frame.Object a v k) from vs = ⊥

abbrev pub IsObject : Nodes → Frame → ℕ → Members → tree.Span → Type 0
IsObject ds (frame.Array a v) from ms key = ⊥
IsObject ds (frame.Object a v k) from ms key = (a ≡ from) × (span_of k ≡ key) × MembersSoFar ds (map member_of v.items) ms

-- the open brackets, the newest of the code's last and the newest of the list first
abbrev pub SeesFrames : Nodes → List Frame → List spec.Frame → Type 0
SeesFrames ds rs [] = rs ≡ []
SeesFrames ds rs (in_array from vs ∷ fs) = (below : List Frame) × (top : Frame) × (rs ≡ below ++ top ∷ []) × IsArray ds top from vs × SeesFrames ds below fs
SeesFrames ds rs (in_object from ms key ∷ fs) = (below : List Frame) × (top : Frame) × (rs ≡ below ++ top ∷ []) × IsObject ds top from ms key × SeesFrames ds below fs

abbrev pub letters_of : Plain → List ℕ
letters_of Null = 110 ∷ 117 ∷ 108 ∷ 108 ∷ []
letters_of False = 102 ∷ 97 ∷ 108 ∷ 115 ∷ 101 ∷ []
letters_of True = 116 ∷ 114 ∷ 117 ∷ 101 ∷ []
letters_of Number = []
letters_of Str = []

abbrev pub SeesMode : Nodes → Mode → spec.Mode → Type 0
SeesMode ds mode.Value m = m ≡ spec.value
SeesMode ds (mode.FirstItem from) m = m ≡ spec.first_item from
SeesMode ds (mode.FirstKey from) m = m ≡ spec.first_key from
SeesMode ds (mode.NextKey from v) m = (ms : Members) × (m ≡ spec.next_key from ms) × MembersSoFar ds (map member_of v.items) ms
SeesMode ds (mode.Key from v at q) m = (ms : Members) × (m ≡ spec.key from ms at (in_string_of q)) × MembersSoFar ds (map member_of v.items) ms
SeesMode ds (mode.Colon from v k) m = (ms : Members) × (m ≡ spec.colon from ms (span_of k)) × MembersSoFar ds (map member_of v.items) ms
SeesMode ds (mode.Word p from n) m = (c : ℕ) × (rest : List ℕ) × (m ≡ spec.word (plain_of p) from c rest) × (drop n (letters_of p) ≡ c ∷ rest)
SeesMode ds (mode.Number from q) m = m ≡ spec.number from (in_number_of q)
SeesMode ds (mode.Str from q) m = m ≡ spec.string from (in_string_of q)
SeesMode ds (mode.After k) m = (v : Tree) × (m ≡ spec.after v) × Shows ds k v

-- the bracket that is open and in no frame
abbrev pub brackets_open : Mode → ℕ
brackets_open mode.Value = 0
brackets_open (mode.FirstItem from) = 1
brackets_open (mode.FirstKey from) = 1
brackets_open (mode.NextKey from v) = 1
brackets_open (mode.Key from v at q) = 1
brackets_open (mode.Colon from v k) = 1
brackets_open (mode.Word p from n) = 0
brackets_open (mode.Number from q) = 0
brackets_open (mode.Str from q) = 0
brackets_open (mode.After k) = 0

abbrev pub nodes_of : Reader → Nodes
nodes_of r = map held r.entries.items

-- the reader's open brackets, with room for so many more
pub record Open (r : Reader) (room : ℕ) (fs : List spec.Frame) (more : ℕ) : Type 0 where
  pub frames : SeesFrames (nodes_of r) r.frames.items fs
  pub count : room + more + length fs ≡ MAX_DEPTH

pub record Sees (r : Reader) (now : Mode) (m : spec.Mode) (room : ℕ) (fs : List spec.Frame) : Type 0 where
  pub mode : SeesMode (nodes_of r) now m
  pub brackets : Open r room fs (brackets_open now)

-- what a step returned is what the grammar says
abbrev pub Follows : ℕ → Result Mode JsonError → Reader → Outcome → Type 0
Follows at (Ok now) r o = (m : spec.Mode) × (room : ℕ) × (fs : List spec.Frame) × (o ≡ go m room fs) × Sees r now m room fs
Follows at (Err (error.Syntax x)) r o = (x ≡ at) × (o ≡ wrong)
Follows at (Err (error.Deep x)) r o = (x ≡ at) × (o ≡ deep)
Follows at (Err error.Memory) r o = Unit {0}

-- the new node stands for the tree
abbrev pub Adds : Reader → Content → ℕ → ℕ → Tree → Type 0
Adds r c from to v = Shows (nodes_of r ++ (shape_of c, spec.span from to) ∷ []) (length r.entries.items) v

-- what the end of the text makes of it
abbrev pub Ends : ℕ → Result ℕ JsonError → Reader → Outcome → Type 0
Ends at (Ok k) r o = (v : Tree) × (spec.finish at o ≡ Some v) × Shows (nodes_of r) k v
Ends at (Err (error.Syntax x)) r o = (x ≡ at) × (spec.finish at o ≡ None)
Ends at (Err (error.Deep x)) r o = ⊥
Ends at (Err error.Memory) r o = Unit {0}

-- the reader's newest node stands for the tree
pub record Newest (r : Reader) (room : ℕ) (fs : List spec.Frame) (k : ℕ) (v : Tree) : Type 0 where
  pub shows : Shows (nodes_of r) k v
  pub brackets : Open r room fs 0

abbrev pub Added : Result ℕ JsonError → Reader → ℕ → List spec.Frame → Tree → Type 0
Added (Ok k) r room fs v = Newest r room fs k v
Added (Err (error.Syntax x)) r room fs v = ⊥
Added (Err (error.Deep x)) r room fs v = ⊥
Added (Err error.Memory) r room fs v = Unit {0}
