-- What the code's states stand for, as they change.
use Rattle.std.proofs.Common.{Vec, Global, ◌≡◌, inl, inr, ℕ, zero, suc, ◌+◌, ◌-◌, ◌<◌, ◌≤◌, List, [], ◌∷◌, ◌++◌, length, length-append, append_assoc, drop, get_or, map, true, false, ◌==◌, Some, None, Result, Ok, Err, refl, sym, ap, ap₂, ◌∙◌, subst, arith}
use Rattle.std.specs.Prelude.{slice_get, IsErrAnd}
use Rattle.std.proofs.lemmas.Bool.{ne_eqb, cases_lt}
use Rattle.ch_json.proofs.Choice.{when_so, when_not}
use Rattle.ch_json.proofs.Strings.{same_eqb}
use Rattle.ch_json.specs.Scalars.{InNumber, NumberStep, stop, may_end}
use Rattle.std.proofs.lemmas.List.{drop_more, drop_all, map-append, length-map}
use Rattle.ch_base.specs.JsonTree as tree
use Rattle.ch_base.specs.JsonTree.{Tree, Items, no_items, item, Members, no_members, member}
use Rattle.ch_base.specs.JsonText.{is_blank}
use Rattle.ch_json.specs.Machine as spec
use Rattle.ch_json.specs.Machine.{Outcome, go, wrong, deep, in_array, in_object, span, onto, onto_members}
use Rattle.ch_json.specs.Document.{Nodes, plain, list, object, Shows, ShowsItems, ShowsMembers}
use Rattle.ch_json.specs.Entries.{held, span_of, member_of}
use Rattle.ch_json.specs.ReaderView.{ItemsSoFar, MembersSoFar, SeesFrames, IsArray, IsObject, SeesMode, Open, Sees, Follows, Ends, Added, Newest, nodes_of, brackets_open}
use Rattle.ch_json.specs.declared.reader.Mode.{Mode}
use Rattle.ch_json.specs.declared.reader.Mode.TheVariants as mode
use Rattle.ch_json.specs.declared.reader.Frame.{Frame}
use Rattle.ch_json.specs.declared.reader.Frame.TheVariants as frame
use Rattle.ch_json.specs.declared.error.JsonError.{JsonError}
use Rattle.ch_json.specs.declared.error.JsonError.TheVariants as error
use Rattle.ch_json.specs.declared.reader.Reader.{Reader}
use Rattle.ch_json.specs.declared.entry.Entry.{Entry}
use Rattle.ch_json.specs.declared.entry.Member.{Member}
use Rattle.ch_json.specs.declared.span.Span.{Span}

-- want of memory follows whatever
pub memory_follows : (at : ℕ) (x : Result Mode JsonError) (r : Reader) (o : Outcome) → IsErrAnd x (λ e. e ≡ error.Memory) → Follows at x r o
memory_follows at (Ok now) r o h = absurd h
memory_follows at (Err e) r o h = subst (λ k. Follows at (Err k) r o) (sym h) tt

pub memory_ends : (at : ℕ) (x : Result ℕ JsonError) (r : Reader) (o : Outcome) → IsErrAnd x (λ e. e ≡ error.Memory) → Ends at x r o
memory_ends at (Ok now) r o h = absurd h
memory_ends at (Err e) r o h = subst (λ k. Ends at (Err k) r o) (sym h) tt

-- ---- more nodes at the end change nothing

get_more : {X : Type 0} (ds more : List X) (k : ℕ) (x : X) → slice_get ds k ≡ Some x → slice_get (ds ++ more) k ≡ Some x
get_more [] more k x h = absurd (cc)
get_more (d ∷ ds) more zero x h = h
get_more (d ∷ ds) more (suc k) x h = get_more ds more k x h

pub get_last : {X : Type 0} (ds : List X) (x : X) → slice_get (ds ++ x ∷ []) (length ds) ≡ Some x
get_last [] x = refl
get_last (d ∷ ds) x = get_last ds x

mutual
  pub shows_more : (ds more : Nodes) (k : ℕ) (v : Tree) → Shows ds k v → Shows (ds ++ more) k v
  shows_more ds more k (tree.plain p s) h = get_more ds more k (plain p, s) h
  shows_more ds more k (tree.array vs s) (ks, h, g) = (ks, get_more ds more k (list ks, s) h, items_more ds more ks vs g)
  shows_more ds more k (tree.object ms s) (ks, h, g) = (ks, get_more ds more k (object ks, s) h, members_more ds more ks ms g)

  items_more : (ds more : Nodes) (ks : List ℕ) (vs : Items) → ShowsItems ds ks vs → ShowsItems (ds ++ more) ks vs
  items_more ds more ks no_items h = h
  items_more ds more ks (item v vs) (k, rest, e, h, g) = (k, rest, e, shows_more ds more k v h, items_more ds more rest vs g)

  members_more : (ds more : Nodes) (ks : List (tree.Span × ℕ)) (ms : Members) → ShowsMembers ds ks ms → ShowsMembers (ds ++ more) ks ms
  members_more ds more ks no_members h = h
  members_more ds more ks (member name v ms) (k, rest, e, h, g) = (k, rest, e, shows_more ds more k v h, members_more ds more rest ms g)

so_far_more : (ds more : Nodes) (ks : List ℕ) (vs : Items) → ItemsSoFar ds ks vs → ItemsSoFar (ds ++ more) ks vs
so_far_more ds more ks no_items h = h
so_far_more ds more ks (item v vs) (before, k, e, h, g) = (before, k, e, shows_more ds more k v h, so_far_more ds more before vs g)

members_so_far_more : (ds more : Nodes) (ks : List (tree.Span × ℕ)) (ms : Members) → MembersSoFar ds ks ms → MembersSoFar (ds ++ more) ks ms
members_so_far_more ds more ks no_members h = h
members_so_far_more ds more ks (member name v ms) (before, k, e, h, g) = (before, k, e, shows_more ds more k v h, members_so_far_more ds more before ms g)

frames_more : (ds more : Nodes) (rs : List Frame) (fs : List spec.Frame) → SeesFrames ds rs fs → SeesFrames (ds ++ more) rs fs
frames_more ds more rs [] h = h
frames_more ds more rs (in_array from vs ∷ fs) (below, frame.Array a v, e, h, g) = (below, frame.Array a v, e, (h.0, so_far_more ds more v.items vs h.1), frames_more ds more below fs g)
frames_more ds more rs (in_array from vs ∷ fs) (below, frame.Object a v k, e, h, g) = absurd h
frames_more ds more rs (in_object from ms key ∷ fs) (below, frame.Array a v, e, h, g) = absurd h
frames_more ds more rs (in_object from ms key ∷ fs) (below, frame.Object a v k, e, h, g) =
    (below, frame.Object a v k, e, (h.0, h.1, members_so_far_more ds more (map member_of v.items) ms h.2), frames_more ds more below fs g)

-- ---- what is newest first, in order

pub items_in_order : (ds : Nodes) (ks js : List ℕ) (vs others : Items) → ItemsSoFar ds ks vs → ShowsItems ds js others → ShowsItems ds (ks ++ js) (onto vs others)
items_in_order ds ks js no_items others h g = subst (λ l. ShowsItems ds (l ++ js) others) (sym h) g
items_in_order ds ks js (item v vs) others (before, k, e, h, more) g =
    subst (λ l. ShowsItems ds l (onto vs (item v others))) (sym (ap (λ l. l ++ js) e ∙ append_assoc before (k ∷ []) js)) (items_in_order ds before (k ∷ js) vs (item v others) more (k, js, refl, h, g))

pub members_in_order : (ds : Nodes) (ks js : List (tree.Span × ℕ)) (ms others : Members) → MembersSoFar ds ks ms → ShowsMembers ds js others → ShowsMembers ds (ks ++ js) (onto_members ms others)
members_in_order ds ks js no_members others h g = subst (λ l. ShowsMembers ds (l ++ js) others) (sym h) g
members_in_order ds ks js (member name v ms) others (before, k, e, h, more) g =
    subst (λ l. ShowsMembers ds l (onto_members ms (member name v others))) (sym (ap (λ l. l ++ js) e ∙ append_assoc before ((name, k) ∷ []) js))
    (members_in_order ds before ((name, k) ∷ js) ms (member name v others) more (k, js, refl, h, g))

-- the reader with one node more
pub open_more : (r s : Reader) (x : Entry) (room : ℕ) (fs : List spec.Frame) (n : ℕ) → s.entries.items ≡ r.entries.items ++ x ∷ [] → s.frames.items ≡ r.frames.items → Open r room fs n → Open s room fs n
open_more r s x room fs n e f open_ =
    let ds : nodes_of s ≡ nodes_of r ++ held x ∷ [] = ap (map held) e ∙ map-append held r.entries.items (x ∷ []) in
    record {
      frames = subst (λ l. SeesFrames l s.frames.items fs) (sym ds) (subst (λ l. SeesFrames (nodes_of r ++ held x ∷ []) l fs) (sym f) (frames_more (nodes_of r) (held x ∷ []) r.frames.items fs open_.frames));
      count = open_.count;
    }

-- ---- brackets

snoc_same : {X : Type 0} (xs ys : List X) (x y : X) → xs ++ x ∷ [] ≡ ys ++ y ∷ [] → (xs ≡ ys) × (x ≡ y)
snoc_same [] [] x y e = (refl, cc)
snoc_same [] (b ∷ []) x y e = absurd (cc)
snoc_same [] (b ∷ c ∷ ys) x y e = absurd (cc)
snoc_same (a ∷ []) [] x y e = absurd (cc)
snoc_same (a ∷ c ∷ xs) [] x y e = absurd (cc)
snoc_same {X = X} (a ∷ xs) (b ∷ ys) x y e =
    let rest : xs ++ x ∷ [] ≡ ys ++ y ∷ [] = cc in
    let first : a ≡ b = cc in
    let k = snoc_same xs ys x y rest in
    (ap₂ (λ (p : X) (q : List X). p ∷ q) first k.0, k.1)

no_snoc : {X : Type 0} (xs : List X) (x : X) → xs ++ x ∷ [] ≡ [] → ⊥
no_snoc [] x e = cc
no_snoc (a ∷ xs) x e = cc

pub push_array : (r s : Reader) (top : Frame) (from : ℕ) (vs : Items) (room : ℕ) (fs : List spec.Frame) → s.entries.items ≡ r.entries.items → s.frames.items ≡ r.frames.items ++ top ∷ [] → IsArray (nodes_of r) top from vs → Open r room fs 1
    → Open s room (in_array from vs ∷ fs) 0
push_array r s top from vs room fs e f h open_ =
    record { frames = subst (λ l. SeesFrames (map held l) s.frames.items (in_array from vs ∷ fs)) (sym e) (r.frames.items, top, f, h, open_.frames); count = omega (arith, open_.count) }

pub push_object : (r s : Reader) (top : Frame) (from : ℕ) (ms : Members) (key : tree.Span) (room : ℕ) (fs : List spec.Frame) → s.entries.items ≡ r.entries.items → s.frames.items ≡ r.frames.items ++ top ∷ [] → IsObject (nodes_of r) top from ms key
    → Open r room fs 1 → Open s room (in_object from ms key ∷ fs) 0
push_object r s top from ms key room fs e f h open_ =
    record { frames = subst (λ l. SeesFrames (map held l) s.frames.items (in_object from ms key ∷ fs)) (sym e) (r.frames.items, top, f, h, open_.frames); count = omega (arith, open_.count) }

-- the newest bracket
pub data Popped (s : Reader) (room : ℕ) (top : Frame) : List spec.Frame → Type 0 where
  from_array : (from : ℕ) (vs : Items) (fs : List spec.Frame) → IsArray (nodes_of s) top from vs → Open s room fs 1 → Popped s room top (in_array from vs ∷ fs)
  from_object : (from : ℕ) (ms : Members) (key : tree.Span) (fs : List spec.Frame) → IsObject (nodes_of s) top from ms key → Open s room fs 1 → Popped s room top (in_object from ms key ∷ fs)

pub pop_top : (r s : Reader) (top : Frame) (room : ℕ) (fs : List spec.Frame) → s.entries.items ≡ r.entries.items → r.frames.items ≡ s.frames.items ++ top ∷ [] → Open r room fs 0 → Popped s room top fs
pop_top r s top room [] e f open_ = absurd (no_snoc s.frames.items top (sym f ∙ open_.frames))
pop_top r s top room (in_array from vs ∷ fs) e f open_ =
    let k = open_.frames in
    let same = snoc_same k.0 s.frames.items k.1 top (sym k.2 ∙ f) in
    let nodes : nodes_of r ≡ nodes_of s = ap (map held) (sym e) in
    from_array from vs fs (subst (λ d. IsArray d top from vs) nodes (subst (λ x. IsArray (nodes_of r) x from vs) same.1 k.3))
    (record { frames = subst (λ d. SeesFrames d s.frames.items fs) nodes (subst (λ l. SeesFrames (nodes_of r) l fs) same.0 k.4); count = omega (arith, open_.count) })
pop_top r s top room (in_object from ms key ∷ fs) e f open_ =
    let k = open_.frames in
    let same = snoc_same k.0 s.frames.items k.1 top (sym k.2 ∙ f) in
    let nodes : nodes_of r ≡ nodes_of s = ap (map held) (sym e) in
    from_object from ms key fs (subst (λ d. IsObject d top from ms key) nodes (subst (λ x. IsObject (nodes_of r) x from ms key) same.1 k.3))
    (record { frames = subst (λ d. SeesFrames d s.frames.items fs) nodes (subst (λ l. SeesFrames (nodes_of r) l fs) same.0 k.4); count = omega (arith, open_.count) })

pub memory_adds : (x : Result ℕ JsonError) (r : Reader) (room : ℕ) (fs : List spec.Frame) (v : Tree) → IsErrAnd x (λ e. e ≡ error.Memory) → Added x r room fs v
memory_adds (Ok k) r room fs v h = absurd h
memory_adds (Err e) r room fs v h = subst (λ k. Added (Err k) r room fs v) (sym h) tt

-- a node was added
pub newest : (r s : Reader) (x : Entry) (room : ℕ) (fs : List spec.Frame) (k : ℕ) (v : Tree) → k ≡ length r.entries.items → s.entries.items ≡ r.entries.items ++ x ∷ [] → s.frames.items ≡ r.frames.items → Open r room fs 0
    → Shows (nodes_of r ++ held x ∷ []) (length r.entries.items) v → Newest s room fs k v
newest r s x room fs k v n e f open_ h =
    let ds : nodes_of s ≡ nodes_of r ++ held x ∷ [] = ap (map held) e ∙ map-append held r.entries.items (x ∷ []) in
    record { shows = subst (λ d. Shows d k v) (sym ds) (subst (λ j. Shows (nodes_of r ++ held x ∷ []) j v) (sym n) h); brackets = open_more r s x room fs 0 e f open_ }

pub made_follows : (at : ℕ) (r : Reader) (room : ℕ) (fs : List spec.Frame) (k : ℕ) (v : Tree) → Newest r room fs k v → Sees r (mode.After k) (spec.after v) room fs
made_follows at r room fs k v h = record { mode = (v, refl, h.shows); brackets = h.brackets }

-- the errors of a call that adds a node
pub added_err : (at : ℕ) (e : JsonError) (r : Reader) (room : ℕ) (fs : List spec.Frame) (v : Tree) (o : Outcome) → Added (Err e) r room fs v → Follows at (Err e) r o
added_err at (error.Syntax x) r room fs v o h = absurd h
added_err at (error.Deep x) r room fs v o h = absurd h
added_err at error.Memory r room fs v o h = tt

entries_nodes : (r : Reader) → length (nodes_of r) ≡ length r.entries.items
entries_nodes r = simp length-map refl

-- a leaf, an array and an object as the newest node
pub adds_plain : (r : Reader) (p : tree.Plain) (s : tree.Span) → Shows (nodes_of r ++ (plain p, s) ∷ []) (length r.entries.items) (tree.plain p s)
adds_plain r p s = subst (λ n. slice_get (nodes_of r ++ (plain p, s) ∷ []) n ≡ Some (plain p, s)) (entries_nodes r) (get_last (nodes_of r) (plain p, s))

pub adds_array : (r : Reader) (ks : List ℕ) (vs : Items) (s : tree.Span) → ShowsItems (nodes_of r) ks vs → Shows (nodes_of r ++ (list ks, s) ∷ []) (length r.entries.items) (tree.array vs s)
adds_array r ks vs s h =
    (ks, subst (λ n. slice_get (nodes_of r ++ (list ks, s) ∷ []) n ≡ Some (list ks, s)) (entries_nodes r) (get_last (nodes_of r) (list ks, s)), items_more (nodes_of r) ((list ks, s) ∷ []) ks vs h)

pub adds_object : (r : Reader) (ks : List (tree.Span × ℕ)) (ms : Members) (s : tree.Span) → ShowsMembers (nodes_of r) ks ms → Shows (nodes_of r ++ (object ks, s) ∷ []) (length r.entries.items) (tree.object ms s)
adds_object r ks ms s h =
    (ks, subst (λ n. slice_get (nodes_of r ++ (object ks, s) ∷ []) n ≡ Some (object ks, s)) (entries_nodes r) (get_last (nodes_of r) (object ks, s)), members_more (nodes_of r) ((object ks, s) ∷ []) ks ms h)

pub array_done : (r : Reader) (ks before : List ℕ) (k : ℕ) (vs : Items) (v : Tree) (s : tree.Span) → ks ≡ before ++ k ∷ [] → ItemsSoFar (nodes_of r) before vs → Shows (nodes_of r) k v
    → Shows (nodes_of r ++ (list ks, s) ∷ []) (length r.entries.items) (tree.array (onto vs (item v no_items)) s)
array_done r ks before k vs v s e h g = adds_array r ks (onto vs (item v no_items)) s (subst (λ l. ShowsItems (nodes_of r) l (onto vs (item v no_items))) (sym e) (items_in_order (nodes_of r) before (k ∷ []) vs (item v no_items) h (k, [], refl, g, refl)))

pub object_done : (r : Reader) (ks before : List (tree.Span × ℕ)) (name : tree.Span) (k : ℕ) (ms : Members) (v : Tree) (s : tree.Span) → ks ≡ before ++ (name, k) ∷ [] → MembersSoFar (nodes_of r) before ms → Shows (nodes_of r) k v
    → Shows (nodes_of r ++ (object ks, s) ∷ []) (length r.entries.items) (tree.object (onto_members ms (member name v no_members)) s)
object_done r ks before name k ms v s e h g =
    adds_object r ks (onto_members ms (member name v no_members)) s
    (subst (λ l. ShowsMembers (nodes_of r) l (onto_members ms (member name v no_members))) (sym e) (members_in_order (nodes_of r) before ((name, k) ∷ []) ms (member name v no_members) h (k, [], refl, g, refl)))

-- ---- one bracket more

frames_len : (ds : Nodes) (rs : List Frame) (fs : List spec.Frame) → SeesFrames ds rs fs → length rs ≡ length fs
frames_len ds rs [] h = ap length h
frames_len ds rs (in_array from vs ∷ fs) (below, top, e, h, g) = omega (arith, ap length e, length-append below (top ∷ []), frames_len ds below fs g)
frames_len ds rs (in_object from ms key ∷ fs) (below, top, e, h, g) = omega (arith, ap length e, length-append below (top ∷ []), frames_len ds below fs g)

pub open_deep : (r : Reader) (room : ℕ) (m : spec.Mode) (fs : List spec.Frame) → Open r room fs 0 → 64 ≤ length r.frames.items → spec.open_bracket room m fs ≡ deep
open_deep r room m fs open_ h =
    let none : room ≡ 0 = omega (arith, frames_len (nodes_of r) r.frames.items fs open_.frames, open_.count) in
    subst (λ k. spec.open_bracket k m fs ≡ deep) (sym none) refl

bracket_on : (room : ℕ) (m : spec.Mode) (fs : List spec.Frame) → 0 < room → spec.open_bracket room m fs ≡ go m (room - 1) fs
bracket_on zero m fs h = absurd (omega arith)
bracket_on (suc k) m fs h = ap (λ j. go m j fs) (omega arith)

pub open_on : (r : Reader) (now : Mode) (room : ℕ) (m : spec.Mode) (fs : List spec.Frame) (at : ℕ) → Open r room fs 0 → length r.frames.items < 64 → SeesMode (nodes_of r) now m → brackets_open now ≡ 1
    → Follows at (Ok now) r (spec.open_bracket room m fs)
open_on r now room m fs at open_ h sees one =
    let len = frames_len (nodes_of r) r.frames.items fs open_.frames in
    (m, room - 1, fs, bracket_on room m fs (omega (arith, open_.count, len)), record { mode = sees; brackets = record { frames = open_.frames; count = omega (arith, open_.count, len, one) } })

-- ---- behind a value

pub after_blank : (v : Tree) (room : ℕ) (fs : List spec.Frame) (at b : ℕ) → is_blank b ≡ true → spec.after_step v room fs at b ≡ go (spec.after v) room fs
unfolding spec.after_step
after_blank v room [] at b h = rw h refl
after_blank v room (in_array from vs ∷ fs) at b h = rw h refl
after_blank v room (in_object from ms k ∷ fs) at b h = rw h refl

pub after_none : (r : Reader) (v : Tree) (room : ℕ) (fs : List spec.Frame) (at b : ℕ) → Open r room fs 0 → (0 < length r.frames.items → ⊥) → is_blank b ≡ false → spec.after_step v room fs at b ≡ wrong
unfolding spec.after_step
after_none r v room [] at b open_ e h = rw h refl
after_none r v room (in_array from vs ∷ fs) at b open_ e h = absurd (e (omega (arith, ap length open_.frames.2, length-append open_.frames.0 (open_.frames.1 ∷ []))))
after_none r v room (in_object from ms k ∷ fs) at b open_ e h = absurd (e (omega (arith, ap length open_.frames.2, length-append open_.frames.0 (open_.frames.1 ∷ []))))

pub close_bracket : (r : Reader) (room : ℕ) (fs : List spec.Frame) → Open r room fs 1 → Open r (suc room) fs 0
close_bracket r room fs open_ = record { frames = open_.frames; count = omega (arith, open_.count) }

pub members_pushed : (vs before : List Member) (m : Member) → vs ≡ before ++ m ∷ [] → map member_of vs ≡ map member_of before ++ (span_of m.key, m.value) ∷ []
members_pushed vs before m e = ap (map member_of) e ∙ map-append member_of before (m ∷ [])

pub array_popped : (s t : Reader) (at room b : ℕ) (x : Result Mode JsonError) (v : Tree) (from : ℕ) (ks : Vec ℕ Global) (top : Frame) (fs : List spec.Frame) → top ≡ frame.Array from ks
    → ((vs : Items) (gs : List spec.Frame) → Open s room gs 1 → ItemsSoFar (nodes_of s) ks.items vs → Follows at x t (spec.after_step v room (in_array from vs ∷ gs) at b)) → Popped s room top fs
    → Follows at x t (spec.after_step v room fs at b)
array_popped s t at room b x v from ks top fs is follows (from_array a vs gs h open_) =
    let k = subst (λ y. IsArray (nodes_of s) y a vs) is h in subst (λ y. Follows at x t (spec.after_step v room (in_array y vs ∷ gs) at b)) k.0 (follows vs gs open_ k.1)
array_popped s t at room b x v from ks top fs is follows (from_object a ms key gs h open_) = absurd (subst (λ y. IsObject (nodes_of s) y a ms key) is h)

pub object_popped : (s t : Reader) (at room b : ℕ) (x : Result Mode JsonError) (v : Tree) (from : ℕ) (ks : Vec Member Global) (name : Span) (top : Frame) (fs : List spec.Frame) → top ≡ frame.Object from ks name
    → ((ms : Members) (gs : List spec.Frame) → Open s room gs 1 → MembersSoFar (nodes_of s) (map member_of ks.items) ms → Follows at x t (spec.after_step v room (in_object from ms (span_of name) ∷ gs) at b))
    → Popped s room top fs → Follows at x t (spec.after_step v room fs at b)
object_popped s t at room b x v from ks name top fs is follows (from_array a vs gs h open_) = absurd (subst (λ y. IsArray (nodes_of s) y a vs) is h)
object_popped s t at room b x v from ks name top fs is follows (from_object a ms key gs h open_) =
    let k = subst (λ y. IsObject (nodes_of s) y a ms key) is h in
    subst (λ y. Follows at x t (spec.after_step v room (in_object y ms key ∷ gs) at b)) k.0
    (subst (λ y. Follows at x t (spec.after_step v room (in_object from ms y ∷ gs) at b)) k.1 (follows ms gs open_ k.2))

pub first_on : (r : Reader) (at : ℕ) (x : Result Mode JsonError) (from room : ℕ) (fs : List spec.Frame) (b : ℕ) → is_blank b ≡ false → (b ≡ 93 → ⊥) → Follows at x r (spec.start room (in_array from no_items ∷ fs) at b)
    → Follows at x r (spec.step (spec.first_item from) room fs at b)
unfolding spec.step
first_on r at x from room fs b not_blank not_close h = when_not (Follows at x r) (is_blank b) _ _ not_blank (when_not (Follows at x r) (b == 93) _ _ (ne_eqb b 93 not_close) h)

pub value_on : (r : Reader) (at : ℕ) (x : Result Mode JsonError) (room : ℕ) (fs : List spec.Frame) (b : ℕ) → is_blank b ≡ false → Follows at x r (spec.start room fs at b) → Follows at x r (spec.step spec.value room fs at b)
unfolding spec.step
value_on r at x room fs b not_blank h = when_not (Follows at x r) (is_blank b) _ _ not_blank h

-- ---- words and numbers

pub rest_of_word : (n : ℕ) (xs : List ℕ) (c : ℕ) (rest : List ℕ) → drop n xs ≡ c ∷ rest → (n < length xs) × (get_or xs n 0 ≡ c) × (drop (n + 1) xs ≡ rest)
rest_of_word n xs c rest e =
    elim (cases_lt n (length xs)) [
      | inl h ↦ let k = sym (drop_more xs n 0 h) ∙ e in (h, cc, cc)
      | inr h ↦ let none = sym (drop_all n xs h) ∙ e in absurd (cc none)
    ]

pub word_wrong : (p : tree.Plain) (from room : ℕ) (fs : List spec.Frame) (at b c : ℕ) (rest : List ℕ) → (c ≡ b → ⊥) → spec.step (spec.word p from c rest) room fs at b ≡ wrong
unfolding spec.step
word_wrong p from room fs at b c rest h = when_not (λ o. o ≡ wrong) (b == c) _ _ (ne_eqb b c (λ e. h (sym e))) refl

pub word_right : (r : Reader) (x : Result Mode JsonError) (p : tree.Plain) (from room : ℕ) (fs : List spec.Frame) (at b c : ℕ) (rest : List ℕ) → c ≡ b → Follows at x r (spec.in_word p from at rest room fs) → Follows at x r (spec.step (spec.word p from c rest) room fs at b)
unfolding spec.step
word_right r x p from room fs at b c rest h k = when_so (Follows at x r) (b == c) _ _ (rw h (same_eqb b)) k

pub word_more : (p : tree.Plain) (from at room : ℕ) (fs : List spec.Frame) (rest : List ℕ) → 0 < length rest → (c : ℕ) × (more : List ℕ) × (rest ≡ c ∷ more) × (spec.in_word p from at rest room fs ≡ go (spec.word p from c more) room fs)
word_more p from at room fs [] h = absurd (omega arith)
word_more p from at room fs (c ∷ more) h = (c, more, refl, refl)

pub word_done : (p : tree.Plain) (from at room : ℕ) (fs : List spec.Frame) (rest : List ℕ) → length rest ≡ 0 → spec.in_word p from at rest room fs ≡ go (spec.after (tree.plain p (span from (at + 1)))) room fs
word_done p from at room fs [] h = refl
word_done p from at room fs (c ∷ more) h = absurd (omega arith)

pub number_stop : (r : Reader) (at : ℕ) (x : Result Mode JsonError) (q : InNumber) (from room : ℕ) (fs : List spec.Frame) (b : ℕ) (y : NumberStep) → stop ≡ y → may_end q ≡ true
    → Follows at x r (spec.after_step (tree.plain tree.number (span from at)) room fs at b) → Follows at x r (spec.number_outcome q from at room fs b y)
number_stop r at x q from room fs b y is may h = subst (λ y. Follows at x r (spec.number_outcome q from at room fs b y)) is (when_so (Follows at x r) (may_end q) _ wrong may h)

pub number_wrong : (q : InNumber) (from at room : ℕ) (fs : List spec.Frame) (b : ℕ) (y : NumberStep) → stop ≡ y → may_end q ≡ false → spec.number_outcome q from at room fs b y ≡ wrong
number_wrong q from at room fs b y is may = subst (λ y. spec.number_outcome q from at room fs b y ≡ wrong) is (when_not (λ o. o ≡ wrong) (may_end q) _ wrong may refl)

-- ---- the end of the text

pub frames_none : (r : Reader) (room : ℕ) (fs : List spec.Frame) (n : ℕ) → Open r room fs n → length r.frames.items ≡ 0 → fs ≡ []
frames_none r room [] n open_ h = refl
frames_none r room (f ∷ fs) n open_ h = absurd (omega (arith, frames_len (nodes_of r) r.frames.items (f ∷ fs) open_.frames))

pub ends_after : (r : Reader) (at k : ℕ) (m : spec.Mode) (room : ℕ) (fs : List spec.Frame) → fs ≡ [] → SeesMode (nodes_of r) (mode.After k) m → Ends at (Ok k) r (go m room fs)
ends_after r at k m room fs none (v, e, h) = (v, subst (λ y. spec.finish at (go y room fs) ≡ Some v) (sym e) (subst (λ y. spec.finish at (go (spec.after v) room y) ≡ Some v) (sym none) refl), h)

pub ends_number : (r : Reader) (at : ℕ) (x : Result ℕ JsonError) (from : ℕ) (q : InNumber) (m : spec.Mode) (room : ℕ) (fs : List spec.Frame) → fs ≡ [] → m ≡ spec.number from q → Ends at x r (go (spec.number from q) room [])
    → Ends at x r (go m room fs)
ends_number r at x from q m room fs none e h = subst (λ y. Ends at x r (go y room fs)) (sym e) (subst (λ y. Ends at x r (go (spec.number from q) room y)) (sym none) h)

abbrev pub IsOther : Mode → Type 0
IsOther (mode.After k) = ⊥
IsOther (mode.Number from q) = ⊥
IsOther mode.Value = Unit {0}
IsOther (mode.FirstItem from) = Unit {0}
IsOther (mode.FirstKey from) = Unit {0}
IsOther (mode.NextKey from v) = Unit {0}
IsOther (mode.Key from v at q) = Unit {0}
IsOther (mode.Colon from v k) = Unit {0}
IsOther (mode.Word p from n) = Unit {0}
IsOther (mode.Str from q) = Unit {0}

none_at : (at : ℕ) (m n : spec.Mode) (room : ℕ) (fs : List spec.Frame) → fs ≡ [] → m ≡ n → spec.finish at (go n room []) ≡ None → spec.finish at (go m room fs) ≡ None
none_at at m n room fs none e h = subst (λ y. spec.finish at (go y room fs) ≡ None) (sym e) (subst (λ y. spec.finish at (go n room y) ≡ None) (sym none) h)

pub ends_open : (ds : Nodes) (at : ℕ) (now : Mode) (m : spec.Mode) (room : ℕ) (fs : List spec.Frame) → fs ≡ [] → SeesMode ds now m → IsOther now → spec.finish at (go m room fs) ≡ None
ends_open ds at (mode.After k) m room fs none sees h = absurd h
ends_open ds at (mode.Number from q) m room fs none sees h = absurd h
ends_open ds at mode.Value m room fs none sees h = none_at at m _ room fs none sees refl
ends_open ds at (mode.FirstItem from) m room fs none sees h = none_at at m _ room fs none sees refl
ends_open ds at (mode.FirstKey from) m room fs none sees h = none_at at m _ room fs none sees refl
ends_open ds at (mode.NextKey from v) m room fs none sees h = none_at at m _ room fs none sees.1 refl
ends_open ds at (mode.Key from v a q) m room fs none sees h = none_at at m _ room fs none sees.1 refl
ends_open ds at (mode.Colon from v k) m room fs none sees h = none_at at m _ room fs none sees.1 refl
ends_open ds at (mode.Word p from n) m room fs none sees h = none_at at m _ room fs none sees.2 refl
ends_open ds at (mode.Str from q) m room fs none sees h = none_at at m _ room fs none sees refl

pub ends_nested : (r : Reader) (at : ℕ) (m : spec.Mode) (room : ℕ) (fs : List spec.Frame) (n : ℕ) → Open r room fs n → (length r.frames.items ≡ 0 → ⊥) → spec.finish at (go m room fs) ≡ None
ends_nested r at m room [] n open_ h = absurd (h (omega (arith, frames_len (nodes_of r) r.frames.items [] open_.frames)))
ends_nested r at m room (f ∷ fs) n open_ h = refl

pub number_finish : (r : Reader) (at : ℕ) (x : Result ℕ JsonError) (from : ℕ) (q : InNumber) (room : ℕ) → may_end q ≡ true → Added x r room [] (tree.plain tree.number (span from at)) → Ends at x r (go (spec.number from q) room [])
number_finish r at (Ok k) from q room may h = (tree.plain tree.number (span from at), when_so (λ o. o ≡ Some (tree.plain tree.number (span from at))) (may_end q) _ None may refl, h.shows)
number_finish r at (Err (error.Syntax x)) from q room may h = absurd h
number_finish r at (Err (error.Deep x)) from q room may h = absurd h
number_finish r at (Err error.Memory) from q room may h = tt
