-- The entries of a document by the values that its nodes stand for.
use Rattle.std.proofs.Common.{◌≡◌, ℕ, zero, suc, ◌<◌, List, [], ◌∷◌, length, get_or, map, Some, refl, sym, ap, ◌∙◌, subst, arith}
use Rattle.std.specs.Prelude.{slice_get}
use Rattle.std.proofs.lemmas.List.{length-map}
use Rattle.std.proofs.lemmas.Option.{slice_get_within}
use Rattle.ch_json.proofs.Lists.{some_back, some_on, inside_some}
use Rattle.ch_base.specs.JsonTree as tree
use Rattle.ch_base.specs.JsonTree.{Tree, Items, no_items, item, Members, no_members, member}
use Rattle.ch_base.specs.JsonParts.{spelled_at, items_of, members_of, values_of, names_of}
use Rattle.ch_json.specs.Document.{Shape, plain, list, object, Nodes, Shows, ShowsItems, ShowsMembers}
use Rattle.ch_json.specs.Entries.{span_of, plain_of, member_of, shape_of, held}
use Rattle.ch_json.specs.NodeOf.{form_of}
use Rattle.ch_json.specs.Content.{form_of_plain, form_of_content, values_in, keys_in}
use Rattle.ch_json.specs.declared.node.Form.TheVariants as form
use Rattle.ch_json.specs.declared.span.Span.{Span}
use Rattle.ch_json.specs.declared.entry.Plain.{Plain}
use Rattle.ch_json.specs.declared.entry.Plain.TheVariants.{Null, False, True, Number, Str}
use Rattle.ch_json.specs.declared.entry.Member.{Member}
use Rattle.ch_json.specs.declared.entry.Content.{Content}
use Rattle.ch_json.specs.declared.entry.Content.TheVariants as content
use Rattle.ch_json.specs.declared.entry.Entry.{Entry}

-- a node that stands for a value is inside
pub node_inside : (items : List Entry) (k : ℕ) (v : Tree) → Shows (map held items) k v → k < length items
node_inside items k v h = let same : length (map held items) ≡ length items = simp length-map refl in omega (arith, within (map held items) k v h, same)
  where
    within : (ds : Nodes) (k : ℕ) (v : Tree) → Shows ds k v → k < length ds
    within ds k (tree.plain p s) h = slice_get_within ds k _ h
    within ds k (tree.array vs s) h = slice_get_within ds k _ h.1
    within ds k (tree.object ms s) h = slice_get_within ds k _ h.1

-- what the entry of a node holds
pub data Stores (ds : Nodes) (e : Entry) : Tree → Type 0 where
  stores_plain : (p : tree.Plain) (s : tree.Span) → shape_of e.content ≡ plain p → span_of e.span ≡ s → Stores ds e (tree.plain p s)
  stores_array : (vs : Items) (s : tree.Span) (ks : List ℕ) → shape_of e.content ≡ list ks → span_of e.span ≡ s → ShowsItems ds ks vs → Stores ds e (tree.array vs s)
  stores_object : (ms : Members) (s : tree.Span) (ks : List (tree.Span × ℕ)) → shape_of e.content ≡ object ks → span_of e.span ≡ s → ShowsMembers ds ks ms → Stores ds e (tree.object ms s)

parts_of : (e : Entry) (shape : Shape) (s : tree.Span) → Some (held e) ≡ Some (shape, s) → (shape_of e.content ≡ shape) × (span_of e.span ≡ s)
parts_of e shape s h = let same : held e ≡ (shape, s) = cc in (ap (λ (p : Shape × tree.Span). p.0) same, ap (λ (p : Shape × tree.Span). p.1) same)

held_at : (items : List Entry) (k : ℕ) (e : Entry) → k < length items → e ≡ get_or items k e → slice_get (map held items) k ≡ Some (held e)
held_at [] k e h g = absurd (omega arith)
held_at (x ∷ xs) zero e h g = ap (λ y. Some (held y)) (sym g)
held_at (x ∷ xs) (suc k) e h g = held_at xs k e (omega arith) g

pub stores : (items : List Entry) (k : ℕ) (e : Entry) (v : Tree) → e ≡ get_or items k e → Shows (map held items) k v → Stores (map held items) e v
stores items k e (tree.plain p s) g h = let q = parts_of e (plain p) s (sym (held_at items k e (node_inside items k (tree.plain p s) h) g) ∙ h) in stores_plain p s q.0 q.1
stores items k e (tree.array vs s) g h = let q = parts_of e (list h.0) s (sym (held_at items k e (node_inside items k (tree.array vs s) h) g) ∙ h.1) in stores_array vs s h.0 q.0 q.1 h.2
stores items k e (tree.object ms s) g h = let q = parts_of e (object h.0) s (sym (held_at items k e (node_inside items k (tree.object ms s) h) g) ∙ h.1) in stores_object ms s h.0 q.0 q.1 h.2

-- ---- its form

plain_form : (p : Plain) (q : tree.Plain) (s : tree.Span) → plain_of p ≡ q → form_of_plain p ≡ form_of (tree.plain q s)
plain_form Null q s e = ap (λ y. form_of (tree.plain y s)) e
plain_form False q s e = ap (λ y. form_of (tree.plain y s)) e
plain_form True q s e = ap (λ y. form_of (tree.plain y s)) e
plain_form Number q s e = ap (λ y. form_of (tree.plain y s)) e
plain_form Str q s e = ap (λ y. form_of (tree.plain y s)) e

content_plain : (c : Content) (q : tree.Plain) (s : tree.Span) → shape_of c ≡ plain q → form_of_content c ≡ form_of (tree.plain q s)
content_plain (content.Plain p) q s e = plain_form p q s (cc)
content_plain (content.List v) q s e = absurd (cc)
content_plain (content.Object v) q s e = absurd (cc)

items_length : (ds : Nodes) (ks : List ℕ) (vs : Items) → ShowsItems ds ks vs → length ks ≡ length (items_of vs)
items_length ds ks no_items e = ap length e
items_length ds ks (item v vs) (k, rest, e, h, more) = ap length e ∙ ap suc (items_length ds rest vs more)

members_length : (ds : Nodes) (ks : List (tree.Span × ℕ)) (ms : Members) → ShowsMembers ds ks ms → length ks ≡ length (members_of ms)
members_length ds ks no_members e = ap length e
members_length ds ks (member name v ms) (k, rest, e, h, more) = ap length e ∙ ap suc (members_length ds rest ms more)

content_array : (c : Content) (ks : List ℕ) (vs : Items) (s : tree.Span) → shape_of c ≡ list ks → length ks ≡ length (items_of vs) → form_of_content c ≡ form_of (tree.array vs s)
content_array (content.Plain p) ks vs s e len = absurd (cc)
content_array (content.List v) ks vs s e len = let same : v.items ≡ ks = cc in ap form.List (ap length same ∙ len)
content_array (content.Object v) ks vs s e len = absurd (cc)

content_object : (c : Content) (ks : List (tree.Span × ℕ)) (ms : Members) (s : tree.Span) → shape_of c ≡ object ks → length ks ≡ length (members_of ms) → form_of_content c ≡ form_of (tree.object ms s)
content_object (content.Plain p) ks ms s e len = absurd (cc)
content_object (content.List v) ks ms s e len = absurd (cc)
content_object (content.Object v) ks ms s e len =
    let same : map member_of v.items ≡ ks = cc in
    let count : length (map member_of v.items) ≡ length v.items = simp length-map refl in
    ap form.Object (sym count ∙ ap length same ∙ len)

pub stored_form : (ds : Nodes) (e : Entry) (v : Tree) → Stores ds e v → form_of_content e.content ≡ form_of v
stored_form ds e v (stores_plain p s shape place) = content_plain e.content p s shape
stored_form ds e v (stores_array vs s ks shape place h) = content_array e.content ks vs s shape (items_length ds ks vs h)
stored_form ds e v (stores_object ms s ks shape place h) = content_object e.content ks ms s shape (members_length ds ks ms h)

pub stored_span : (ds : Nodes) (e : Entry) (v : Tree) → Stores ds e v → span_of e.span ≡ spelled_at v
stored_span ds e v (stores_plain p s shape place) = place
stored_span ds e v (stores_array vs s ks shape place h) = place
stored_span ds e v (stores_object ms s ks shape place h) = place

-- ---- what it holds

item_shown : (ds : Nodes) (ks : List ℕ) (vs : Items) (i : ℕ) (w : Tree) → ShowsItems ds ks vs → slice_get (items_of vs) i ≡ Some w → (k : ℕ) × (slice_get ks i ≡ Some k) × Shows ds k w
item_shown ds ks no_items i w h e = absurd (cc)
item_shown ds ks (item v vs) zero w (k, rest, f, h, more) e = let same : v ≡ w = cc in (k, ap (λ l. slice_get l 0) f, subst (Shows ds k) same h)
item_shown ds ks (item v vs) (suc i) w (k, rest, f, h, more) e = let q = item_shown ds rest vs i w more e in (q.0, ap (λ l. slice_get l (suc i)) f ∙ q.1, q.2)

member_shown : (ds : Nodes) (ks : List (tree.Span × ℕ)) (ms : Members) (i : ℕ) (w : tree.Span × Tree) → ShowsMembers ds ks ms → slice_get (members_of ms) i ≡ Some w → (k : ℕ) × (slice_get ks i ≡ Some (w.0, k)) × Shows ds k w.1
member_shown ds ks no_members i w h e = absurd (cc)
member_shown ds ks (member name v ms) zero w (k, rest, f, h, more) e =
    let same : (name, v) ≡ w = cc in
    (k, ap (λ l. slice_get l 0) f ∙ ap (λ (y : tree.Span × Tree). Some (y.0, k)) same, subst (λ y. Shows ds k y.1) same h)
member_shown ds ks (member name v ms) (suc i) w (k, rest, f, h, more) e = let q = member_shown ds rest ms i w more e in (q.0, ap (λ l. slice_get l (suc i)) f ∙ q.1, q.2)

array_values : (c : Content) (ks : List ℕ) → shape_of c ≡ list ks → values_in c ≡ ks
array_values (content.Plain p) ks e = absurd (cc)
array_values (content.List v) ks e = cc
array_values (content.Object v) ks e = absurd (cc)

-- the stored member at i
object_member : (c : Content) (ks : List (tree.Span × ℕ)) (i : ℕ) (m : tree.Span × ℕ) → shape_of c ≡ object ks → slice_get ks i ≡ Some m
    → (x : Member) × (slice_get (values_in c) i ≡ Some x.value) × (slice_get (keys_in c) i ≡ Some x.key) × (member_of x ≡ m)
object_member (content.Plain p) ks i m e h = absurd (cc)
object_member (content.List v) ks i m e h = absurd (cc)
object_member (content.Object v) ks i m e h =
    let same : map member_of v.items ≡ ks = cc in
    let x = some_back member_of v.items i m (ap (λ l. slice_get l i) same ∙ h) in
    (x.0, some_on (λ (y : Member). y.value) v.items i x.0 x.1, some_on (λ (y : Member). y.key) v.items i x.0 x.1, x.2)

pub stored_value : (ds : Nodes) (e : Entry) (v w : Tree) (i : ℕ) → Stores ds e v → slice_get (values_of v) i ≡ Some w → (k : ℕ) × (slice_get (values_in e.content) i ≡ Some k) × Shows ds k w
stored_value ds e v w i (stores_plain p s shape place) h = absurd (cc)
stored_value ds e v w i (stores_array vs s ks shape place shown) h =
    let q = item_shown ds ks vs i w shown h in (q.0, ap (λ l. slice_get l i) (array_values e.content ks shape) ∙ q.1, q.2)
stored_value ds e v w i (stores_object ms s ks shape place shown) h =
    let m = some_back (λ (y : tree.Span × Tree). y.1) (members_of ms) i w h in
    let q = member_shown ds ks ms i m.0 shown m.1 in
    let x = object_member e.content ks i (m.0.0, q.0) shape q.1 in
    let number : x.0.value ≡ q.0 = ap (λ (y : tree.Span × ℕ). y.1) x.3 in
    (q.0, x.1 ∙ ap Some number, subst (Shows ds q.0) m.2 q.2)

pub stored_name : (ds : Nodes) (e : Entry) (v : Tree) (s : tree.Span) (i : ℕ) → Stores ds e v → slice_get (names_of v) i ≡ Some s → (x : Span) × (slice_get (keys_in e.content) i ≡ Some x) × (span_of x ≡ s)
stored_name ds e v s i (stores_plain p t shape place) h = absurd (cc)
stored_name ds e v s i (stores_array vs t ks shape place shown) h = absurd (cc)
stored_name ds e v s i (stores_object ms t ks shape place shown) h =
    let m = some_back (λ (y : tree.Span × Tree). y.0) (members_of ms) i s h in
    let q = member_shown ds ks ms i m.0 shown m.1 in
    let x = object_member e.content ks i (m.0.0, q.0) shape q.1 in
    (x.0.key, x.2, ap (λ (y : tree.Span × ℕ). y.0) x.3 ∙ m.2)

pub value_inside : (ds : Nodes) (e : Entry) (v : Tree) (i : ℕ) → Stores ds e v → i < length (values_of v) → i < length (values_in e.content)
value_inside ds e v i h lt =
    let w = inside_some (values_of v) i lt in
    let k = stored_value ds e v w.0 i h w.1 in
    slice_get_within (values_in e.content) i k.0 k.1

pub name_inside : (ds : Nodes) (e : Entry) (v : Tree) (i : ℕ) → Stores ds e v → i < length (names_of v) → i < length (keys_in e.content)
name_inside ds e v i h lt =
    let s = inside_some (names_of v) i lt in
    let k = stored_name ds e v s.0 i h s.1 in
    slice_get_within (keys_in e.content) i k.0 k.1
