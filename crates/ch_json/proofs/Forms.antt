-- The value that a form is the form of.
use Rattle.std.proofs.Common.{◌≡◌, ◌<◌, ℕ, length, Some, refl, sym, subst, arith}
use Rattle.ch_base.specs.JsonTree.{Span, null, no, yes, number, string, Tree, plain, array, object, Items, Members}
use Rattle.ch_base.specs.JsonParts.{items_of, members_of, values_of, names_of}
use Rattle.std.specs.Prelude.{slice_get}
use Rattle.std.proofs.lemmas.List.{length-map}
use Rattle.ch_json.proofs.Lists.{inside_some}
use Rattle.ch_json.specs.NodeOf.{form_of}
use Rattle.ch_json.specs.declared.node.Form.TheVariants as form

pub object_from_form : (v : Tree) (n : ℕ) → form.Object n ≡ form_of v → (ms : Members) × (s : Span) × (v ≡ object ms s) × (n ≡ length (members_of ms))
object_from_form (plain null s) n e = absurd (cc)
object_from_form (plain no s) n e = absurd (cc)
object_from_form (plain yes s) n e = absurd (cc)
object_from_form (plain number s) n e = absurd (cc)
object_from_form (plain string s) n e = absurd (cc)
object_from_form (array vs s) n e = absurd (cc)
object_from_form (object ms s) n e = (ms, s, refl, cc)

pub array_from_form : (v : Tree) (n : ℕ) → form.List n ≡ form_of v → (vs : Items) × (s : Span) × (v ≡ array vs s) × (n ≡ length (items_of vs))
array_from_form (plain null s) n e = absurd (cc)
array_from_form (plain no s) n e = absurd (cc)
array_from_form (plain yes s) n e = absurd (cc)
array_from_form (plain number s) n e = absurd (cc)
array_from_form (plain string s) n e = absurd (cc)
array_from_form (array vs s) n e = (vs, s, refl, cc)
array_from_form (object ms s) n e = absurd (cc)

pub string_from_form : (v : Tree) → form.Str ≡ form_of v → (s : Span) × (v ≡ plain string s)
string_from_form (plain null s) e = absurd (cc)
string_from_form (plain no s) e = absurd (cc)
string_from_form (plain yes s) e = absurd (cc)
string_from_form (plain number s) e = absurd (cc)
string_from_form (plain string s) e = (s, refl)
string_from_form (array vs s) e = absurd (cc)
string_from_form (object ms s) e = absurd (cc)

-- the i-th value of an array
pub list_value : (v : Tree) (n i : ℕ) → form.List n ≡ form_of v → i < n → (i < length (values_of v)) × ((w : Tree) × (slice_get (values_of v) i ≡ Some w))
list_value v n i e lt =
    let k = array_from_form v n e in
    let inside : i < length (values_of v) = subst (λ y. i < length (values_of y)) (sym k.2) (omega (arith, k.3)) in
    (inside, inside_some (values_of v) i inside)

-- the value of the i-th member of an object
pub member_value : (v : Tree) (n i : ℕ) → form.Object n ≡ form_of v → i < n → (i < length (values_of v)) × ((w : Tree) × (slice_get (values_of v) i ≡ Some w))
member_value v n i e lt =
    let k = object_from_form v n e in
    let count : length (values_of (object k.0 k.1)) ≡ length (members_of k.0) = simp length-map refl in
    let inside : i < length (values_of v) = subst (λ y. i < length (values_of y)) (sym k.2) (omega (arith, k.3, count)) in
    (inside, inside_some (values_of v) i inside)

-- and its name
pub member_name : (v : Tree) (n i : ℕ) → form.Object n ≡ form_of v → i < n → (i < length (names_of v)) × ((s : Span) × (slice_get (names_of v) i ≡ Some s))
member_name v n i e lt =
    let k = object_from_form v n e in
    let count : length (names_of (object k.0 k.1)) ≡ length (members_of k.0) = simp length-map refl in
    let inside : i < length (names_of v) = subst (λ y. i < length (names_of y)) (sym k.2) (omega (arith, k.3, count)) in
    (inside, inside_some (names_of v) i inside)
