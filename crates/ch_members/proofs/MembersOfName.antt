-- What a value and the members of a name say.
use Rattle.std.proofs.Common.{◌≡◌, inl, inr, ℕ, ◌≤◌, List, [], ◌∷◌, length, Some, refl, sym, ap, ◌∙◌, subst, arith}
use Rattle.std.specs.Prelude.{Option, None}
use Rattle.ch_base.specs.JsonTree.{Span, Tree, plain, null, no, yes, number, string, array, object, Members}
use Rattle.ch_base.specs.JsonText.{Unescapes}
use Rattle.ch_base.specs.JsonParts.{part, spelled_at, IsSpelledIn}
use Rattle.ch_base.specs.JsonNames.{Named}
use Rattle.ch_base.specs.ObjectMembers.{HasNone, HasOne, IsStringOf, HasString, HasOptional, HasSpelled}
use Rattle.ch_json.specs.Document.{Document}
use Rattle.ch_json.specs.NodeOf.{IsNode, Finds, form_of}
use Rattle.ch_json.specs.declared.node.Node.{Node}
use Rattle.ch_json.specs.declared.node.Form.{Form}
use Rattle.ch_json.specs.declared.node.Form.TheVariants as form
use Rattle.ch_json.specs.declared.node.Found.{Found}
use Rattle.ch_json.specs.declared.node.Found.TheVariants.{Absent, One, Many}
use Rattle.ch_json.proofs.Finding.{one_list}
use Rattle.ch_json.proofs.Forms.{string_from_form}
use Rattle.ch_members.specs.declared.array.Array.{Array}
use Rattle.ch_members.specs.Readings.{Gives, IsOptionalOf, IsObjectNode, ReadsObjectMember, ReadsArray, ReadsArrayMember}

-- ---- one value

pub string_span : (text : List ℕ) (v : Tree) (s : Span) → form.Str ≡ form_of v → s ≡ spelled_at v → IsSpelledIn text v → IsSpelledIn text (plain string s)
string_span text v s e at h =
    let k = string_from_form v e in
    let place : k.0 ≡ s = sym (ap spelled_at k.1) ∙ sym at in
    subst (λ (y : Span). IsSpelledIn text (plain string y)) place (subst (IsSpelledIn text) k.1 h)

pub string_is : (text : List ℕ) (v : Tree) (s : Span) (x : List ℕ) → form.Str ≡ form_of v → s ≡ spelled_at v → Unescapes (part text s) x → IsStringOf text v x
string_is text v s x e at h =
    let k = string_from_form v e in
    let place : s ≡ k.0 = at ∙ ap spelled_at k.1 in
    subst (λ (y : Tree). IsStringOf text y x) (sym k.1) (subst (λ (y : Span). Unescapes (part text y) x) place h)

pub no_string : (text : List ℕ) (v : Tree) (f : Form) (x : List ℕ) → f ≡ form_of v → (f ≡ form.Str → ⊥) → IsStringOf text v x → ⊥
no_string text (plain null s) f x e other h = h
no_string text (plain no s) f x e other h = h
no_string text (plain yes s) f x e other h = h
no_string text (plain number s) f x e other h = h
no_string text (plain string s) f x e other h = other e
no_string text (array vs s) f x e other h = h
no_string text (object ms s) f x e other h = h

pub null_from_form : (v : Tree) → form.Null ≡ form_of v → (s : Span) × (v ≡ plain null s)
null_from_form (plain null s) e = (s, refl)
null_from_form (plain no s) e = absurd (cc)
null_from_form (plain yes s) e = absurd (cc)
null_from_form (plain number s) e = absurd (cc)
null_from_form (plain string s) e = absurd (cc)
null_from_form (array vs s) e = absurd (cc)
null_from_form (object ms s) e = absurd (cc)

pub no_optional : (text : List ℕ) (v : Tree) (f : Form) (x : Option (List ℕ)) → f ≡ form_of v → (f ≡ form.Null → ⊥) → (f ≡ form.Str → ⊥) → IsOptionalOf text v x → ⊥
no_optional text v f None e no_null other h = no_null (e ∙ ap form_of h.1)
no_optional text v f (Some x) e no_null other h = no_string text v f x e other h

-- ---- the members of a name

pub one_value : (text name : List ℕ) (ms : Members) (v w : Tree) → HasOne text ms name v → HasOne text ms name w → v ≡ w
one_value text name ms v w h k = let same : ◌≡◌ {A = List Tree} (v ∷ []) (w ∷ []) = one_list text name ms (v ∷ []) (w ∷ []) h k in cc

pub none_or_one : (text name : List ℕ) (ms : Members) (v : Tree) → HasNone text ms name → HasOne text ms name v → ⊥
none_or_one text name ms v h k = let same : ◌≡◌ {A = List Tree} [] (v ∷ []) = one_list text name ms [] (v ∷ []) h k in cc

-- a look that didn't find one
pub not_one : (text name : List ℕ) (d : Document) (ms : Members) (vs : List Tree) (found : Found) (v : Tree) → Named text name ms vs → Finds text d vs found → ((node : Node) → found ≡ One node → ⊥) → HasOne text ms name v → ⊥
not_one text name d ms vs Absent v named h other k = let same : ◌≡◌ {A = List Tree} vs (v ∷ []) = one_list text name ms vs (v ∷ []) named k in cc
not_one text name d ms vs (One node) v named h other k = other node refl
not_one text name d ms vs Many v named h other k = let same : ◌≡◌ {A = List Tree} vs (v ∷ []) = one_list text name ms vs (v ∷ []) named k in let one : length vs ≡ 1 = ap length same in absurd (omega arith)

pub many_not_none : (text name : List ℕ) (ms : Members) (vs : List Tree) → Named text name ms vs → 2 ≤ length vs → HasNone text ms name → ⊥
many_not_none text name ms vs named h k = let same : ◌≡◌ {A = List Tree} vs [] = one_list text name ms vs [] named k in let none : length vs ≡ 0 = ap length same in absurd (omega arith)

pub many_not_one : (text name : List ℕ) (ms : Members) (vs : List Tree) (v : Tree) → Named text name ms vs → 2 ≤ length vs → HasOne text ms name v → ⊥
many_not_one text name ms vs v named h k = let same : ◌≡◌ {A = List Tree} vs (v ∷ []) = one_list text name ms vs (v ∷ []) named k in let one : length vs ≡ 1 = ap length same in absurd (omega arith)

-- a look that didn't find none
pub not_absent : (text name : List ℕ) (d : Document) (ms : Members) (vs : List Tree) (found : Found) → Named text name ms vs → Finds text d vs found → (found ≡ Absent → ⊥) → HasNone text ms name → ⊥
not_absent text name d ms vs Absent named h other none = other refl
not_absent text name d ms vs (One node) named h other none = none_or_one text name ms h.0 none (subst (Named text name ms) h.1 named)
not_absent text name d ms vs Many named h other none = many_not_none text name ms vs named h none

pub gives_string : (text name : List ℕ) (ms : Members) (v : Tree) → HasOne text ms name v → (o : Option (List ℕ)) → Gives (IsStringOf text v) o → Gives (HasString text ms name) o
gives_string text name ms v has (Some x) h = (v, has, h)
gives_string text name ms v has None h = λ x k. h x (subst (λ (w : Tree). IsStringOf text w x) (one_value text name ms k.0 v k.1 has) k.2)

-- ---- members that may be left out

optional_back : (text name : List ℕ) (ms : Members) (v : Tree) → HasOne text ms name v → (x : Option (List ℕ)) → HasOptional text ms name x → IsOptionalOf text v x
optional_back text name ms v has None (inl none) = absurd (none_or_one text name ms v none has)
optional_back text name ms v has None (inr (s, k)) = (s, one_value text name ms v (plain null s) has k)
optional_back text name ms v has (Some x) (w, k, h) = subst (λ (y : Tree). IsStringOf text y x) (one_value text name ms w v k has) h

pub gives_optional : (text name : List ℕ) (ms : Members) (v : Tree) → HasOne text ms name v → (o : Option (Option (List ℕ))) → Gives (IsOptionalOf text v) o → Gives (HasOptional text ms name) o
gives_optional text name ms v has (Some None) h = inr (h.0, subst (HasOne text ms name) h.1 has)
gives_optional text name ms v has (Some (Some x)) h = (v, has, h)
gives_optional text name ms v has None h = λ x k. h x (optional_back text name ms v has x k)

pub many_no_optional : (text name : List ℕ) (ms : Members) (vs : List Tree) → Named text name ms vs → 2 ≤ length vs → (x : Option (List ℕ)) → HasOptional text ms name x → ⊥
many_no_optional text name ms vs named h None (inl none) = many_not_none text name ms vs named h none
many_no_optional text name ms vs named h None (inr (s, k)) = many_not_one text name ms vs (plain null s) named h k
many_no_optional text name ms vs named h (Some x) (w, k, i) = many_not_one text name ms vs w named h k

pub many_no_spelling : (text name : List ℕ) (ms : Members) (vs : List Tree) → Named text name ms vs → 2 ≤ length vs → (x : List ℕ) → HasSpelled text ms name x → ⊥
many_no_spelling text name ms vs named h x (inl (none, e)) = many_not_none text name ms vs named h none
many_no_spelling text name ms vs named h x (inr (w, k, e)) = many_not_one text name ms vs w named h k

-- ---- members that are objects or arrays

pub reads_object : (text name : List ℕ) (d : Document) (ms : Members) (value : Node) (v : Tree) → HasOne text ms name v → IsNode text d value v → (o : Option Node) → IsObjectNode v value o → ReadsObjectMember text d ms name o
reads_object text name d ms value v has node (Some same) (e, (inner, s, f)) = (
  inner,
  (s, subst (HasOne text ms name) f has),
  (s, subst (λ (n : Node). IsNode text d n (object inner s)) (sym e) (subst (IsNode text d value) f node)),
)
reads_object text name d ms value v has node None h = λ inner k. h inner k.0 (one_value text name ms v (object inner k.0) has k.1)

pub reads_array : (text name : List ℕ) (d : Document) (ms : Members) (v : Tree) → HasOne text ms name v → (o : Option Array) → ReadsArray text d v o → ReadsArrayMember text d ms name o
reads_array text name d ms v has (Some a) (vs, s, e, is) = (vs, (s, subst (HasOne text ms name) e has), is)
reads_array text name d ms v has None h = λ vs k. h vs k.0 (one_value text name ms v (array vs k.0) has k.1)
