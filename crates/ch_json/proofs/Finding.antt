-- The members of an object with a name, one member after another.
use Rattle.std.proofs.Common.{◌≡◌, ◌⊎◌, inl, inr, ℕ, zero, suc, ◌+◌, ◌≤◌, List, [], ◌∷◌, ◌++◌, append-nil, length, length-append, Bool, true, false, Some, refl, sym, ap, ◌∙◌, subst, arith}
use Rattle.std.specs.Prelude.{slice_get, nat_eq}
use Rattle.std.specs.Cmp.Lexicographic.{pointwise, same_text, other_text}
use Rattle.ch_base.specs.JsonTree.{Span, Tree, plain, string, object, Members, no_members, member}
use Rattle.ch_base.specs.JsonText.{Unescapes}
use Rattle.ch_base.specs.JsonParts.{part, members_of, IsSpelledIn}
use Rattle.ch_base.specs.JsonNames.{Named}
use Rattle.ch_json.specs.Document.{Document}
use Rattle.ch_json.specs.NodeOf.{IsNode, Finds}
use Rattle.ch_json.specs.declared.node.Node.{Node}
use Rattle.ch_json.specs.declared.node.Found.{Found}
use Rattle.ch_json.specs.declared.node.Found.TheVariants.{Absent, One, Many}
use Rattle.ch_json.proofs.OneText.{one_text}
use Rattle.ch_json.proofs.PartsOf.{member_spelled}
use Rattle.ch_json.proofs.Unescaped.{string_of_span}

-- the members from the i-th on
pub members_from : ℕ → Members → Members
members_from zero ms = ms
members_from (suc i) no_members = no_members
members_from (suc i) (member name v ms) = members_from i ms

from_here : (ms : Members) (i : ℕ) (m : Span × Tree) → slice_get (members_of ms) i ≡ Some m → members_from i ms ≡ member m.0 m.1 (members_from (i + 1) ms)
unfolding members_from
from_here no_members i m e = absurd (cc)
from_here (member name v ms) zero m e = let same : (name, v) ≡ m = cc in ap (λ (y : Span × Tree). member y.0 y.1 ms) same
from_here (member name v ms) (suc i) m e =
    let up : suc i + 1 ≡ suc (i + 1) = omega arith in
    from_here ms i m e ∙ ap (λ k. member m.0 m.1 (members_from k (member name v ms))) (sym up)

from_end : (ms : Members) (i : ℕ) → length (members_of ms) ≤ i → members_from i ms ≡ no_members
unfolding members_from
from_end no_members zero h = refl
from_end no_members (suc i) h = refl
from_end (member name v ms) zero h = absurd (omega arith)
from_end (member name v ms) (suc i) h = from_end ms i (omega arith)

-- ---- a list of values exists for each name

decided : (bytes w name : List ℕ) → Unescapes bytes w → Unescapes bytes name ⊎ (Unescapes bytes name → ⊥)
decided bytes w name h = test (pointwise nat_eq w name) refl
  where
    test : (b : Bool) → b ≡ pointwise nat_eq w name → Unescapes bytes name ⊎ (Unescapes bytes name → ⊥)
    test true e = inl (subst (Unescapes bytes) (same_text w name e) h)
    test false e = inr (λ k. other_text w name e (one_text bytes w name h k))

-- the names are strings
abbrev AllStrings : List ℕ → Members → Type 0
AllStrings text ms = (i : ℕ) (m : Span × Tree) → slice_get (members_of ms) i ≡ Some m → IsSpelledIn text (plain string m.0)

named_all : (text name : List ℕ) (ms : Members) → AllStrings text ms → (vs : List Tree) × Named text name ms vs
named_all text name no_members h = ([], refl)
named_all text name (member key v ms) h =
    let rest = named_all text name ms (λ i m e. h (suc i) m e) in
    let w = string_of_span text key (h 0 (key, v) refl) in
    elim (decided (part text key) w.0 name w.1) [ inl is ↦ (v ∷ rest.0, inl (is, (rest.0, refl, rest.1))) | inr other ↦ (rest.0, inr (other, rest.1)) ]

strings_from : (text : List ℕ) (ms : Members) (i : ℕ) → AllStrings text ms → AllStrings text (members_from i ms)
unfolding members_from
strings_from text ms zero h = h
strings_from text no_members (suc i) h = h
strings_from text (member name v ms) (suc i) h = strings_from text ms i (λ k m e. h (suc k) m e)

pub object_strings : (text : List ℕ) (ms : Members) (s : Span) → IsSpelledIn text (object ms s) → AllStrings text ms
object_strings text ms s h = λ i m e. (member_spelled text ms s i m h e).0

-- the list of a name's values is one
pub one_list : (text name : List ℕ) (ms : Members) (vs ws : List Tree) → Named text name ms vs → Named text name ms ws → vs ≡ ws
one_list text name no_members vs ws h k = h ∙ sym k
one_list text name (member key v ms) vs ws (inl (is, (r, e, h))) (inl (is2, (s, f, k))) = e ∙ ap (λ (l : List Tree). v ∷ l) (one_list text name ms r s h k) ∙ sym f
one_list text name (member key v ms) vs ws (inl (is, h)) (inr (other, k)) = absurd (other is)
one_list text name (member key v ms) vs ws (inr (other, h)) (inl (is, k)) = absurd (other is)
one_list text name (member key v ms) vs ws (inr (other, h)) (inr (other2, k)) = one_list text name ms vs ws h k

-- ---- the first i members

-- what was found among the first i members
pub record FoundSoFar (text : List ℕ) (d : Document) (name : List ℕ) (ms : Members) (i : ℕ) (found : Found) : Type 0 where
  pub values : List Tree
  pub finds : Finds text d values found
  pub few : found ≡ Many → ⊥
  pub rest : (vs : List Tree) → Named text name (members_from i ms) vs → Named text name ms (values ++ vs)

abbrev IsFew : Found → Type 0
IsFew Absent = Unit {0}
IsFew (One node) = Unit {0}
IsFew Many = ⊥

no_many : (found : Found) → found ≡ Many → IsFew found → ⊥
no_many found e h = subst IsFew e h

-- not one and not many
pub is_absent : (found : Found) → ((node : Node) → found ≡ One node → ⊥) → (found ≡ Many → ⊥) → found ≡ Absent
is_absent Absent one many = refl
is_absent (One node) one many = absurd (one node refl)
is_absent Many one many = absurd (many refl)

pub found_first : (text : List ℕ) (d : Document) (name : List ℕ) (ms : Members) → FoundSoFar text d name ms 0 Absent
unfolding members_from
found_first text d name ms = record { values = []; finds = refl; few = λ e. absurd (no_many Absent e tt); rest = λ vs h. h }

pub found_other : (text : List ℕ) (d : Document) (name : List ℕ) (ms : Members) (i : ℕ) (found : Found) (m : Span × Tree) → slice_get (members_of ms) i ≡ Some m → (Unescapes (part text m.0) name → ⊥) → FoundSoFar text d name ms i found
    → FoundSoFar text d name ms (i + 1) found
found_other text d name ms i found m e no_name h = record {
  values = h.values;
  finds = h.finds;
  few = h.few;
  rest = λ vs k. h.rest vs (subst (λ y. Named text name y vs) (sym (from_here ms i m e)) (inr (no_name, k)));
}

-- the values so far and this one
more_values : (text : List ℕ) (name : List ℕ) (ms : Members) (i : ℕ) (values : List Tree) (m : Span × Tree) → slice_get (members_of ms) i ≡ Some m → Unescapes (part text m.0) name
    → ((vs : List Tree) → Named text name (members_from i ms) vs → Named text name ms (values ++ vs)) → (vs : List Tree) → Named text name (members_from (i + 1) ms) vs → Named text name ms (values ++ m.1 ∷ vs)
more_values text name ms i values m e is_name rest vs k = rest (m.1 ∷ vs) (subst (λ y. Named text name y (m.1 ∷ vs)) (sym (from_here ms i m e)) (inl (is_name, (vs, refl, k))))

pub found_one : (text : List ℕ) (d : Document) (name : List ℕ) (ms : Members) (i : ℕ) (node : Node) (m : Span × Tree) → slice_get (members_of ms) i ≡ Some m → Unescapes (part text m.0) name → IsNode text d node m.1 → FoundSoFar text d name ms i Absent
    → FoundSoFar text d name ms (i + 1) (One node)
found_one text d name ms i node m e is_name shown h = record {
  values = m.1 ∷ [];
  finds = (m.1, refl, shown);
  few = λ e. absurd (no_many (One node) e tt);
  rest = λ vs k. subst (λ (y : List Tree). Named text name ms (y ++ m.1 ∷ vs)) h.finds (more_values text name ms i h.values m e is_name h.rest vs k);
}

pub found_many : (text : List ℕ) (d : Document) (name : List ℕ) (ms : Members) (i : ℕ) (node : Node) (m : Span × Tree) → AllStrings text ms → slice_get (members_of ms) i ≡ Some m → Unescapes (part text m.0) name → FoundSoFar text d name ms i (One node)
    → (vs : List Tree) × Named text name ms vs × Finds text d vs Many
found_many text d name ms i node m strings e is_name h =
    let rest = named_all text name (members_from (i + 1) ms) (strings_from text ms (i + 1) strings) in
    let one : length h.values ≡ 1 = ap length h.finds.1 in
    (h.values ++ m.1 ∷ rest.0, more_values text name ms i h.values m e is_name h.rest rest.0 rest.1, omega (arith, length-append h.values (m.1 ∷ rest.0)))

pub found_all : (text : List ℕ) (d : Document) (name : List ℕ) (ms : Members) (i : ℕ) (found : Found) → length (members_of ms) ≤ i → FoundSoFar text d name ms i found → (vs : List Tree) × Named text name ms vs × Finds text d vs found
found_all text d name ms i found past h = (h.values, named, h.finds)
  where
    nothing_more : h.values ++ [] ≡ h.values
    nothing_more = append-nil h.values

    named : Named text name ms h.values
    named = subst (Named text name ms) nothing_more (h.rest [] (subst (λ y. Named text name y []) (sym (from_end ms i past)) refl))
