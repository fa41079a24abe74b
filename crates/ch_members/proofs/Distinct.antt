-- That no name stands twice, one member after another.
use Rattle.std.proofs.Common.{◌≡◌, ◌⊎◌, inl, inr, ℕ, zero, suc, ◌+◌, ◌≤◌, List, [], ◌∷◌, ◌++◌, length, take, Bool, true, false, cond, Some, refl, sym, ap, ◌∙◌, subst, arith}
use Rattle.std.specs.Prelude.{slice_get, bytes_eq}
use Rattle.std.specs.Ordering.{nat_cmp}
use Rattle.std.specs.Cmp.Lexicographic.{slice_cmp, same_text, other_text}
use Rattle.std.specs.BTreeSet.{BTreeSet, contains, Updates}
use Rattle.std.proofs.lemmas.Map.Text.{is_eq-slice_cmp}
use Rattle.std.proofs.lemmas.List.{take_all}
use Rattle.ch_base.specs.JsonTree.{Span, Tree, plain, string, Members, no_members, member}
use Rattle.ch_base.specs.JsonText.{Unescapes}
use Rattle.ch_base.specs.JsonParts.{part, members_of, IsSpelledIn}
use Rattle.ch_base.specs.JsonNames.{Named}
use Rattle.ch_base.specs.ObjectMembers.{AreDistinct}
use Rattle.ch_json.proofs.OneText.{one_text}
use Rattle.ch_json.proofs.Unescaped.{string_of_span}

-- how often the name is in the list
pub times : List ℕ → List (List ℕ) → ℕ
times q [] = 0
times q (n ∷ ns) = cond (bytes_eq n q) (suc (times q ns)) (times q ns)

-- the names of these members
pub AreNames : List ℕ → List (Span × Tree) → List (List ℕ) → Type 0
AreNames text [] [] = Unit {0}
AreNames text (m ∷ ms) (n ∷ ns) = Unescapes (part text m.0) n × AreNames text ms ns
AreNames text _ _ = ⊥

times_push : (q n : List ℕ) (ns : List (List ℕ)) → times q (ns ++ n ∷ []) ≡ cond (bytes_eq n q) (suc (times q ns)) (times q ns)
unfolding times
times_push q n [] = refl
times_push q n (x ∷ ns) =
    elim (bytes_eq x q) as (λ b. cond b (suc (times q (ns ++ n ∷ []))) (times q (ns ++ n ∷ [])) ≡ cond (bytes_eq n q) (suc (cond b (suc (times q ns)) (times q ns))) (cond b (suc (times q ns)) (times q ns))) [
      | true ↦ ap suc (times_push q n ns) ∙ elim (bytes_eq n q) as (λ b. suc (cond b (suc (times q ns)) (times q ns)) ≡ cond b (suc (suc (times q ns))) (suc (times q ns))) [ true ↦ refl | false ↦ refl ]
      | false ↦ times_push q n ns
    ]

names_push : (text : List ℕ) (ms : List (Span × Tree)) (i : ℕ) (m : Span × Tree) (n : List ℕ) (ns : List (List ℕ)) → slice_get ms i ≡ Some m → Unescapes (part text m.0) n → AreNames text (take i ms) ns → AreNames text (take (suc i) ms) (ns ++ n ∷ [])
unfolding AreNames
names_push text [] i m n ns e is h = absurd (cc)
names_push text (x ∷ ms) zero m n [] e is h = let same : m ≡ x = cc in (subst (λ (y : Span × Tree). Unescapes (part text y.0) n) same is, tt)
names_push text (x ∷ ms) zero m n (y ∷ ns) e is h = absurd h
names_push text (x ∷ ms) (suc i) m n [] e is h = absurd h
names_push text (x ∷ ms) (suc i) m n (y ∷ ns) e is h = (h.0, names_push text ms i m n ns e is h.1)

is_same : (bytes n q : List ℕ) → Unescapes bytes n → Unescapes bytes q → bytes_eq n q ≡ true
is_same bytes n q h k = test (bytes_eq n q) refl
  where
    test : (b : Bool) → b ≡ bytes_eq n q → b ≡ true
    test true e = refl
    test false e = absurd (other_text n q e (one_text bytes n q h k))

is_other : (bytes n q : List ℕ) → Unescapes bytes n → (Unescapes bytes q → ⊥) → bytes_eq n q ≡ false
is_other bytes n q h k = test (bytes_eq n q) refl
  where
    test : (b : Bool) → b ≡ bytes_eq n q → b ≡ false
    test true e = absurd (k (subst (Unescapes bytes) (same_text n q e) h))
    test false e = refl

-- the members of a name are as many as the name is in the names
named_times : (text q : List ℕ) (ms : Members) (ns : List (List ℕ)) (vs : List Tree) → AreNames text (members_of ms) ns → Named text q ms vs → length vs ≡ times q ns
unfolding times AreNames
named_times text q no_members [] vs h k = ap length k
named_times text q no_members (n ∷ ns) vs h k = absurd h
named_times text q (member key v ms) [] vs h k = absurd h
named_times text q (member key v ms) (n ∷ ns) vs h (inl (is, (rest, e, k))) =
    let one : bytes_eq n q ≡ true = is_same (part text key) n q h.0 is in
    let more : length rest ≡ times q ns = named_times text q ms ns rest h.1 k in
    ap length e ∙ ap suc more ∙ ap (λ b. cond b (suc (times q ns)) (times q ns)) (sym one)
named_times text q (member key v ms) (n ∷ ns) vs h (inr (other, k)) =
    let none : bytes_eq n q ≡ false = is_other (part text key) n q h.0 other in
    named_times text q ms ns vs h.1 k ∙ ap (λ b. cond b (suc (times q ns)) (times q ns)) (sym none)

-- and no fewer than in the names of the first ones
named_front : (text q : List ℕ) (ms : Members) (i : ℕ) (ns : List (List ℕ)) (vs : List Tree) → AreNames text (take i (members_of ms)) ns → Named text q ms vs → times q ns ≤ length vs
unfolding times AreNames
named_front text q no_members zero [] vs h k = omega arith
named_front text q no_members (suc i) [] vs h k = omega arith
named_front text q (member key v ms) zero [] vs h k = omega arith
named_front text q (member key v ms) (suc i) [] vs h k = absurd h
named_front text q no_members zero (n ∷ ns) vs h k = absurd h
named_front text q no_members (suc i) (n ∷ ns) vs h k = absurd h
named_front text q (member key v ms) zero (n ∷ ns) vs h k = absurd h
named_front text q (member key v ms) (suc i) (n ∷ ns) vs h (inl (is, (rest, e, k))) =
    let one : bytes_eq n q ≡ true = is_same (part text key) n q h.0 is in
    let more : times q ns ≤ length rest = named_front text q ms i ns rest h.1 k in
    let size : length vs ≡ suc (length rest) = ap length e in
    subst (λ b. cond b (suc (times q ns)) (times q ns) ≤ length vs) (sym one) (omega arith)
named_front text q (member key v ms) (suc i) (n ∷ ns) vs h (inr (other, k)) =
    let none : bytes_eq n q ≡ false = is_other (part text key) n q h.0 other in
    subst (λ b. cond b (suc (times q ns)) (times q ns) ≤ length vs) (sym none) (named_front text q ms i ns vs h.1 k)

-- ---- a list of values exists for each name

abbrev AllStrings : List ℕ → Members → Type 0
AllStrings text ms = (i : ℕ) (m : Span × Tree) → slice_get (members_of ms) i ≡ Some m → IsSpelledIn text (plain string m.0)

decided : (bytes w name : List ℕ) → Unescapes bytes w → Unescapes bytes name ⊎ (Unescapes bytes name → ⊥)
decided bytes w name h = test (bytes_eq w name) refl
  where
    test : (b : Bool) → b ≡ bytes_eq w name → Unescapes bytes name ⊎ (Unescapes bytes name → ⊥)
    test true e = inl (subst (Unescapes bytes) (same_text w name e) h)
    test false e = inr (λ k. other_text w name e (one_text bytes w name h k))

named_all : (text name : List ℕ) (ms : Members) → AllStrings text ms → (vs : List Tree) × Named text name ms vs
named_all text name no_members h = ([], refl)
named_all text name (member key v ms) h =
    let rest = named_all text name ms (λ i m e. h (suc i) m e) in
    let w = string_of_span text key (h 0 (key, v) refl) in
    elim (decided (part text key) w.0 name w.1) [ inl is ↦ (v ∷ rest.0, inl (is, (rest.0, refl, rest.1))) | inr other ↦ (rest.0, inr (other, rest.1)) ]

-- ---- the first i members

-- the set has the names of the first i members, and none of them stands twice
pub record NamesSoFar (text : List ℕ) (ms : Members) (i : ℕ) (set : BTreeSet (List ℕ)) : Type 0 where
  pub names : List (List ℕ)
  pub are : AreNames text (take i (members_of ms)) names
  pub held : (q : List ℕ) → times q names ≡ cond (contains (slice_cmp nat_cmp) set q) 1 0

pub names_first : (text : List ℕ) (ms : Members) (set : BTreeSet (List ℕ)) → ((q : List ℕ) → contains (slice_cmp nat_cmp) set q ≡ false) → NamesSoFar text ms 0 set
unfolding times AreNames
names_first text ms set h = record { names = []; are = tt; held = λ q. ap (λ b. cond b 1 0) (sym (h q)) }

-- one more name, which the set didn't have
pub names_more : (text : List ℕ) (ms : Members) (i : ℕ) (old new : BTreeSet (List ℕ)) (m : Span × Tree) (n : List ℕ) → slice_get (members_of ms) i ≡ Some m → Unescapes (part text m.0) n → contains (slice_cmp nat_cmp) old n ≡ false
    → Updates (slice_cmp nat_cmp) old new n true → NamesSoFar text ms i old → NamesSoFar text ms (i + 1) new
names_more text ms i old new m n e is fresh u h = record {
  names = h.names ++ n ∷ [];
  are = subst (λ k. AreNames text (take k (members_of ms)) (h.names ++ n ∷ [])) up (names_push text (members_of ms) i m n h.names e is h.are);
  held = λ q. times_push q n h.names ∙ test q (bytes_eq n q) refl;
}
  where
    up : suc i ≡ i + 1
    up = omega arith

    has : (q : List ℕ) → contains (slice_cmp nat_cmp) new q ≡ cond (bytes_eq n q) true (contains (slice_cmp nat_cmp) old q)
    has q = u.0 q ∙ ap (λ b. cond b true (contains (slice_cmp nat_cmp) old q)) (is_eq-slice_cmp n q)

    test : (q : List ℕ) (b : Bool) → b ≡ bytes_eq n q → cond b (suc (times q h.names)) (times q h.names) ≡ cond (contains (slice_cmp nat_cmp) new q) 1 0
    test q true e =
        let same : n ≡ q = same_text n q e in
        let none : times q h.names ≡ 0 = h.held q ∙ ap (λ b. cond b 1 0) (subst (λ (y : List ℕ). contains (slice_cmp nat_cmp) old y ≡ false) same fresh) in
        ap suc none ∙ ap (λ b. cond b 1 0) (sym (has q ∙ ap (λ b. cond b true (contains (slice_cmp nat_cmp) old q)) (sym e)))
    test q false e = h.held q ∙ ap (λ b. cond b 1 0) (sym (has q ∙ ap (λ b. cond b true (contains (slice_cmp nat_cmp) old q)) (sym e)))

-- the name is there already
pub names_twice : (text : List ℕ) (ms : Members) (i : ℕ) (set : BTreeSet (List ℕ)) (m : Span × Tree) (n : List ℕ) → AllStrings text ms → slice_get (members_of ms) i ≡ Some m → Unescapes (part text m.0) n → contains (slice_cmp nat_cmp) set n ≡ true
    → NamesSoFar text ms i set → AreDistinct text ms → ⊥
names_twice text ms i set m n strings e is there h distinct =
    let all = named_all text n ms strings in
    let once : times n h.names ≡ 1 = h.held n ∙ ap (λ b. cond b 1 0) there in
    let twice : times n (h.names ++ n ∷ []) ≡ suc (times n h.names) = times_push n n h.names ∙ ap (λ b. cond b (suc (times n h.names)) (times n h.names)) (is_same (part text m.0) n n is is) in
    let front : times n (h.names ++ n ∷ []) ≤ length all.0 = named_front text n ms (suc i) (h.names ++ n ∷ []) all.0 (names_push text (members_of ms) i m n h.names e is h.are) all.1 in
    let few : length all.0 ≤ 1 = distinct n all.0 all.1 in
    absurd (omega arith)

-- no name is there twice
pub names_all : (text : List ℕ) (ms : Members) (i : ℕ) (set : BTreeSet (List ℕ)) → length (members_of ms) ≤ i → NamesSoFar text ms i set → AreDistinct text ms
names_all text ms i set past h name vs named =
    let whole = subst (λ (y : List (Span × Tree)). AreNames text y h.names) (take_all i (members_of ms) past) h.are in
    let size : length vs ≡ times name h.names = named_times text name ms h.names vs whole named in
    let few : times name h.names ≤ 1 = subst (λ k. k ≤ 1) (sym (h.held name)) (at_most_one (contains (slice_cmp nat_cmp) set name)) in
    omega arith
  where
    at_most_one : (b : Bool) → cond b 1 0 ≤ 1
    at_most_one true = omega arith
    at_most_one false = omega arith
