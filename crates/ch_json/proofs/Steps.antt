-- A byte of a text, and what may follow it.
use Rattle.std.proofs.Common.{◌≡◌, ◌⊎◌, inl, inr, ℕ, zero, suc, ◌+◌, List, [], ◌∷◌, ◌++◌, length, Bool, true, false, ◌||◌, ◌==◌, refl, sym, ap, ap₂, ◌∙◌, subst, arith}
use Rattle.std.proofs.lemmas.Bool.{eqb-true}
use Rattle.ch_base.specs.Grammar.{Byte, One, ◌then◌, Many}
use Rattle.ch_base.specs.JsonTree.{Span, Plain, Tree, Items, no_items, item, Members, no_members, member}
use Rattle.ch_base.specs.JsonTree as tree
use Rattle.ch_base.specs.JsonText.{is_blank, Blanks, is_digit, is_digit_1_to_9, Value, Items_, MoreItems, Members_, MoreMembers, PlainValue, Chars}
use Rattle.ch_json.specs.Scalars as scalars
use Rattle.ch_json.specs.Scalars.{chars, StringStep, ends, on, fault, string_step, AfterStringStep, InNumber, minus, NumberStep, more, stop, number_step, may_end, RestOfNumber, AfterNumberStep}
use Rattle.ch_json.specs.Machine.{span, Frame, in_array, in_object, Mode, value, first_item, first_key, next_key, key, colon, word, number, string, after, Outcome, go, wrong, onto, onto_members, open_bracket, start_number, start, after_step, in_word, string_outcome, key_outcome, number_outcome, step, Goes, BehindValue, AtValue, AtColon, AtKey, Completes, AfterStep}
use Rattle.ch_json.proofs.Choice.{either_way, when_so, when_not}
use Rattle.ch_json.proofs.Strings.{One-cons, same_eqb, string_on, string_back}
use Rattle.ch_json.proofs.Numbers.{number_on, number_back, number_ends}

abbrev At : ℕ → List ℕ → Tree → Outcome → Type 0
At n t w o = AfterStep n o t w

span_is : (s : Span) (a b : ℕ) → s.from ≡ a → s.to ≡ b → s ≡ span a b
span_is s a b e f = ap₂ span e f

-- blanks before a byte: the first is that byte, or a blank with blanks behind it
Blanks-cons : (b a : ℕ) (t r : List ℕ) → (Blanks then Byte a) (b ∷ t) r → ((b ≡ a) × (t ≡ r)) ⊎ ((is_blank b ≡ true) × (Blanks then Byte a) t r)
Blanks-cons b a t r (m, inl same, e) = inl (cc, cc)
Blanks-cons b a t r (m, inr (is, h), e) = inr (is, (m, h, e))

-- ---- behind a value

after_on : (n : ℕ) (v : Tree) (room : ℕ) (fs : List Frame) (at b : ℕ) (t : List ℕ) (w : Tree) → at + length (b ∷ t) ≡ n → Goes n room fs v (b ∷ t) w → AfterStep n (after_step v room fs at b) t w
unfolding after_step
after_on n v room [] at b t w size (inl h, e) = absurd (cc)
after_on n v room [] at b t w size (inr (is, h), e) = when_so (At n t w) (is_blank b) (go (after v) room []) wrong is (h, e)
after_on n v room (in_array from vs ∷ fs) at b t w size (no_items, r, s, h, e, f, k) =
    elim (Blanks-cons b 93 t r h) [
      | inl p ↦
          let here : s ≡ span from (at + 1) = span_is s from (at + 1) e (omega (arith, ap length p.1)) in
          subst (λ y. AfterStep n (after_step v room (in_array from vs ∷ fs) at y) t w) (sym p.0)
          (subst (λ y. Goes n (suc room) fs (tree.array (onto vs (item v no_items)) (span from (at + 1))) y w) (sym p.1)
          (subst (λ y. Goes n (suc room) fs (tree.array (onto vs (item v no_items)) y) r w) here k))
      | inr p ↦ when_so (At n t w) (is_blank b) _ _ p.0 (no_items, r, s, p.1, e, f, k)
    ]
after_on n v room (in_array from vs ∷ fs) at b t w size (item v2 vs2, r, s, (m, j, (m1, inl same, (m2, e2, h)), val, rest), e, f, k) =
    let comma : b ≡ 44 = cc in
    let behind : m2 ≡ t = cc in
    subst (λ y. AfterStep n (after_step v room (in_array from vs ∷ fs) at y) t w) (sym comma) (m, subst (λ y. Blanks y m) behind h, (v2, j, val, (vs2, r, s, rest, e, f, k)))
after_on n v room (in_array from vs ∷ fs) at b t w size (item v2 vs2, r, s, (m, j, (m1, inr (is, blanks), (m2, e2, h)), val, rest), e, f, k) =
    when_so (At n t w) (is_blank b) _ _ is (item v2 vs2, r, s, (m, j, (m1, blanks, (m2, e2, h)), val, rest), e, f, k)
after_on n v room (in_object from ms name ∷ fs) at b t w size (no_members, r, s, h, e, f, k) =
    elim (Blanks-cons b 125 t r h) [
      | inl p ↦
          let here : s ≡ span from (at + 1) = span_is s from (at + 1) e (omega (arith, ap length p.1)) in
          subst (λ y. AfterStep n (after_step v room (in_object from ms name ∷ fs) at y) t w) (sym p.0)
          (subst (λ y. Goes n (suc room) fs (tree.object (onto_members ms (member name v no_members)) (span from (at + 1))) y w) (sym p.1)
          (subst (λ y. Goes n (suc room) fs (tree.object (onto_members ms (member name v no_members)) y) r w) here k))
      | inr p ↦ when_so (At n t w) (is_blank b) _ _ p.0 (no_members, r, s, p.1, e, f, k)
    ]
after_on n v room (in_object from ms name ∷ fs) at b t w size (member name2 v2 ms2, r, s, (m, j1, j2, j3, (m1, inl same, (m2, e2, h)), str, col, val, rest), e, f, k) =
    let comma : b ≡ 44 = cc in
    let behind : m2 ≡ t = cc in
    subst (λ y. AfterStep n (after_step v room (in_object from ms name ∷ fs) at y) t w) (sym comma)
    (m, name2, j1, subst (λ y. Blanks y m) behind h, str, (j2, col, (v2, j3, val, (ms2, r, s, rest, e, f, k))))
after_on n v room (in_object from ms name ∷ fs) at b t w size (member name2 v2 ms2, r, s, (m, j1, j2, j3, (m1, inr (is, blanks), (m2, e2, h)), str, col, val, rest), e, f, k) =
    when_so (At n t w) (is_blank b) _ _ is (member name2 v2 ms2, r, s, (m, j1, j2, j3, (m1, blanks, (m2, e2, h)), str, col, val, rest), e, f, k)

after_back : (n : ℕ) (v : Tree) (room : ℕ) (fs : List Frame) (at b : ℕ) (t : List ℕ) (w : Tree) → at + length (b ∷ t) ≡ n → AfterStep n (after_step v room fs at b) t w → Goes n room fs v (b ∷ t) w
unfolding after_step
after_back n v room [] at b t w size h = either_way (At n t w) (is_blank b) (go (after v) room []) wrong (λ is k. (inr (is, k.0), k.1)) (λ _ k. absurd k) h
after_back n v room (in_array from vs ∷ fs) at b t w size h =
    either_way (At n t w) (is_blank b) (go (after v) room (in_array from vs ∷ fs)) _ (λ is k. blank k.0 k.1 k.2 is k.3 k.4 k.5 k.6)
    (λ _.
    either_way (At n t w) (b == 44) (go value room (in_array from (item v vs) ∷ fs)) _ (λ comma k.
    (item k.2.0 k.2.3.0, k.2.3.1, k.2.3.2, (k.0, k.2.1, (b ∷ t, inl refl, (t, rw (eqb-true b 44 comma) refl, k.1)), k.2.2, k.2.3.3), k.2.3.4, k.2.3.5, k.2.3.6))
    (λ _.
    either_way (At n t w) (b == 93) (go (after (tree.array (onto vs (item v no_items)) (span from (at + 1)))) (suc room) fs) wrong (λ close k.
    (no_items, t, span from (at + 1), (b ∷ t, inl refl, rw (eqb-true b 93 close) refl), refl, omega arith, k))
    (λ _ k. absurd k))) h
  where
    blank : (more_ : Items) (r : List ℕ) (s : Span) → is_blank b ≡ true → MoreItems n room more_ t r → s.from ≡ from → s.to + length r ≡ n → Goes n (suc room) fs (tree.array (onto vs (item v more_)) s) r w
        → Goes n room (in_array from vs ∷ fs) v (b ∷ t) w
    blank no_items r s is (m, h, e) f g k = (no_items, r, s, (m, inr (is, h), e), f, g, k)
    blank (item v2 vs2) r s is (m, j, (m1, h, x), val, rest) f g k = (item v2 vs2, r, s, (m, j, (m1, inr (is, h), x), val, rest), f, g, k)
after_back n v room (in_object from ms name ∷ fs) at b t w size h =
    either_way (At n t w) (is_blank b) (go (after v) room (in_object from ms name ∷ fs)) _ (λ is k. blank k.0 k.1 k.2 is k.3 k.4 k.5 k.6)
    (λ _.
    either_way (At n t w) (b == 44) (go (next_key from (member name v ms)) room fs) _ (λ comma k. after_comma comma k)
    (λ _.
    either_way (At n t w) (b == 125) (go (after (tree.object (onto_members ms (member name v no_members)) (span from (at + 1)))) (suc room) fs) wrong (λ close k.
    (no_members, t, span from (at + 1), (b ∷ t, inl refl, rw (eqb-true b 125 close) refl), refl, omega arith, k))
    (λ _ k. absurd k))) h
  where
    blank : (more_ : Members) (r : List ℕ) (s : Span) → is_blank b ≡ true → MoreMembers n room more_ t r → s.from ≡ from → s.to + length r ≡ n → Goes n (suc room) fs (tree.object (onto_members ms (member name v more_)) s) r w
        → Goes n room (in_object from ms name ∷ fs) v (b ∷ t) w
    blank no_members r s is (m, h, e) f g k = (no_members, r, s, (m, inr (is, h), e), f, g, k)
    blank (member name2 v2 ms2) r s is (m, j1, j2, j3, (m1, h, x), str, col, val, rest) f g k = (member name2 v2 ms2, r, s, (m, j1, j2, j3, (m1, inr (is, h), x), str, col, val, rest), f, g, k)

    after_comma : (b == 44) ≡ true → AtKey n room fs from (member name v ms) t w → Goes n room (in_object from ms name ∷ fs) v (b ∷ t) w
    after_comma comma (m, name2, j1, h, str, (j2, col, (v2, j3, val, (ms2, r, s, rest, f, g, k)))) =
        (member name2 v2 ms2, r, s, (m, j1, j2, j3, (b ∷ t, inl refl, (t, rw (eqb-true b 44 comma) refl, h)), str, col, val, rest), f, g, k)

-- ---- the first byte of a value

record NotSpecial (b : ℕ) : Type 0 where
  quote : (b == 34) ≡ false
  bracket : (b == 91) ≡ false
  brace : (b == 123) ≡ false
  n_ : (b == 110) ≡ false
  f_ : (b == 102) ≡ false
  t_ : (b == 116) ≡ false
  minus_ : (b == 45) ≡ false

digit_not_special : (b : ℕ) → is_digit b ≡ true → NotSpecial b
digit_not_special b h = record { quote = grind arith; bracket = grind arith; brace = grind arith; n_ = grind arith; f_ = grind arith; t_ = grind arith; minus_ = grind arith }

digit1_is_digit : (b : ℕ) → is_digit_1_to_9 b ≡ true → is_digit b ≡ true
digit1_is_digit b h = grind arith

number_go : (n room at : ℕ) (fs : List Frame) (x : NumberStep) (t k : List ℕ) (w : Tree) → AfterNumberStep x t k → BehindValue n room fs (tree.plain tree.number) at k w → AfterStep n (start_number room at fs x) t w
number_go n room at fs (more q) t k w h made = (k, h, made)
number_go n room at fs stop t k w h made = absurd h

digit_start : (n room : ℕ) (fs : List Frame) (at b : ℕ) (t k : List ℕ) (w : Tree) → is_digit b ≡ true → RestOfNumber minus (b ∷ t) k → BehindValue n room fs (tree.plain tree.number) at k w → AfterStep n (start room fs at b) t w
unfolding start
digit_start n room fs at b t k w is h made =
    let no = digit_not_special b is in
    when_not (At n t w) (b == 34) _ _ no.quote (when_not (At n t w) (b == 91) _ _ no.bracket (when_not (At n t w) (b == 123) _ _ no.brace
    (when_not (At n t w) (b == 110) _ _ no.n_ (when_not (At n t w) (b == 102) _ _ no.f_ (when_not (At n t w) (b == 116) _ _ no.t_ (when_not (At n t w) (b == 45) _ _ no.minus_
    (elim (number_on minus b t k h) [ inl p ↦ absurd (cc p.0) | inr p ↦ number_go n room at fs (number_step minus b) t k w p made ])))))))

items_open : (n room : ℕ) (fs : List Frame) (from : ℕ) (vs : Items) (s : Span) (t r : List ℕ) (w : Tree) → Items_ n room vs t r → s.from ≡ from → s.to + length r ≡ n → Goes n (suc room) fs (tree.array vs s) r w
    → Completes n (first_item from) room fs t w
items_open n room fs from no_items s t r w h e f g = inl (r, h, (s, e, f, g))
items_open n room fs from (item v vs) s t r w (m, k, blanks, val, rest) e f g = inr (m, blanks, (v, k, val, (vs, r, s, rest, e, f, g)))

-- an array from its bracket on
items_close : (n room : ℕ) (fs : List Frame) (from : ℕ) (t : List ℕ) (w : Tree) → Completes n (first_item from) room fs t w
    → (vs : Items) × (s : Span) × (r : List ℕ) × Items_ n room vs t r × (s.from ≡ from) × (s.to + length r ≡ n) × Goes n (suc room) fs (tree.array vs s) r w
items_close n room fs from t w (inl (r, h, (s, e, f, g))) = (no_items, s, r, h, e, f, g)
items_close n room fs from t w (inr (m, blanks, (v, k, val, (vs, r, s, rest, e, f, g)))) = (item v vs, s, r, (m, k, blanks, val, rest), e, f, g)

members_open : (n room : ℕ) (fs : List Frame) (from : ℕ) (ms : Members) (s : Span) (t r : List ℕ) (w : Tree) → Members_ n room ms t r → s.from ≡ from → s.to + length r ≡ n → Goes n (suc room) fs (tree.object ms s) r w
    → Completes n (first_key from) room fs t w
members_open n room fs from no_members s t r w h e f g = inl (r, h, (s, e, f, g))
members_open n room fs from (member name v ms) s t r w (m, k, j, i, blanks, str, col, val, rest) e f g = inr (m, name, k, blanks, str, (j, col, (v, i, val, (ms, r, s, rest, e, f, g))))

members_close : (n room : ℕ) (fs : List Frame) (from : ℕ) (t : List ℕ) (w : Tree) → Completes n (first_key from) room fs t w
    → (ms : Members) × (s : Span) × (r : List ℕ) × Members_ n room ms t r × (s.from ≡ from) × (s.to + length r ≡ n) × Goes n (suc room) fs (tree.object ms s) r w
members_close n room fs from t w (inl (r, h, (s, e, f, g))) = (no_members, s, r, h, e, f, g)
members_close n room fs from t w (inr (m, name, k, blanks, str, (j, col, (v, i, val, (ms, r, s, rest, e, f, g))))) = (member name v ms, s, r, (m, k, j, i, blanks, str, col, val, rest), e, f, g)

start_on : (n room : ℕ) (fs : List Frame) (at b : ℕ) (v : Tree) (t k : List ℕ) (w : Tree) → at + length (b ∷ t) ≡ n → Value n room v (b ∷ t) k → Goes n room fs v k w → AfterStep n (start room fs at b) t w
unfolding start
start_on n room fs at b (tree.plain tree.null s) t k w size (st, e) g =
    let first : b ≡ 110 = cc in
    let rest : t ≡ 117 ∷ 108 ∷ 108 ∷ k = cc in
    subst (λ y. AfterStep n (start room fs at y) t w) (sym first) (k, rest, (s, omega arith, st.1, g))
start_on n room fs at b (tree.plain tree.no s) t k w size (st, e) g =
    let first : b ≡ 102 = cc in
    let rest : t ≡ 97 ∷ 108 ∷ 115 ∷ 101 ∷ k = cc in
    subst (λ y. AfterStep n (start room fs at y) t w) (sym first) (k, rest, (s, omega arith, st.1, g))
start_on n room fs at b (tree.plain tree.yes s) t k w size (st, e) g =
    let first : b ≡ 116 = cc in
    let rest : t ≡ 114 ∷ 117 ∷ 101 ∷ k = cc in
    subst (λ y. AfterStep n (start room fs at y) t w) (sym first) (k, rest, (s, omega arith, st.1, g))
start_on n room fs at b (tree.plain tree.number s) t k w size (st, (m, inr sg, h)) g =
    let first : b ≡ 45 = cc in
    let rest : m ≡ t = cc in
    subst (λ y. AfterStep n (start room fs at y) t w) (sym first) (k, subst (λ y. RestOfNumber minus y k) rest h, (s, omega arith, st.1, g))
start_on n room fs at b (tree.plain tree.number s) t k w size (st, (m, inl same, (j, inl z, h))) g =
    let is : is_digit b ≡ true = let zero_is : b ≡ 48 = cc in rw zero_is refl in
    digit_start n room fs at b t k w is (j, inl (same ∙ z), h) (s, omega arith, st.1, g)
start_on n room fs at b (tree.plain tree.number s) t k w size (st, (m, inl same, (j, inr d, h))) g =
    let d2 = subst (λ y. (One is_digit_1_to_9 then Many is_digit) y j) (sym same) d in
    let o = One-cons is_digit_1_to_9 (Many is_digit) b t j d2 in
    digit_start n room fs at b t k w (digit1_is_digit b o.0) (j, inr d2, h) (s, omega arith, st.1, g)
start_on n room fs at b (tree.plain tree.string s) t k w size (st, (cs, (m, e, h))) g =
    let first : b ≡ 34 = cc in
    let rest : m ≡ t = cc in
    subst (λ y. AfterStep n (start room fs at y) t w) (sym first) (k, (cs, subst (λ y. Chars cs y k) rest h), (s, omega arith, st.1, g))
start_on n zero fs at b (tree.array vs s) t k w size h g = absurd h
start_on n (suc room) fs at b (tree.array vs s) t k w size (st, (m, e, h)) g =
    let first : b ≡ 91 = cc in
    let rest : m ≡ t = cc in
    subst (λ y. AfterStep n (start (suc room) fs at y) t w) (sym first) (items_open n room fs at vs s t k w (subst (λ y. Items_ n room vs y k) rest h) (omega arith) st.1 g)
start_on n zero fs at b (tree.object ms s) t k w size h g = absurd h
start_on n (suc room) fs at b (tree.object ms s) t k w size (st, (m, e, h)) g =
    let first : b ≡ 123 = cc in
    let rest : m ≡ t = cc in
    subst (λ y. AfterStep n (start (suc room) fs at y) t w) (sym first) (members_open n room fs at ms s t k w (subst (λ y. Members_ n room ms y k) rest h) (omega arith) st.1 g)

number_begins : (n room : ℕ) (fs : List Frame) (at b : ℕ) (t : List ℕ) (w : Tree) (x : NumberStep) → at + length (b ∷ t) ≡ n
    → ((r : List ℕ) → AfterNumberStep x t r → RestOfNumber minus (b ∷ t) r) → AfterStep n (start_number room at fs x) t w → AtValue n room fs (b ∷ t) w
number_begins n room fs at b t w (more q) size back (r, h, (s, e, f, g)) = (tree.plain tree.number s, r, ((omega arith, f), (b ∷ t, inl refl, back r h)), g)
number_begins n room fs at b t w stop size back h = absurd h

array_begins : (n room : ℕ) (fs : List Frame) (at b : ℕ) (t : List ℕ) (w : Tree) → at + length (b ∷ t) ≡ n → b ≡ 91 → AfterStep n (open_bracket room (first_item at) fs) t w → AtValue n room fs (b ∷ t) w
array_begins n zero fs at b t w size is h = absurd h
array_begins n (suc room) fs at b t w size is h =
    let k = items_close n room fs at t w h in
    let from : k.1.from + length (b ∷ t) ≡ n = omega arith in
    (tree.array k.0 k.1, k.2, ((from, k.5), (t, rw is refl, k.3)), k.6)

object_begins : (n room : ℕ) (fs : List Frame) (at b : ℕ) (t : List ℕ) (w : Tree) → at + length (b ∷ t) ≡ n → b ≡ 123 → AfterStep n (open_bracket room (first_key at) fs) t w → AtValue n room fs (b ∷ t) w
object_begins n zero fs at b t w size is h = absurd h
object_begins n (suc room) fs at b t w size is h =
    let k = members_close n room fs at t w h in
    let from : k.1.from + length (b ∷ t) ≡ n = omega arith in
    (tree.object k.0 k.1, k.2, ((from, k.5), (t, rw is refl, k.3)), k.6)

word_begins : (n room : ℕ) (fs : List Frame) (p : Plain) (at b c : ℕ) (rest t : List ℕ) (w : Tree) → at + length (b ∷ t) ≡ n → ((r : List ℕ) → t ≡ c ∷ (rest ++ r) → PlainValue p (b ∷ t) r) → Completes n (word p at c rest) room fs t w → AtValue n room fs (b ∷ t) w
word_begins n room fs p at b c rest t w size is (r, e, (s, f, g, k)) = (tree.plain p s, r, ((omega arith, g), is r e), k)

start_back : (n room : ℕ) (fs : List Frame) (at b : ℕ) (t : List ℕ) (w : Tree) → at + length (b ∷ t) ≡ n → AfterStep n (start room fs at b) t w → AtValue n room fs (b ∷ t) w
unfolding start
start_back n room fs at b t w size h =
    either_way (At n t w) (b == 34) _ _
    (λ is k. (tree.plain tree.string k.2.0, k.0, ((omega (arith, k.2.1), k.2.2), (k.1.0, (t, rw (eqb-true b 34 is) refl, k.1.1))), k.2.3))
    (λ _. either_way (At n t w) (b == 91) _ _ (λ is k. array_begins n room fs at b t w size (eqb-true b 91 is) k)
    (λ _. either_way (At n t w) (b == 123) _ _ (λ is k. object_begins n room fs at b t w size (eqb-true b 123 is) k)
    (λ _. either_way (At n t w) (b == 110) _ _ (λ is k. word_begins n room fs tree.null at b 117 (108 ∷ 108 ∷ []) t w size (λ r e. rw (eqb-true b 110 is, e) refl) k)
    (λ _. either_way (At n t w) (b == 102) _ _ (λ is k. word_begins n room fs tree.no at b 97 (108 ∷ 115 ∷ 101 ∷ []) t w size (λ r e. rw (eqb-true b 102 is, e) refl) k)
    (λ _. either_way (At n t w) (b == 116) _ _ (λ is k. word_begins n room fs tree.yes at b 114 (117 ∷ 101 ∷ []) t w size (λ r e. rw (eqb-true b 116 is, e) refl) k)
    (λ _. either_way (At n t w) (b == 45) _ _
    (λ is k. (tree.plain tree.number k.2.0, k.0, ((omega (arith, k.2.1), k.2.2), (t, inr (rw (eqb-true b 45 is) refl), k.1)), k.2.3))
    (λ _ k. number_begins n room fs at b t w (number_step minus b) size (λ r j. number_back minus b t r j) k))))))) h

-- ---- every step, both ways

-- what may stand behind a value
abbrev pub is_behind : ℕ → Bool
is_behind b = is_blank b || ((b == 44) || ((b == 93) || (b == 125)))

either_eq : (a b : Bool) → (a || b) ≡ true → (a ≡ true) ⊎ (b ≡ true)
either_eq true b h = inl refl
either_eq false b h = inr h

behind_cases : (P : ℕ → Type 0) → P 32 → P 9 → P 10 → P 13 → P 44 → P 93 → P 125 → (b : ℕ) → is_behind b ≡ true → P b
behind_cases P p32 p9 p10 p13 p44 p93 p125 b h =
    elim (either_eq (is_blank b) _ h) [
      | inl k ↦ blank k
      | inr k ↦ elim (either_eq (b == 44) _ k) [
        | inl l ↦ rw (eqb-true b 44 l) p44
        | inr l ↦ elim (either_eq (b == 93) _ l) [ inl m ↦ rw (eqb-true b 93 m) p93 | inr m ↦ rw (eqb-true b 125 m) p125 ]
      ]
    ]
  where
    blank : is_blank b ≡ true → P b
    blank k = elim (either_eq (b == 32 || b == 9 || b == 10) (b == 13) k) [
      | inr l ↦ rw (eqb-true b 13 l) p13
      | inl l ↦ elim (either_eq (b == 32 || b == 9) (b == 10) l) [
        | inr m ↦ rw (eqb-true b 10 m) p10
        | inl m ↦ elim (either_eq (b == 32) (b == 9) m) [ inl o ↦ rw (eqb-true b 32 o) p32 | inr o ↦ rw (eqb-true b 9 o) p9 ]
      ]
    ]

-- no byte that may stand behind a value goes on in a number
number_stops : (q : InNumber) (b : ℕ) → is_behind b ≡ true → number_step q b ≡ stop
unfolding number_step
number_stops minus b h = behind_cases (λ y. number_step minus y ≡ stop) refl refl refl refl refl refl refl b h
number_stops scalars.zero b h = behind_cases (λ y. number_step scalars.zero y ≡ stop) refl refl refl refl refl refl refl b h
number_stops scalars.whole b h = behind_cases (λ y. number_step scalars.whole y ≡ stop) refl refl refl refl refl refl refl b h
number_stops scalars.point b h = behind_cases (λ y. number_step scalars.point y ≡ stop) refl refl refl refl refl refl refl b h
number_stops scalars.fraction b h = behind_cases (λ y. number_step scalars.fraction y ≡ stop) refl refl refl refl refl refl refl b h
number_stops scalars.e b h = behind_cases (λ y. number_step scalars.e y ≡ stop) refl refl refl refl refl refl refl b h
number_stops scalars.sign b h = behind_cases (λ y. number_step scalars.sign y ≡ stop) refl refl refl refl refl refl refl b h
number_stops scalars.exponent b h = behind_cases (λ y. number_step scalars.exponent y ≡ stop) refl refl refl refl refl refl refl b h

blank_behind : (b : ℕ) → is_blank b ≡ true → is_behind b ≡ true
blank_behind b h = rw h refl

byte_behind : (a b : ℕ) (t r : List ℕ) → is_behind a ≡ true → (Blanks then Byte a) (b ∷ t) r → is_behind b ≡ true
byte_behind a b t r is h = elim (Blanks-cons b a t r h) [ inl p ↦ rw p.0 is | inr p ↦ blank_behind b p.0 ]

comma_behind : (b : ℕ) (t m : List ℕ) → (Blanks then Byte 44 then Blanks) (b ∷ t) m → is_behind b ≡ true
comma_behind b t m (k, h, (j, e, i)) = byte_behind 44 b t j refl (k, h, e)

goes_behind : (n room : ℕ) (fs : List Frame) (v : Tree) (b : ℕ) (t : List ℕ) (w : Tree) → Goes n room fs v (b ∷ t) w → is_behind b ≡ true
goes_behind n room [] v b t w (inl h, e) = absurd (cc)
goes_behind n room [] v b t w (inr (is, h), e) = blank_behind b is
goes_behind n room (in_array from vs ∷ fs) v b t w (no_items, r, s, h, e, f, g) = byte_behind 93 b t r refl h
goes_behind n room (in_array from vs ∷ fs) v b t w (item v2 vs2, r, s, (m, k, h, x, y), e, f, g) = comma_behind b t m h
goes_behind n room (in_object from ms name ∷ fs) v b t w (no_members, r, s, h, e, f, g) = byte_behind 125 b t r refl h
goes_behind n room (in_object from ms name ∷ fs) v b t w (member name2 v2 ms2, r, s, (m, j1, j2, j3, h, x, y, z, u), e, f, g) = comma_behind b t m h

number_after : (n : ℕ) (q : InNumber) (from room : ℕ) (fs : List Frame) (at b : ℕ) (t : List ℕ) (w : Tree) → at + length (b ∷ t) ≡ n → may_end q ≡ true → BehindValue n room fs (tree.plain tree.number) from (b ∷ t) w
    → AfterStep n (number_outcome q from at room fs b (number_step q b)) t w
number_after n q from room fs at b t w size may (s, e, f, g) =
    let here : s ≡ span from at = span_is s from at e (omega arith) in
    let stopped : number_step q b ≡ stop = number_stops q b (goes_behind n room fs _ b t w g) in
    subst (λ x. AfterStep n (number_outcome q from at room fs b x) t w) (sym stopped)
    (when_so (At n t w) (may_end q) _ wrong may (after_on n (tree.plain tree.number (span from at)) room fs at b t w size (subst (λ x. Goes n room fs (tree.plain tree.number x) (b ∷ t) w) here g)))

number_goes : (n : ℕ) (q : InNumber) (from room : ℕ) (fs : List Frame) (at b : ℕ) (t r : List ℕ) (w : Tree) (x : NumberStep) → AfterNumberStep x t r → BehindValue n room fs (tree.plain tree.number) from r w
    → AfterStep n (number_outcome q from at room fs b x) t w
number_goes n q from room fs at b t r w (more next) h made = (r, h, made)
number_goes n q from room fs at b t r w stop h made = absurd h

string_goes : (n from : ℕ) (room : ℕ) (fs : List Frame) (at b : ℕ) (t r : List ℕ) (w : Tree) (x : StringStep) → at + length (b ∷ t) ≡ n → AfterStringStep x t r → BehindValue n room fs (tree.plain tree.string) from r w
    → AfterStep n (string_outcome from at room fs x) t w
string_goes n from room fs at b t r w ends size h (s, e, f, g) =
    let here : s ≡ span from (at + 1) = span_is s from (at + 1) e (omega (arith, ap length h)) in
    subst (λ x. Goes n room fs (tree.plain tree.string x) t w) here (subst (λ x. Goes n room fs (tree.plain tree.string s) x w) h g)
string_goes n from room fs at b t r w (on q) size h made = (r, h, made)
string_goes n from room fs at b t r w fault size h made = absurd h

key_goes : (n from : ℕ) (ms : Members) (at_key room : ℕ) (fs : List Frame) (at b : ℕ) (t k : List ℕ) (w : Tree) (name : Span) (x : StringStep) → at + length (b ∷ t) ≡ n → AfterStringStep x t k → name.from ≡ at_key
    → name.to + length k ≡ n → AtColon n room fs from ms name k w → AfterStep n (key_outcome from ms at_key at room fs x) t w
key_goes n from ms at_key room fs at b t k w name ends size h e f g =
    let here : name ≡ span at_key (at + 1) = span_is name at_key (at + 1) e (omega (arith, ap length h)) in
    subst (λ x. AtColon n room fs from ms x t w) here (subst (λ x. AtColon n room fs from ms name x w) h g)
key_goes n from ms at_key room fs at b t k w name (on q) size h e f g = (name, k, e, f, h, g)
key_goes n from ms at_key room fs at b t k w name fault size h e f g = absurd h

-- what may stand behind a value begins none
start_behind : (room : ℕ) (fs : List Frame) (at b : ℕ) → is_behind b ≡ true → start room fs at b ≡ wrong
unfolding start number_step
start_behind room fs at b h = behind_cases (λ y. start room fs at y ≡ wrong) refl refl refl refl refl refl refl b h

value_on : (n room : ℕ) (fs : List Frame) (at b : ℕ) (t : List ℕ) (w : Tree) → at + length (b ∷ t) ≡ n → AtValue n room fs (b ∷ t) w → AfterStep n (start room fs at b) t w
value_on n room fs at b t w size (v, k, val, g) = start_on n room fs at b v t k w size val g

not_behind : (n room : ℕ) (fs : List Frame) (at b : ℕ) (t : List ℕ) (w : Tree) → at + length (b ∷ t) ≡ n → AtValue n room fs (b ∷ t) w → is_behind b ≡ false
not_behind n room fs at b t w size h = go_on (is_behind b) refl
  where
    go_on : (x : Bool) → is_behind b ≡ x → is_behind b ≡ false
    go_on false e = e
    go_on true e = absurd (subst (λ o. AfterStep n o t w) (start_behind room fs at b e) (value_on n room fs at b t w size h))

not_blank : (b : ℕ) → is_behind b ≡ false → is_blank b ≡ false
not_blank b e = grind arith

not_close : (b : ℕ) → is_behind b ≡ false → (b == 93) ≡ false
not_close b e = grind arith

at_key_on : (n room : ℕ) (fs : List Frame) (from : ℕ) (ms : Members) (at b : ℕ) (t : List ℕ) (w : Tree) → at + length (b ∷ t) ≡ n → AtKey n room fs from ms (b ∷ t) w
    → ((b ≡ 34) × Completes n (key from ms at chars) room fs t w) ⊎ ((is_blank b ≡ true) × AtKey n room fs from ms t w)
at_key_on n room fs from ms at b t w size (m, name, k, inl same, (st, (cs, (j, e, h))), rest) =
    let first : b ≡ 34 = cc in
    let behind : j ≡ t = cc in
    inl (first, (name, k, omega (arith, ap length same), st.1, (cs, subst (λ y. Chars cs y k) behind h), rest))
at_key_on n room fs from ms at b t w size (m, name, k, inr (is, blanks), str, rest) = inr (is, (m, name, k, blanks, str, rest))

colon_on : (n room : ℕ) (fs : List Frame) (from : ℕ) (ms : Members) (name : Span) (b : ℕ) (t : List ℕ) (w : Tree) → AtColon n room fs from ms name (b ∷ t) w
    → ((b ≡ 58) × Completes n value room (in_object from ms name ∷ fs) t w) ⊎ ((is_blank b ≡ true) × AtColon n room fs from ms name t w)
colon_on n room fs from ms name b t w (j, (m, inl same, (k, e, blanks)), h) =
    let behind : k ≡ t = cc in
    inl (cc, (j, subst (λ y. Blanks y j) behind blanks, h))
colon_on n room fs from ms name b t w (j, (m, inr (is, h0), x), h) = inr (is, (j, (m, h0, x), h))

word_goes : (n : ℕ) (p : Plain) (from : ℕ) (rest : List ℕ) (room : ℕ) (fs : List Frame) (at b : ℕ) (t r : List ℕ) (w : Tree) → at + length (b ∷ t) ≡ n → t ≡ rest ++ r → BehindValue n room fs (tree.plain p) from r w
    → AfterStep n (in_word p from at rest room fs) t w
word_goes n p from [] room fs at b t r w size e (s, f, g, h) =
    let here : s ≡ span from (at + 1) = span_is s from (at + 1) f (omega (arith, ap length e)) in
    subst (λ x. Goes n room fs (tree.plain p x) t w) here (subst (λ x. Goes n room fs (tree.plain p s) x w) (sym e) h)
word_goes n p from (c ∷ rest) room fs at b t r w size e made = (r, e, made)

pub step_on : (n : ℕ) (m : Mode) (room : ℕ) (fs : List Frame) (at b : ℕ) (t : List ℕ) (w : Tree) → at + length (b ∷ t) ≡ n → Completes n m room fs (b ∷ t) w → AfterStep n (step m room fs at b) t w
unfolding step
step_on n value room fs at b t w size (m, inl same, h) =
    let h2 = subst (λ y. AtValue n room fs y w) same h in
    when_not (At n t w) (is_blank b) _ _ (not_blank b (not_behind n room fs at b t w size h2)) (value_on n room fs at b t w size h2)
step_on n value room fs at b t w size (m, inr (is, blanks), h) = when_so (At n t w) (is_blank b) _ _ is (m, blanks, h)
step_on n (first_item from) room fs at b t w size (inl (r, h, (s, e, f, g))) =
    elim (Blanks-cons b 93 t r h) [
      | inl p ↦
          let here : s ≡ span from (at + 1) = span_is s from (at + 1) e (omega (arith, ap length p.1)) in
          subst (λ y. AfterStep n (step (first_item from) room fs at y) t w) (sym p.0)
          (subst (λ y. Goes n (suc room) fs (tree.array no_items (span from (at + 1))) y w) (sym p.1) (subst (λ y. Goes n (suc room) fs (tree.array no_items y) r w) here g))
      | inr p ↦ when_so (At n t w) (is_blank b) _ _ p.0 (inl (r, p.1, (s, e, f, g)))
    ]
step_on n (first_item from) room fs at b t w size (inr (m, inl same, h)) =
    let h2 = subst (λ y. AtValue n room (in_array from no_items ∷ fs) y w) same h in
    let none = not_behind n room (in_array from no_items ∷ fs) at b t w size h2 in
    when_not (At n t w) (is_blank b) _ _ (not_blank b none) (when_not (At n t w) (b == 93) _ _ (not_close b none) (value_on n room (in_array from no_items ∷ fs) at b t w size h2))
step_on n (first_item from) room fs at b t w size (inr (m, inr (is, blanks), h)) = when_so (At n t w) (is_blank b) _ _ is (inr (m, blanks, h))
step_on n (first_key from) room fs at b t w size (inl (r, h, (s, e, f, g))) =
    elim (Blanks-cons b 125 t r h) [
      | inl p ↦
          let here : s ≡ span from (at + 1) = span_is s from (at + 1) e (omega (arith, ap length p.1)) in
          subst (λ y. AfterStep n (step (first_key from) room fs at y) t w) (sym p.0)
          (subst (λ y. Goes n (suc room) fs (tree.object no_members (span from (at + 1))) y w) (sym p.1) (subst (λ y. Goes n (suc room) fs (tree.object no_members y) r w) here g))
      | inr p ↦ when_so (At n t w) (is_blank b) _ _ p.0 (inl (r, p.1, (s, e, f, g)))
    ]
step_on n (first_key from) room fs at b t w size (inr h) =
    elim (at_key_on n room fs from no_members at b t w size h) [
      | inl p ↦ subst (λ y. AfterStep n (step (first_key from) room fs at y) t w) (sym p.0) p.1
      | inr p ↦ when_so (At n t w) (is_blank b) _ _ p.0 (inr p.1)
    ]
step_on n (next_key from ms) room fs at b t w size h =
    elim (at_key_on n room fs from ms at b t w size h) [
      | inl p ↦ subst (λ y. AfterStep n (step (next_key from ms) room fs at y) t w) (sym p.0) p.1
      | inr p ↦ when_so (At n t w) (is_blank b) _ _ p.0 p.1
    ]
step_on n (key from ms at_key q) room fs at b t w size (name, k, e, f, h, g) = key_goes n from ms at_key room fs at b t k w name (string_step q b) size (string_on q b t k h) e f g
step_on n (colon from ms name) room fs at b t w size h =
    elim (colon_on n room fs from ms name b t w h) [
      | inl p ↦ subst (λ y. AfterStep n (step (colon from ms name) room fs at y) t w) (sym p.0) p.1
      | inr p ↦ when_so (At n t w) (is_blank b) _ _ p.0 p.1
    ]
step_on n (word p from c rest) room fs at b t w size (r, e, made) =
    let same : b ≡ c = cc in
    let behind : t ≡ rest ++ r = cc in
    when_so (At n t w) (b == c) _ wrong (rw same (same_eqb c)) (word_goes n p from rest room fs at b t r w size behind made)
step_on n (number from q) room fs at b t w size (r, h, made) =
    elim (number_on q b t r h) [
      | inl p ↦ number_after n q from room fs at b t w size p.0 (subst (λ y. BehindValue n room fs (tree.plain tree.number) from y w) p.1 made)
      | inr p ↦ number_goes n q from room fs at b t r w (number_step q b) p made
    ]
step_on n (string from q) room fs at b t w size (r, h, made) = string_goes n from room fs at b t r w (string_step q b) size (string_on q b t r h) made
step_on n (after v) room fs at b t w size h = after_on n v room fs at b t w size h

-- ---- and back

word_back : (n : ℕ) (p : Plain) (from : ℕ) (rest : List ℕ) (room : ℕ) (fs : List Frame) (at b : ℕ) (t : List ℕ) (w : Tree) → at + length (b ∷ t) ≡ n → AfterStep n (in_word p from at rest room fs) t w
    → (r : List ℕ) × (t ≡ rest ++ r) × BehindValue n room fs (tree.plain p) from r w
word_back n p from [] room fs at b t w size h = (t, refl, (span from (at + 1), refl, omega arith, h))
word_back n p from (c ∷ rest) room fs at b t w size h = h

string_comes : (n from room : ℕ) (fs : List Frame) (at b : ℕ) (t : List ℕ) (w : Tree) (x : StringStep) → at + length (b ∷ t) ≡ n → AfterStep n (string_outcome from at room fs x) t w
    → (r : List ℕ) × AfterStringStep x t r × BehindValue n room fs (tree.plain tree.string) from r w
string_comes n from room fs at b t w ends size h = (t, refl, (span from (at + 1), refl, omega arith, h))
string_comes n from room fs at b t w (on q) size h = h
string_comes n from room fs at b t w fault size h = absurd h

key_comes : (n from : ℕ) (ms : Members) (at_key room : ℕ) (fs : List Frame) (at b : ℕ) (t : List ℕ) (w : Tree) (x : StringStep) → at + length (b ∷ t) ≡ n → AfterStep n (key_outcome from ms at_key at room fs x) t w
    → (name : Span) × (k : List ℕ) × (name.from ≡ at_key) × (name.to + length k ≡ n) × AfterStringStep x t k × AtColon n room fs from ms name k w
key_comes n from ms at_key room fs at b t w ends size h = (span at_key (at + 1), t, refl, omega arith, refl, h)
key_comes n from ms at_key room fs at b t w (on q) size h = h
key_comes n from ms at_key room fs at b t w fault size h = absurd h

number_comes : (n : ℕ) (q : InNumber) (from room : ℕ) (fs : List Frame) (at b : ℕ) (t : List ℕ) (w : Tree) (x : NumberStep) → at + length (b ∷ t) ≡ n → ((r : List ℕ) → AfterNumberStep x t r → RestOfNumber q (b ∷ t) r)
    → AfterStep n (number_outcome q from at room fs b x) t w → (r : List ℕ) × RestOfNumber q (b ∷ t) r × BehindValue n room fs (tree.plain tree.number) from r w
number_comes n q from room fs at b t w (more next) size back (r, h, made) = (r, back r h, made)
number_comes n q from room fs at b t w stop size back h =
    either_way (At n t w) (may_end q) _ wrong
    (λ may k. (b ∷ t, number_ends q (b ∷ t) may, (span from at, refl, size, after_back n (tree.plain tree.number (span from at)) room fs at b t w size k))) (λ _ k. absurd k) h

key_begins : (n room : ℕ) (fs : List Frame) (from : ℕ) (ms : Members) (at b : ℕ) (t : List ℕ) (w : Tree) → at + length (b ∷ t) ≡ n → b ≡ 34 → Completes n (key from ms at chars) room fs t w → AtKey n room fs from ms (b ∷ t) w
key_begins n room fs from ms at b t w size is (name, k, e, f, (cs, h), g) = (b ∷ t, name, k, inl refl, ((omega arith, f), (cs, (t, rw is refl, h))), g)

pub step_back : (n : ℕ) (m : Mode) (room : ℕ) (fs : List Frame) (at b : ℕ) (t : List ℕ) (w : Tree) → at + length (b ∷ t) ≡ n → AfterStep n (step m room fs at b) t w → Completes n m room fs (b ∷ t) w
unfolding step
step_back n value room fs at b t w size h =
    either_way (At n t w) (is_blank b) _ _ (λ is k. (k.0, inr (is, k.1), k.2)) (λ _ k. (b ∷ t, inl refl, start_back n room fs at b t w size k)) h
step_back n (first_item from) room fs at b t w size h =
    either_way (At n t w) (is_blank b) _ _
    (λ is k. elim k [ inl p ↦ inl (p.0, (p.1.0, inr (is, p.1.1), p.1.2), p.2) | inr p ↦ inr (p.0, inr (is, p.1), p.2) ])
    (λ _. either_way (At n t w) (b == 93) _ _ (λ is k. inl (t, (b ∷ t, inl refl, rw (eqb-true b 93 is) refl), (span from (at + 1), refl, omega arith, k)))
    (λ _ k. inr (b ∷ t, inl refl, start_back n room (in_array from no_items ∷ fs) at b t w size k))) h
step_back n (first_key from) room fs at b t w size h =
    either_way (At n t w) (is_blank b) _ _
    (λ is k. elim k [ inl p ↦ inl (p.0, (p.1.0, inr (is, p.1.1), p.1.2), p.2) | inr p ↦ inr (p.0, p.1, p.2, inr (is, p.3), p.4, p.5) ])
    (λ _. either_way (At n t w) (b == 125) _ _ (λ is k. inl (t, (b ∷ t, inl refl, rw (eqb-true b 125 is) refl), (span from (at + 1), refl, omega arith, k)))
    (λ _. either_way (At n t w) (b == 34) _ wrong (λ is k. inr (key_begins n room fs from no_members at b t w size (eqb-true b 34 is) k)) (λ _ k. absurd k))) h
step_back n (next_key from ms) room fs at b t w size h =
    either_way (At n t w) (is_blank b) _ _ (λ is p. (p.0, p.1, p.2, inr (is, p.3), p.4, p.5))
    (λ _. either_way (At n t w) (b == 34) _ wrong (λ is k. key_begins n room fs from ms at b t w size (eqb-true b 34 is) k) (λ _ k. absurd k)) h
step_back n (key from ms at_key q) room fs at b t w size h =
    let k = key_comes n from ms at_key room fs at b t w (string_step q b) size h in
    (k.0, k.1, k.2, k.3, string_back q b t k.1 k.4, k.5)
step_back n (colon from ms name) room fs at b t w size h =
    either_way (At n t w) (is_blank b) _ _ (λ is k. (k.0, (k.1.0, inr (is, k.1.1), k.1.2), k.2))
    (λ _. either_way (At n t w) (b == 58) _ wrong (λ is k. (k.0, (b ∷ t, inl refl, (t, rw (eqb-true b 58 is) refl, k.1)), k.2)) (λ _ k. absurd k)) h
step_back n (word p from c rest) room fs at b t w size h =
    either_way (At n t w) (b == c) _ wrong (λ is k. let j = word_back n p from rest room fs at b t w size k in (j.0, ap₂ (λ (x : ℕ) (y : List ℕ). x ∷ y) (eqb-true b c is) j.1, j.2)) (λ _ k. absurd k) h
step_back n (number from q) room fs at b t w size h = number_comes n q from room fs at b t w (number_step q b) size (λ r k. number_back q b t r k) h
step_back n (string from q) room fs at b t w size h =
    let k = string_comes n from room fs at b t w (string_step q b) size h in
    (k.0, string_back q b t k.0 k.1, k.2)
step_back n (after v) room fs at b t w size h = after_back n v room fs at b t w size h
