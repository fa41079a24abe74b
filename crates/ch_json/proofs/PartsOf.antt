-- What a text spells, it spells in parts.
use Rattle.std.proofs.Common.{◌≡◌, ℕ, zero, suc, ◌+◌, ◌<◌, ◌≤◌, List, [], ◌∷◌, ◌++◌, append_assoc, length, length-append, get_or, Some, refl, sym, ap, ◌∙◌, subst, arith}
use Rattle.std.specs.Prelude.{slice_get, IsUtf8}
use Rattle.std.specs.Str.{IsCharBoundary}
use Rattle.std.proofs.lemmas.Str.{IsCharBoundary-before_ascii, IsCharBoundary-after_ascii}
use Rattle.ch_base.specs.JsonTree.{Span, Tree, plain, string, array, object, Items, no_items, item, Members, no_members, member}
use Rattle.ch_base.specs.JsonText.{IsSpanOf, Value, Items_, MoreItems, Members_, MoreMembers, Spells}
use Rattle.ch_base.specs.declared.limits.TheConstants.{MAX_DEPTH}
use Rattle.ch_base.specs.JsonParts.{spelled_at, items_of, members_of, values_of, names_of, IsSpelledIn, IsPart}
use Rattle.ch_json.proofs.Lists.{some_back}
use Rattle.ch_json.proofs.Cuts.{Cut, cut_on, string_cut, blanks_cut, sign_cut, value_cut, value_ends, value_begins}

-- the whole value
pub top_spelled : (text : List ℕ) (v : Tree) → Spells text v → IsSpelledIn text v
top_spelled text v (m, k, before, val, behind) = let u = blanks_cut text m before in (MAX_DEPTH, u.0, m, k, u.1, val)

mutual
  more_items_spelled : (text : List ℕ) (room : ℕ) (vs : Items) (t r : List ℕ) (i : ℕ) (w : Tree) → Cut text t → MoreItems (length text) room vs t r → slice_get (items_of vs) i ≡ Some w → IsSpelledIn text w
  more_items_spelled text room no_items t r i w cut h e = absurd (cc)
  more_items_spelled text room (item v vs) t r zero w cut (m, k, comma, val, more) e =
      let u = cut_on text t m cut (sign_cut 44 t m comma) in let same : v ≡ w = cc in subst (IsSpelledIn text) same (room, u.0, m, k, u.1, val)
  more_items_spelled text room (item v vs) t r (suc i) w cut (m, k, comma, val, more) e =
      more_items_spelled text room vs k r i w (cut_on text t k cut (cut_on t m k (sign_cut 44 t m comma) (value_cut (length text) room v m k val))) more e

items_spelled : (text : List ℕ) (room : ℕ) (vs : Items) (t r : List ℕ) (i : ℕ) (w : Tree) → Cut text t → Items_ (length text) room vs t r → slice_get (items_of vs) i ≡ Some w → IsSpelledIn text w
items_spelled text room no_items t r i w cut h e = absurd (cc)
items_spelled text room (item v vs) t r zero w cut (m, k, blanks, val, more) e =
    let u = cut_on text t m cut (blanks_cut t m blanks) in let same : v ≡ w = cc in subst (IsSpelledIn text) same (room, u.0, m, k, u.1, val)
items_spelled text room (item v vs) t r (suc i) w cut (m, k, blanks, val, more) e =
    more_items_spelled text room vs k r i w (cut_on text t k cut (cut_on t m k (blanks_cut t m blanks) (value_cut (length text) room v m k val))) more e

-- a member's name and value
IsMember : List ℕ → Span × Tree → Type 0
IsMember text m = IsSpelledIn text (plain string m.0) × IsSpelledIn text m.1

more_members_spelled : (text : List ℕ) (room : ℕ) (ms : Members) (t r : List ℕ) (i : ℕ) (w : Span × Tree) → Cut text t → MoreMembers (length text) room ms t r → slice_get (members_of ms) i ≡ Some w → IsMember text w
unfolding IsMember
more_members_spelled text room no_members t r i w cut h e = absurd (cc)
more_members_spelled text room (member name v ms) t r zero w cut (m, k, j, o, comma, str, colon, val, more) e =
    let u = cut_on text t m cut (sign_cut 44 t m comma) in
    let to_key : Cut text k = cut_on text m k u (string_cut m k str.1) in
    let to_value = cut_on text k j to_key (sign_cut 58 k j colon) in
    let same : (name, v) ≡ w = cc in
    subst (IsMember text) same ((zero, u.0, m, k, u.1, str), (room, to_value.0, j, o, to_value.1, val))
more_members_spelled text room (member name v ms) t r (suc i) w cut (m, k, j, o, comma, str, colon, val, more) e =
    let to_key : Cut text k = cut_on text t k cut (cut_on t m k (sign_cut 44 t m comma) (string_cut m k str.1)) in
    let to_value = cut_on text k j to_key (sign_cut 58 k j colon) in
    more_members_spelled text room ms o r i w (cut_on text j o to_value (value_cut (length text) room v j o val)) more e

members_spelled : (text : List ℕ) (room : ℕ) (ms : Members) (t r : List ℕ) (i : ℕ) (w : Span × Tree) → Cut text t → Members_ (length text) room ms t r → slice_get (members_of ms) i ≡ Some w → IsMember text w
unfolding IsMember
members_spelled text room no_members t r i w cut h e = absurd (cc)
members_spelled text room (member name v ms) t r zero w cut (m, k, j, o, blanks, str, colon, val, more) e =
    let u = cut_on text t m cut (blanks_cut t m blanks) in
    let to_key : Cut text k = cut_on text m k u (string_cut m k str.1) in
    let to_value = cut_on text k j to_key (sign_cut 58 k j colon) in
    let same : (name, v) ≡ w = cc in
    subst (IsMember text) same ((zero, u.0, m, k, u.1, str), (room, to_value.0, j, o, to_value.1, val))
members_spelled text room (member name v ms) t r (suc i) w cut (m, k, j, o, blanks, str, colon, val, more) e =
    let to_key : Cut text k = cut_on text t k cut (cut_on t m k (blanks_cut t m blanks) (string_cut m k str.1)) in
    let to_value = cut_on text k j to_key (sign_cut 58 k j colon) in
    more_members_spelled text room ms o r i w (cut_on text j o to_value (value_cut (length text) room v j o val)) more e

-- a member of an object that the text spells
pub member_spelled : (text : List ℕ) (ms : Members) (s : Span) (i : ℕ) (w : Span × Tree) → IsSpelledIn text (object ms s) → slice_get (members_of ms) i ≡ Some w → IsSpelledIn text (plain string w.0) × IsSpelledIn text w.1
unfolding IsMember
member_spelled text ms s i w (zero, before, m, k, e, h) at = absurd h
member_spelled text ms s i w (suc room, before, m, k, e, (st, (j, open_, h))) at = members_spelled text room ms j k i w (cut_on text m j (before, e) (123 ∷ [], open_)) h at

pub value_spelled : (text : List ℕ) (v w : Tree) (i : ℕ) → IsSpelledIn text v → slice_get (values_of v) i ≡ Some w → IsSpelledIn text w
value_spelled text (plain p s) w i h e = absurd (cc)
value_spelled text (array vs s) w i (zero, before, m, k, f, h) e = absurd h
value_spelled text (array vs s) w i (suc room, before, m, k, f, (st, (j, open_, h))) e = items_spelled text room vs j k i w (cut_on text m j (before, f) (91 ∷ [], open_)) h e
value_spelled text (object ms s) w i h e = let k = some_back (λ (m : Span × Tree). m.1) (members_of ms) i w e in subst (IsSpelledIn text) k.2 (member_spelled text ms s i k.0 h k.1).1

pub name_spelled : (text : List ℕ) (v : Tree) (s : Span) (i : ℕ) → IsSpelledIn text v → slice_get (names_of v) i ≡ Some s → IsSpelledIn text (plain string s)
name_spelled text (plain p t) s i h e = absurd (cc)
name_spelled text (array vs t) s i h e = absurd (cc)
name_spelled text (object ms t) s i h e =
    let k = some_back (λ (m : Span × Tree). m.0) (members_of ms) i s e in subst (λ y. IsSpelledIn text (plain string y)) k.2 (member_spelled text ms t i k.0 h k.1).0

-- ---- a span may be cut out

pub stands : (n room : ℕ) (v : Tree) (t r : List ℕ) → Value n room v t r → IsSpanOf n (spelled_at v) t r
stands n room (plain p s) t r (st, h) = st
stands n zero (array vs s) t r h = absurd h
stands n (suc room) (array vs s) t r (st, h) = st
stands n zero (object ms s) t r h = absurd h
stands n (suc room) (object ms s) t r (st, h) = st

pub record Cuttable (text : List ℕ) (s : Span) : Type 0 where
  pub order : s.from ≤ s.to
  pub within : s.to ≤ length text
  pub start : IsCharBoundary text s.from
  pub end : IsCharBoundary text s.to

get_or-middle : (xs : List ℕ) (y : ℕ) (zs : List ℕ) → get_or (xs ++ y ∷ zs) (length xs) 0 ≡ y
get_or-middle [] y zs = refl
get_or-middle (x ∷ xs) y zs = get_or-middle xs y zs

pub value_cuttable : (text : List ℕ) (v : Tree) → IsUtf8 text → IsSpelledIn text v → Cuttable text (spelled_at v)
value_cuttable text v utf8 (room, before, m, k, e, h) =
    let s = spelled_at v in
    let st = stands (length text) room v m k h in
    let b = value_begins (length text) room v m k h in
    let l = value_ends (length text) room v m k h in
    let len : length text ≡ length before + length m = ap length e ∙ length-append before m in
    let len_m : length m ≡ length l.before + (1 + length k) = ap length l.split ∙ length-append l.before (l.last ∷ k) ∙ omega arith in
    let len_b : 0 < length m = omega (arith, ap length b.split) in
    let from : s.from ≡ length before = omega (arith, st.0) in
    let ahead : List ℕ = before ++ l.before in
    let to : s.to ≡ length ahead + 1 = omega (arith, st.1, length-append before l.before) in
    let whole : text ≡ ahead ++ l.last ∷ k = e ∙ ap (λ y. before ++ y) l.split ∙ sym (append_assoc before l.before (l.last ∷ k)) in
    let first_is : get_or text (length before) 0 ≡ b.first = ap (λ y. get_or y (length before) 0) (e ∙ ap (λ y. before ++ y) b.split) ∙ get_or-middle before b.first b.rest in
    let last_is : get_or text (length ahead) 0 ≡ l.last = ap (λ y. get_or y (length ahead) 0) whole ∙ get_or-middle ahead l.last k in
    let first_small : get_or text (length before) 0 < 128 = subst (λ y. y < 128) (sym first_is) b.small in
    let last_small : get_or text (length ahead) 0 < 128 = subst (λ y. y < 128) (sym last_is) l.small in
    record {
      order = omega (arith, length-append before l.before);
      within = omega (arith, st.1);
      start = subst (IsCharBoundary text) (sym from) (IsCharBoundary-before_ascii text (length before) (omega arith) first_small);
      end = subst (IsCharBoundary text) (sym to) (IsCharBoundary-after_ascii text (length ahead) utf8 (omega (arith, st.1)) last_small);
    }

pub part_cuttable : (text : List ℕ) (s : Span) → IsUtf8 text → IsPart text s → Cuttable text s
part_cuttable text s utf8 (v, h, e) = subst (Cuttable text) e (value_cuttable text v utf8 h)
