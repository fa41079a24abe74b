-- Strings without an escape, and objects of two members.
use Rattle.std.proofs.Common.{◌≡◌, inl, inr, ℕ, List, [], ◌∷◌, ◌++◌, length, true, false, refl, sym, ap, ◌∙◌, arith}
use Rattle.std.specs.Prelude.{bytes_eq, map, flat_map}
use Rattle.std.specs.Cmp.Lexicographic.{other_text}
use Rattle.std.specs.List.{list_all}
use Rattle.std.proofs.lemmas.Bool.{and_parts}
use Rattle.ch_base.specs.JsonTree.{Span, Tree, no_members, member}
use Rattle.ch_base.specs.JsonText.{is_unescaped, byte, Chars, String, char_bytes, Unescapes}
use Rattle.ch_base.specs.JsonParts.{part}
use Rattle.ch_base.specs.ObjectMembers.{AreDistinct, HasNone, HasOne}
use Rattle.ch_json.proofs.OneText.{one_text}

-- a quoted text
abbrev pub in_quotes : List ℕ → List ℕ → List ℕ
in_quotes bytes rest = 34 ∷ (bytes ++ 34 ∷ rest)

chars_from : (bytes rest : List ℕ) → list_all is_unescaped bytes ≡ true → Chars (map byte bytes) (bytes ++ 34 ∷ rest) rest
chars_from [] rest h = refl
chars_from (b ∷ bytes) rest h =
    let both = and_parts (is_unescaped b) (list_all is_unescaped bytes) h in
    (both.0, (bytes ++ 34 ∷ rest, refl, chars_from bytes rest both.1))

means_itself : (bytes : List ℕ) → bytes ≡ flat_map char_bytes (map byte bytes)
means_itself [] = refl
means_itself (b ∷ bytes) = ap (λ (z : List ℕ). b ∷ z) (means_itself bytes)

-- bytes that stand for themselves are a string between quotes
pub string_from : (bytes rest : List ℕ) → list_all is_unescaped bytes ≡ true → String (in_quotes bytes rest) rest
string_from bytes rest h = (map byte bytes, (bytes ++ 34 ∷ rest, refl, chars_from bytes rest h))

pub unescapes_from : (bytes : List ℕ) → list_all is_unescaped bytes ≡ true → Unescapes (in_quotes bytes []) bytes
unescapes_from bytes h = (map byte bytes, bytes ++ 34 ∷ [], refl, chars_from bytes [] h, means_itself bytes)

-- ---- members

-- a string is no other one
pub no_other : (bytes m n : List ℕ) → Unescapes bytes m → bytes_eq m n ≡ false → Unescapes bytes n → ⊥
no_other bytes m n h apart k = other_text m n (sym apart) (one_text bytes m n h k)

pub distinct_one : (text : List ℕ) (key : Span) (v : Tree) → AreDistinct text (member key v no_members)
distinct_one text key v name vs (inl (is, (rest, e, none))) = let size : length vs ≡ length (v ∷ rest) = ap length e in let nothing : length rest ≡ 0 = ap length none in omega (arith, size, nothing)
distinct_one text key v name vs (inr (other, none)) = let size : length vs ≡ 0 = ap length none in omega (arith, size)

pub distinct_two : (text : List ℕ) (key other : Span) (v w : Tree) (m n : List ℕ) → Unescapes (part text key) m → Unescapes (part text other) n → bytes_eq m n ≡ false
    → AreDistinct text (member key v (member other w no_members))
distinct_two text key other v w m n h k apart name vs (inl (is, (rest, e, inl (is_too, (more, f, none))))) =
    absurd (other_text m n (sym apart) (one_text (part text key) m name h is ∙ sym (one_text (part text other) n name k is_too)))
distinct_two text key other v w m n h k apart name vs (inl (is, (rest, e, inr (other_name, none)))) =
    let size : length vs ≡ length (v ∷ rest) = ap length e in let nothing : length rest ≡ 0 = ap length none in omega (arith, size, nothing)
distinct_two text key other v w m n h k apart name vs (inr (other_name, named)) = distinct_one text other w name vs named

-- the first of two members is the only one of its name
pub first_of_two : (text : List ℕ) (key other : Span) (v w : Tree) (m n : List ℕ) → Unescapes (part text key) m → Unescapes (part text other) n → bytes_eq n m ≡ false
    → HasOne text (member key v (member other w no_members)) m v
first_of_two text key other v w m n h k apart = inl (h, ([], refl, inr (no_other (part text other) n m k apart, refl)))

-- and so is the second
pub second_of_two : (text : List ℕ) (key other : Span) (v w : Tree) (m n : List ℕ) → Unescapes (part text key) m → Unescapes (part text other) n → bytes_eq m n ≡ false
    → HasOne text (member key v (member other w no_members)) n w
second_of_two text key other v w m n h k apart = inr (no_other (part text key) m n h apart, inl (k, ([], refl, refl)))

pub one_alone : (text : List ℕ) (key : Span) (v : Tree) (m : List ℕ) → Unescapes (part text key) m → HasOne text (member key v no_members) m v
one_alone text key v m h = inl (h, ([], refl, refl))

pub none_of_one : (text : List ℕ) (key : Span) (v : Tree) (m name : List ℕ) → Unescapes (part text key) m → bytes_eq m name ≡ false → HasNone text (member key v no_members) name
none_of_one text key v m name h apart = inr (no_other (part text key) m name h apart, refl)

pub none_of_two : (text : List ℕ) (key other : Span) (v w : Tree) (m n name : List ℕ) → Unescapes (part text key) m → Unescapes (part text other) n → bytes_eq m name ≡ false → bytes_eq n name ≡ false
    → HasNone text (member key v (member other w no_members)) name
none_of_two text key other v w m n name h k apart apart_too = inr (no_other (part text key) m name h apart, none_of_one text other w n name k apart_too)
