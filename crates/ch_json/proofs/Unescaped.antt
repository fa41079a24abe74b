-- A string, a piece at a time.
use Rattle.std.proofs.Common.{◌≡◌, ℕ, ◌+◌, ◌-◌, ◌<◌, List, [], ◌∷◌, ◌++◌, length, length-append, append_assoc, append-nil, take, drop, get_or, refl, sym, ap, ap₂, ◌∙◌, subst, arith}
use Rattle.std.specs.Prelude.{flat_map, IsUtf8}
use Rattle.std.specs.Str.{IsCharBoundary}
use Rattle.std.proofs.lemmas.Str.{IsCharBoundary-after_ascii}
use Rattle.ch_base.specs.JsonTree.{Span, plain, string}
use Rattle.ch_base.specs.JsonText.{Char, spelling, Chars, char_bytes, Unescapes}
use Rattle.ch_base.specs.JsonParts.{part, IsSpelledIn}
use Rattle.ch_json.specs.Pieces.{IsRest, GoesOn, IsString}
use Rattle.ch_json.proofs.Lists.{drop_front, take_front}
use Rattle.ch_json.proofs.OneText.{one_text}

-- the text so far, with what the characters from `at` on stand for
pub record SoFar (bytes : List ℕ) (at : ℕ) (out : List ℕ) : Type 0 where
  pub chars : List Char
  pub follow : Chars chars (drop at bytes) []
  pub boundary : IsCharBoundary bytes at
  pub whole : Unescapes bytes (out ++ flat_map char_bytes chars)

pub rest_of : (bytes : List ℕ) (at : ℕ) (out : List ℕ) → SoFar bytes at out → IsRest bytes at
rest_of bytes at out h = record { chars = h.chars; follow = h.follow; boundary = h.boundary }

-- behind the opening quote
pub so_far_first : (bytes : List ℕ) → IsUtf8 bytes → IsString bytes → SoFar bytes 1 []
so_far_first bytes utf8 (w, (cs, t, e, h, f)) = record {
  chars = cs;
  follow = subst (λ l. Chars cs (drop 1 l) []) (sym e) h;
  boundary = IsCharBoundary-after_ascii bytes 0 utf8 (omega (arith, ap length e)) (subst (λ l. get_or l 0 0 < 128) (sym e) (omega arith));
  whole = (cs, t, e, h, refl);
}

-- one piece more
pub so_far_more : (bytes : List ℕ) (at : ℕ) (out : List ℕ) (end : ℕ) (more new : List ℕ) (h : SoFar bytes at out) → GoesOn bytes at h.chars end more → new ≡ out ++ more → SoFar bytes end new
so_far_more bytes at out end more new h g e =
    let same : out ++ flat_map char_bytes h.chars ≡ new ++ flat_map char_bytes g.rest = ap (λ l. out ++ l) g.says ∙ sym (append_assoc out more (flat_map char_bytes g.rest)) ∙ ap (λ l. l ++ flat_map char_bytes g.rest) (sym e) in
    record { chars = g.rest; follow = g.follow; boundary = g.boundary; whole = subst (Unescapes bytes) same h.whole }

-- at the closing quote
pub so_far_end : (bytes : List ℕ) (at : ℕ) (out : List ℕ) (h : SoFar bytes at out) → h.chars ≡ [] → Unescapes bytes out
so_far_end bytes at out h e = subst (Unescapes bytes) (ap (λ cs. out ++ flat_map char_bytes cs) e ∙ append-nil out) h.whole

-- ---- a name against it

-- the name's front is the text so far
pub record Matches (bytes : List ℕ) (at : ℕ) (name left : List ℕ) : Type 0 where
  pub out : List ℕ
  pub name_is : name ≡ out ++ left
  pub so_far : SoFar bytes at out

pub matches_more : (bytes : List ℕ) (at : ℕ) (name left : List ℕ) (end : ℕ) (more rest : List ℕ) (h : Matches bytes at name left) → GoesOn bytes at h.so_far.chars end more → left ≡ more ++ rest → Matches bytes end name rest
matches_more bytes at name left end more rest h g e = record {
  out = h.out ++ more;
  name_is = h.name_is ∙ ap (λ l. h.out ++ l) e ∙ sym (append_assoc h.out more rest);
  so_far = so_far_more bytes at h.out end more (h.out ++ more) h.so_far g refl;
}

cancel : (xs ys zs : List ℕ) → xs ++ ys ≡ xs ++ zs → ys ≡ zs
cancel [] ys zs e = e
cancel (x ∷ xs) ys zs e = cancel xs ys zs (cc)

-- what is left of a name that the string has
left_is : (bytes : List ℕ) (at : ℕ) (name left : List ℕ) (h : Matches bytes at name left) → Unescapes bytes name → left ≡ flat_map char_bytes h.so_far.chars
left_is bytes at name left h u = cancel h.out left (flat_map char_bytes h.so_far.chars) (sym h.name_is ∙ one_text bytes name (h.out ++ flat_map char_bytes h.so_far.chars) u h.so_far.whole)

pub matches_end : (bytes : List ℕ) (at : ℕ) (name left : List ℕ) (h : Matches bytes at name left) → h.so_far.chars ≡ [] → left ≡ [] → Unescapes bytes name
matches_end bytes at name left h none e = subst (Unescapes bytes) (sym (h.name_is ∙ ap (λ l. h.out ++ l) e ∙ append-nil h.out)) (so_far_end bytes at h.out h.so_far none)

pub matches_over : (bytes : List ℕ) (at : ℕ) (name left : List ℕ) (h : Matches bytes at name left) → h.so_far.chars ≡ [] → Unescapes bytes name → left ≡ []
matches_over bytes at name left h none u = left_is bytes at name left h u ∙ ap (flat_map char_bytes) none

pub matches_not : (bytes : List ℕ) (at : ℕ) (name left : List ℕ) (end : ℕ) (more : List ℕ) (h : Matches bytes at name left) → GoesOn bytes at h.so_far.chars end more → ((rest : List ℕ) → left ≡ more ++ rest → ⊥) → Unescapes bytes name → ⊥
matches_not bytes at name left end more h g none u = none (flat_map char_bytes g.rest) (left_is bytes at name left h u ∙ g.says)

-- ---- the string of a span

-- the characters without what follows them
chars_alone : (cs : List Char) (t r : List ℕ) → Chars cs t r → (u : List ℕ) × (t ≡ u ++ r) × Chars cs u []
chars_alone [] t r e = (34 ∷ [], e, refl)
chars_alone (c ∷ cs) t r (is, (m, e, h)) =
    let k = chars_alone cs m r h in
    (spelling c ++ k.0, e ∙ ap (λ l. spelling c ++ l) k.1 ∙ sym (append_assoc (spelling c) k.0 r), (is, (k.0, refl, k.2)))

pub string_of_span : (text : List ℕ) (s : Span) → IsSpelledIn text (plain string s) → IsString (part text s)
string_of_span text s (room, before, m, k, e, (st, (cs, (j, open_, h)))) =
    let u = chars_alone cs j k h in
    let all : List ℕ = 34 ∷ u.0 in
    let split : m ≡ all ++ k = open_ ∙ ap (λ (l : List ℕ). 34 ∷ l) u.1 in
    let len : length text ≡ length before + length m = ap length e ∙ length-append before m in
    let len_m : length m ≡ length all + length k = ap length split ∙ length-append all k in
    let from : s.from ≡ length before = omega (arith, st.0) in
    let size : s.to - s.from ≡ length all = omega (arith, st.0, st.1) in
    let rest : drop s.from text ≡ all ++ k = ap₂ (λ (i : ℕ) (l : List ℕ). drop i l) from e ∙ drop_front before m ∙ split in
    let here : part text s ≡ all = ap₂ (λ (i : ℕ) (l : List ℕ). take i l) size rest ∙ take_front all k in
    (flat_map char_bytes cs, (cs, u.0, here, u.2, refl))
