-- A string spells one list of characters.
use Rattle.std.proofs.Common.{◌==◌, ◌≡◌, ℕ, List, [], ◌∷◌, ◌++◌, true, not, ◌&&◌, ◌||◌, refl, sym, ap, ap₂, ◌∙◌, subst}
use Rattle.std.specs.Prelude.{flat_map}
use Rattle.std.proofs.lemmas.Bool.{and_parts}
use Rattle.ch_base.specs.JsonText.{is_unescaped, is_short, is_char, Char, byte, short, unit, pair, spelling, Chars, char_bytes, Unescapes, is_d, is_8_to_b, is_c_to_f}

pub no_quote : (x : ℕ) → is_unescaped x ≡ true → x ≡ 34 → ⊥
no_quote x h e = let k = subst (λ y. is_unescaped y ≡ true) e h in cc k

pub no_backslash : (x : ℕ) → is_unescaped x ≡ true → x ≡ 92 → ⊥
no_backslash x h e = let k = subst (λ y. is_unescaped y ≡ true) e h in cc k

no_u : (x : ℕ) → is_short x ≡ true → x ≡ 117 → ⊥
no_u x h e = let k = subst (λ y. is_short y ≡ true) e h in cc k

no_surrogate : (a b c d : ℕ) → is_char (unit a b c d) ≡ true → is_d a ≡ true → is_8_to_b b ≡ true → ⊥
no_surrogate a b c d h e f =
    let p = (and_parts _ _ (and_parts _ _ h).0).1 in
    let k : not (true && (true || is_c_to_f b)) ≡ true = subst (λ y. not (true && (y || is_c_to_f b)) ≡ true) f (subst (λ y. not (y && (is_8_to_b b || is_c_to_f b)) ≡ true) e p) in
    cc k

abbrev Same : Char → Char → Type 0
Same c d = (m n : List ℕ) → is_char c ≡ true → is_char d ≡ true → spelling c ++ m ≡ spelling d ++ n → (c ≡ d) × (m ≡ n)

tail_same : (a b : ℕ) (s t : List ℕ) → ◌≡◌ {A = List ℕ} (a ∷ s) (b ∷ t) → (a ≡ b) × (s ≡ t)
tail_same a b s t e = (cc, cc)

same_byte : (x y : ℕ) → Same (byte x) (byte y)
same_byte x y m n h k e = let p = tail_same x y m n e in (ap byte p.0, p.1)

same_short : (x y : ℕ) → Same (short x) (short y)
same_short x y m n h k e = let p = tail_same x y m n (tail_same 92 92 _ _ e).1 in (ap short p.0, p.1)

four : (a b c d a2 b2 c2 d2 : ℕ) (m n : List ℕ) → ◌≡◌ {A = List ℕ} (a ∷ b ∷ c ∷ d ∷ m) (a2 ∷ b2 ∷ c2 ∷ d2 ∷ n) → (a ≡ a2) × (b ≡ b2) × (c ≡ c2) × (d ≡ d2) × (m ≡ n)
four a b c d a2 b2 c2 d2 m n e =
    let p = tail_same a a2 _ _ e in
    let q = tail_same b b2 _ _ p.1 in
    let r = tail_same c c2 _ _ q.1 in
    let s = tail_same d d2 m n r.1 in
    (p.0, q.0, r.0, s.0, s.1)

two : (m n : List ℕ) → ◌≡◌ {A = List ℕ} (92 ∷ 117 ∷ m) (92 ∷ 117 ∷ n) → m ≡ n
two m n e = (tail_same 117 117 m n (tail_same 92 92 _ _ e).1).1

same_unit : (a b c d a2 b2 c2 d2 : ℕ) → Same (unit a b c d) (unit a2 b2 c2 d2)
same_unit a b c d a2 b2 c2 d2 m n h k e =
    let f = four a b c d a2 b2 c2 d2 m n (two _ _ e) in
    (ap (λ x. unit x b c d) f.0 ∙ ap (λ x. unit a2 x c d) f.1 ∙ ap (λ x. unit a2 b2 x d) f.2 ∙ ap (λ x. unit a2 b2 c2 x) f.3, f.4)

same_pair : (a b c d f g p q a2 b2 c2 d2 f2 g2 p2 q2 : ℕ) → Same (pair a b c d f g p q) (pair a2 b2 c2 d2 f2 g2 p2 q2)
same_pair a b c d f g p q a2 b2 c2 d2 f2 g2 p2 q2 m n h k e =
    let u = four a b c d a2 b2 c2 d2 _ _ (two _ _ e) in
    let v = four f g p q f2 g2 p2 q2 m n (two _ _ u.4) in (
      ap (λ x. pair x b c d f g p q) u.0 ∙ ap (λ x. pair a2 x c d f g p q) u.1 ∙ ap (λ x. pair a2 b2 x d f g p q) u.2 ∙ ap (λ x. pair a2 b2 c2 x f g p q) u.3
          ∙ ap (λ x. pair a2 b2 c2 d2 x g p q) v.0 ∙ ap (λ x. pair a2 b2 c2 d2 f2 x p q) v.1 ∙ ap (λ x. pair a2 b2 c2 d2 f2 g2 x q) v.2 ∙ ap (λ x. pair a2 b2 c2 d2 f2 g2 p2 x) v.3,
      v.4,
    )

unit_pair : (a b c d a2 b2 c2 d2 f g p q : ℕ) (m n : List ℕ) → is_char (unit a b c d) ≡ true → is_char (pair a2 b2 c2 d2 f g p q) ≡ true → ◌≡◌ {A = List ℕ} (spelling (unit a b c d) ++ m) (spelling (pair a2 b2 c2 d2 f g p q) ++ n) → ⊥
unit_pair a b c d a2 b2 c2 d2 f g p q m n h k e =
    let u = four a b c d a2 b2 c2 d2 m _ (two _ _ e) in
    let s = and_parts _ _ (and_parts _ _ k).0 in
    no_surrogate a b c d h (subst (λ y. is_d y ≡ true) (sym u.0) s.0) (subst (λ y. is_8_to_b y ≡ true) (sym u.1) s.1)

char_same : (c d : Char) → Same c d
char_same (byte x) (byte x2) m n h k e = same_byte x x2 m n h k e
char_same (byte x) (short x2) m n h k e = absurd (no_backslash x h (tail_same x 92 _ _ e).0)
char_same (byte x) (unit a2 b2 c2 d2) m n h k e = absurd (no_backslash x h (tail_same x 92 _ _ e).0)
char_same (byte x) (pair a2 b2 c2 d2 f2 g2 p2 q2) m n h k e = absurd (no_backslash x h (tail_same x 92 _ _ e).0)
char_same (short x) (byte x2) m n h k e = absurd (no_backslash x2 k (tail_same x2 92 _ _ (sym e)).0)
char_same (short x) (short x2) m n h k e = same_short x x2 m n h k e
char_same (short x) (unit a2 b2 c2 d2) m n h k e = absurd (no_u x h (tail_same x 117 _ _ (tail_same 92 92 _ _ e).1).0)
char_same (short x) (pair a2 b2 c2 d2 f2 g2 p2 q2) m n h k e = absurd (no_u x h (tail_same x 117 _ _ (tail_same 92 92 _ _ e).1).0)
char_same (unit a b c d) (byte x2) m n h k e = absurd (no_backslash x2 k (tail_same x2 92 _ _ (sym e)).0)
char_same (unit a b c d) (short x2) m n h k e = absurd (no_u x2 k (tail_same x2 117 _ _ (tail_same 92 92 _ _ (sym e)).1).0)
char_same (unit a b c d) (unit a2 b2 c2 d2) m n h k e = same_unit a b c d a2 b2 c2 d2 m n h k e
char_same (unit a b c d) (pair a2 b2 c2 d2 f2 g2 p2 q2) m n h k e = absurd (unit_pair a b c d a2 b2 c2 d2 f2 g2 p2 q2 m n h k e)
char_same (pair a b c d f g p q) (byte x2) m n h k e = absurd (no_backslash x2 k (tail_same x2 92 _ _ (sym e)).0)
char_same (pair a b c d f g p q) (short x2) m n h k e = absurd (no_u x2 k (tail_same x2 117 _ _ (tail_same 92 92 _ _ (sym e)).1).0)
char_same (pair a b c d f g p q) (unit a2 b2 c2 d2) m n h k e = absurd (unit_pair a2 b2 c2 d2 a b c d f g p q n m k h (sym e))
char_same (pair a b c d f g p q) (pair a2 b2 c2 d2 f2 g2 p2 q2) m n h k e = same_pair a b c d f g p q a2 b2 c2 d2 f2 g2 p2 q2 m n h k e

other_byte : ◌≡◌ {A = ℕ} 34 92 → ⊥
other_byte e = let k : (34 == 92) ≡ true = subst (λ y. (34 == y) ≡ true) e refl in cc k

quote_none : (c : Char) (m r : List ℕ) → is_char c ≡ true → ◌≡◌ {A = List ℕ} (34 ∷ r) (spelling c ++ m) → ⊥
quote_none (byte x) m r h e = no_quote x h (sym (tail_same 34 x _ _ e).0)
quote_none (short x) m r h e = other_byte (tail_same 34 92 _ _ e).0
quote_none (unit a b c d) m r h e = other_byte (tail_same 34 92 _ _ e).0
quote_none (pair a b c d f g p q) m r h e = other_byte (tail_same 34 92 _ _ e).0

pub chars_same : (cs ds : List Char) (t r s : List ℕ) → Chars cs t r → Chars ds t s → (cs ≡ ds) × (r ≡ s)
chars_same [] [] t r s h k = (refl, (tail_same 34 34 r s (sym h ∙ k)).1)
chars_same [] (d ∷ ds) t r s h (is, (m, e, k)) = absurd (quote_none d m r is (sym h ∙ e))
chars_same (c ∷ cs) [] t r s (is, (m, e, h)) k = absurd (quote_none c m s is (sym k ∙ e))
chars_same (c ∷ cs) (d ∷ ds) t r s (is, (m, e, h)) (is2, (m2, e2, k)) =
    let p = char_same c d m m2 is is2 (sym e ∙ e2) in
    let more = chars_same cs ds m r s h (subst (λ y. Chars ds y s) (sym p.1) k) in
    (ap₂ (λ (x : Char) (y : List Char). x ∷ y) p.0 more.0, more.1)

-- bytes are a string with one text at most
pub one_text : (bytes v w : List ℕ) → Unescapes bytes v → Unescapes bytes w → v ≡ w
one_text bytes v w (cs, t, e, h, f) (ds, u, g, k, i) =
    let rest : u ≡ t = (tail_same 34 34 u t (sym g ∙ e)).1 in
    let same = (chars_same cs ds t [] [] h (subst (λ y. Chars ds y []) rest k)).0 in
    f ∙ ap (flat_map char_bytes) same ∙ sym i
