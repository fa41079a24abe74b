-- A byte of a string, and what may follow it.
use Rattle.std.proofs.Common.{◌≡◌, inl, inr, ℕ, List, [], ◌∷◌, ◌++◌, Bool, true, false, not, cond, ◌&&◌, ◌||◌, ◌==◌, refl, sym, ap, subst, arith}
use Rattle.std.proofs.lemmas.Bool.{eqb-true, and_parts}
use Rattle.ch_base.specs.Grammar.{Rule, Byte, One, ◌then◌, ◌or◌}
use Rattle.ch_base.specs.JsonText.{is_hex, is_d, is_8_to_b, is_c_to_f, is_unescaped, is_short, Char, byte, short, unit, pair, Chars}
use Rattle.ch_json.specs.Scalars.{InString, chars, escape, digits4, after_d, digits3, digits2, digits1, high2, high1, low_backslash, low_u, low_first, low_second, is_other_hex, is_0_to_7, ends, on, fault, to_if, string_step, AnyChars, RestOfString, AfterStringStep, Digits1, Digits2, Digits3, Digits4, High1, High2, LowBackslash, LowU, LowFirst, LowSecond, AfterD, Escape}
use Rattle.ch_json.proofs.Choice.{either_way, when_so, when_not}

-- the byte at the front is of the class, and the rule goes on behind it
pub One-cons : (p : ℕ → Bool) (S : Rule) (b : ℕ) (t r : List ℕ) → (One p then S) (b ∷ t) r → (p b ≡ true) × S t r
One-cons p S b t r (m, (x, is, e), s) =
    let same : x ≡ b = cc in
    let rest : m ≡ t = cc in
    (subst (λ y. p y ≡ true) same is, subst (λ k. S k r) rest s)

pub Byte-cons : (a : ℕ) (S : Rule) (b : ℕ) (t r : List ℕ) → (Byte a then S) (b ∷ t) r → (b ≡ a) × S t r
Byte-cons a S b t r (m, e, s) =
    let rest : m ≡ t = cc in
    (cc, subst (λ k. S k r) rest s)

-- a class with one way on
one_on : (p : ℕ → Bool) (q : InString) (b : ℕ) (t r : List ℕ) → (One p then RestOfString q) (b ∷ t) r → AfterStringStep (to_if (p b) q) t r
one_on p q b t r h = let o = One-cons p (RestOfString q) b t r h in when_so (λ s. AfterStringStep s t r) (p b) (on q) fault o.0 o.1

one_back : (p : ℕ → Bool) (q : InString) (b : ℕ) (t r : List ℕ) → AfterStringStep (to_if (p b) q) t r → (One p then RestOfString q) (b ∷ t) r
one_back p q b t r h = either_way (λ s. AfterStringStep s t r) (p b) (on q) fault (λ e s. (t, (b, e, refl), s)) (λ e s. absurd s) h

pub same_eqb : (b : ℕ) → (b == b) ≡ true
same_eqb b = grind arith

byte_on : (a : ℕ) (q : InString) (b : ℕ) (t r : List ℕ) → (Byte a then RestOfString q) (b ∷ t) r → AfterStringStep (to_if (b == a) q) t r
byte_on a q b t r h = let o = Byte-cons a (RestOfString q) b t r h in when_so (λ s. AfterStringStep s t r) (b == a) (on q) fault (rw o.0 (same_eqb a)) o.1

byte_back : (a : ℕ) (q : InString) (b : ℕ) (t r : List ℕ) → AfterStringStep (to_if (b == a) q) t r → (Byte a then RestOfString q) (b ∷ t) r
byte_back a q b t r h = either_way (λ s. AfterStringStep s t r) (b == a) (on q) fault (λ e s. (t, rw (eqb-true b a e) refl, s)) (λ e s. absurd s) h

-- two classes, the first tried first; the second holds of no byte of the first
two_on : (p o : ℕ → Bool) (q s : InString) (b : ℕ) (t r : List ℕ) → (o b ≡ true → p b ≡ false) → ((One p then RestOfString q) or (One o then RestOfString s)) (b ∷ t) r
    → AfterStringStep (cond (p b) (on q) (to_if (o b) s)) t r
two_on p o q s b t r apart (inl h) = let k = One-cons p (RestOfString q) b t r h in when_so (λ x. AfterStringStep x t r) (p b) (on q) (to_if (o b) s) k.0 k.1
two_on p o q s b t r apart (inr h) =
    let k = One-cons o (RestOfString s) b t r h in when_not (λ x. AfterStringStep x t r) (p b) (on q) (to_if (o b) s) (apart k.0) (one_on o s b t r h)

two_back : (p o : ℕ → Bool) (q s : InString) (b : ℕ) (t r : List ℕ) → AfterStringStep (cond (p b) (on q) (to_if (o b) s)) t r
    → ((One p then RestOfString q) or (One o then RestOfString s)) (b ∷ t) r
two_back p o q s b t r h =
    either_way (λ x. AfterStringStep x t r) (p b) (on q) (to_if (o b) s) (λ e k. inl (t, (b, e, refl), k)) (λ e k. inr (one_back o s b t r k)) h

not_is : (y : Bool) → not y ≡ true → y ≡ false
not_is true e = sym e
not_is false e = refl

-- ---- between characters

join : (x y : Bool) → x ≡ true → y ≡ true → (x && y) ≡ true
join x y e f = rw (e, f) refl

both_not : (y : Bool) → y ≡ false → not y ≡ true
both_not y e = rw e refl

first_of_or : (x y : Bool) → not (x || y) ≡ true → (x ≡ false) × (y ≡ false)
first_of_or true y e = absurd (cc)
first_of_or false y e = (refl, not_is y e)

-- the digit d, and a second digit that makes no surrogate
unit_second : (d : Bool) (s : Bool) → d ≡ true → not (d && s) ≡ true → not s ≡ true
unit_second d s e f = let g : not (true && s) ≡ true = rw e at f in g

-- the first character of a string, or its quote
chars_on : (cs : List Char) (b : ℕ) (t r : List ℕ) → Chars cs (b ∷ t) r → AfterStringStep (string_step chars b) t r
unfolding string_step
chars_on [] b t r e =
    let quote : b ≡ 34 = cc in
    let rest : r ≡ t = cc in
    when_so (λ x. AfterStringStep x t r) (b == 34) ends _ (rw quote refl) rest
chars_on (byte x ∷ cs) b t r (is, (m, e, more)) =
    let same : x ≡ b = cc in
    let rest : m ≡ t = cc in
    let here : is_unescaped b ≡ true = subst (λ y. is_unescaped y ≡ true) same is in
    let parts = and_parts _ _ (and_parts _ _ here).1 in
    when_not (λ x. AfterStringStep x t r) (b == 34) ends _ (not_is _ parts.0)
    (when_not (λ x. AfterStringStep x t r) (b == 92) (on escape) _ (not_is _ parts.1) (when_so (λ x. AfterStringStep x t r) (is_unescaped b) (on chars) fault here (cs, subst (λ k. Chars cs k r) rest more)))
chars_on (short x ∷ cs) b t r (is, (m, e, more)) =
    let slash : b ≡ 92 = cc in
    let rest : t ≡ x ∷ m = cc in
    subst (λ y. AfterStringStep (string_step chars y) t r) (sym slash) (inl (m, (x, is, rest), (cs, more)))
chars_on (unit a c d f ∷ cs) b t r (is, (m, e, more)) =
    let slash : b ≡ 92 = cc in
    let rest : t ≡ 117 ∷ a ∷ c ∷ d ∷ f ∷ m = cc in
    let p = and_parts _ _ is in
    let q = and_parts _ _ p.0 in
    let h = and_parts _ _ p.1 in
    let k = and_parts _ _ h.1 in
    let tail2 : RestOfString digits2 (d ∷ f ∷ m) r = (f ∷ m, (d, k.0, refl), (m, (f, k.1, refl), (cs, more))) in
    let go : (v : Bool) → is_d a ≡ v → RestOfString digits4 (a ∷ c ∷ d ∷ f ∷ m) r = λ v. elim v as (λ v. is_d a ≡ v → RestOfString digits4 (a ∷ c ∷ d ∷ f ∷ m) r) [
      | true ↦ λ isd. inl (c ∷ d ∷ f ∷ m, (a, isd, refl), inr (d ∷ f ∷ m, (c, join _ _ h.0 (unit_second (is_d a) _ isd q.1), refl), tail2))
      | false ↦ λ isd. inr (c ∷ d ∷ f ∷ m, (a, join _ _ q.0 (both_not _ isd), refl), (d ∷ f ∷ m, (c, h.0, refl), tail2))
    ] in
    subst (λ y. AfterStringStep (string_step chars y) t r) (sym slash) (inr (a ∷ c ∷ d ∷ f ∷ m, rest, go (is_d a) refl))
chars_on (pair a c d f g h i j ∷ cs) b t r (is, (m, e, more)) =
    let slash : b ≡ 92 = cc in
    let rest : t ≡ 117 ∷ a ∷ c ∷ d ∷ f ∷ 92 ∷ 117 ∷ g ∷ h ∷ i ∷ j ∷ m = cc in
    let p = and_parts _ _ is in
    let ac = and_parts _ _ p.0 in
    let q = and_parts _ _ p.1 in
    let df = and_parts _ _ q.0 in
    let s = and_parts _ _ q.1 in
    let gh = and_parts _ _ s.0 in
    let ij = and_parts _ _ s.1 in
    let tail2 : RestOfString digits2 (i ∷ j ∷ m) r = (j ∷ m, (i, ij.0, refl), (m, (j, ij.1, refl), (cs, more))) in
    let low : RestOfString low_backslash (92 ∷ 117 ∷ g ∷ h ∷ i ∷ j ∷ m) r = (117 ∷ g ∷ h ∷ i ∷ j ∷ m, refl, (g ∷ h ∷ i ∷ j ∷ m, refl, (h ∷ i ∷ j ∷ m, (g, gh.0, refl), (i ∷ j ∷ m, (h, gh.1, refl), tail2)))) in
    let high : RestOfString high2 (d ∷ f ∷ 92 ∷ 117 ∷ g ∷ h ∷ i ∷ j ∷ m) r = (f ∷ 92 ∷ 117 ∷ g ∷ h ∷ i ∷ j ∷ m, (d, df.0, refl), (92 ∷ 117 ∷ g ∷ h ∷ i ∷ j ∷ m, (f, df.1, refl), low)) in
    subst (λ y. AfterStringStep (string_step chars y) t r) (sym slash)
    (inr (a ∷ c ∷ d ∷ f ∷ 92 ∷ 117 ∷ g ∷ h ∷ i ∷ j ∷ m, rest, inl (c ∷ d ∷ f ∷ 92 ∷ 117 ∷ g ∷ h ∷ i ∷ j ∷ m, (a, ac.0, refl), inl (d ∷ f ∷ 92 ∷ 117 ∷ g ∷ h ∷ i ∷ j ∷ m, (c, ac.1, refl), high))))

d_is_hex : (a : ℕ) → is_d a ≡ true → is_hex a ≡ true
d_is_hex a e = either_way (λ (x : Bool). x ≡ true) (a == 100) true (a == 68) (λ f _. rw (eqb-true a 100 f) refl) (λ _ f. rw (eqb-true a 68 f) refl) (or_cond (a == 100) (a == 68) e)
  where
    or_cond : (x y : Bool) → (x || y) ≡ true → cond x true y ≡ true
    or_cond true y h = refl
    or_cond false y h = h

-- an escape is a character
escape_back : (t r : List ℕ) → Escape t r → AnyChars (92 ∷ t) r
escape_back t r (inl (m, (x, is, e), (cs, more))) = (short x ∷ cs, (is, (m, ap (λ k. 92 ∷ k) e, more)))
escape_back t r (inr (m, e, inl (k, (a, isd, e2), inl (l, (c, is8, e3), (m1, (d, h1, e4), (m2, (f, h2, e5), (m3, e6, (m4, e7, (m5, (g, h3, e8), (m6, (h, h4, e9), (m7, (i, h5, e10), (m8, (j, h6, e11), (cs, more))))))))))))) =
    let whole : ◌≡◌ {A = List ℕ} (92 ∷ t) (92 ∷ 117 ∷ a ∷ c ∷ d ∷ f ∷ 92 ∷ 117 ∷ g ∷ h ∷ i ∷ j ∷ m8) = cc in
    (pair a c d f g h i j ∷ cs, (join _ _ (join _ _ isd is8) (join _ _ (join _ _ h1 h2) (join _ _ (join _ _ h3 h4) (join _ _ h5 h6))), (m8, whole, more)))
escape_back t r (inr (m, e, inl (k, (a, isd, e2), inr (l, (c, is0, e3), (n, (d, isx, e4), (o, (f, isy, e5), (cs, more))))))) =
    let whole : ◌≡◌ {A = List ℕ} (92 ∷ t) (92 ∷ 117 ∷ a ∷ c ∷ d ∷ f ∷ o) = cc in
    let p = and_parts _ _ is0 in
    let free : not (is_d a && (is_8_to_b c || is_c_to_f c)) ≡ true = rw isd p.1 in
    (unit a c d f ∷ cs, (join _ _ (join _ _ (d_is_hex a isd) free) (join _ _ p.0 (join _ _ isx isy)), (o, whole, more)))
escape_back t r (inr (m, e, inr (k, (a, ish, e2), (l, (c, is0, e3), (n, (d, isx, e4), (o, (f, isy, e5), (cs, more))))))) =
    let whole : ◌≡◌ {A = List ℕ} (92 ∷ t) (92 ∷ 117 ∷ a ∷ c ∷ d ∷ f ∷ o) = cc in
    let p = and_parts _ _ ish in
    let free : not (is_d a && (is_8_to_b c || is_c_to_f c)) ≡ true = rw (not_is (is_d a) p.1) refl in
    (unit a c d f ∷ cs, (join _ _ (join _ _ p.0 free) (join _ _ is0 (join _ _ isx isy)), (o, whole, more)))

-- ---- each step, both ways

pub string_on : (q : InString) (b : ℕ) (t r : List ℕ) → RestOfString q (b ∷ t) r → AfterStringStep (string_step q b) t r
unfolding string_step
string_on chars b t r (cs, h) = chars_on cs b t r h
string_on escape b t r (inl h) = let k = One-cons is_short AnyChars b t r h in when_so (λ x. AfterStringStep x t r) (is_short b) (on chars) _ k.0 k.1
string_on escape b t r (inr h) =
    let k = Byte-cons 117 Digits4 b t r h in when_not (λ x. AfterStringStep x t r) (is_short b) (on chars) _ (rw k.0 refl) (byte_on 117 digits4 b t r h)
string_on digits4 b t r h = two_on is_d is_other_hex after_d digits3 b t r (λ e. not_is _ (and_parts _ _ e).1) h
string_on after_d b t r h = two_on is_8_to_b is_0_to_7 high2 digits2 b t r (λ e. (first_of_or _ _ (and_parts _ _ e).1).0) h
string_on digits3 b t r h = one_on is_hex digits2 b t r h
string_on digits2 b t r h = one_on is_hex digits1 b t r h
string_on digits1 b t r h = one_on is_hex chars b t r h
string_on high2 b t r h = one_on is_hex high1 b t r h
string_on high1 b t r h = one_on is_hex low_backslash b t r h
string_on low_backslash b t r h = byte_on 92 low_u b t r h
string_on low_u b t r h = byte_on 117 low_first b t r h
string_on low_first b t r h = one_on is_d low_second b t r h
string_on low_second b t r h = one_on is_c_to_f digits2 b t r h

chars_back : (b : ℕ) (t r : List ℕ) → AfterStringStep (string_step chars b) t r → AnyChars (b ∷ t) r
unfolding string_step
chars_back b t r h =
    either_way (λ x. AfterStringStep x t r) (b == 34) ends _ (λ e k. let same : ◌≡◌ {A = List ℕ} (b ∷ t) (34 ∷ r) = rw (eqb-true b 34 e, k) refl in ([], same))
    (λ not_quote.
    either_way (λ x. AfterStringStep x t r) (b == 92) (on escape) _ (λ e k. rw (eqb-true b 92 e) (escape_back t r k)) (λ not_slash.
    either_way (λ x. AfterStringStep x t r) (is_unescaped b) (on chars) fault (λ e k. (byte b ∷ k.0, (e, (t, refl, k.1)))) (λ e k. absurd k))) h

pub string_back : (q : InString) (b : ℕ) (t r : List ℕ) → AfterStringStep (string_step q b) t r → RestOfString q (b ∷ t) r
unfolding string_step
string_back chars b t r h = chars_back b t r h
string_back escape b t r h =
    either_way (λ x. AfterStringStep x t r) (is_short b) (on chars) (to_if (b == 117) digits4) (λ e k. inl (t, (b, e, refl), k)) (λ e k. inr (byte_back 117 digits4 b t r k)) h
string_back digits4 b t r h = two_back is_d is_other_hex after_d digits3 b t r h
string_back after_d b t r h = two_back is_8_to_b is_0_to_7 high2 digits2 b t r h
string_back digits3 b t r h = one_back is_hex digits2 b t r h
string_back digits2 b t r h = one_back is_hex digits1 b t r h
string_back digits1 b t r h = one_back is_hex chars b t r h
string_back high2 b t r h = one_back is_hex high1 b t r h
string_back high1 b t r h = one_back is_hex low_backslash b t r h
string_back low_backslash b t r h = byte_back 92 low_u b t r h
string_back low_u b t r h = byte_back 117 low_first b t r h
string_back low_first b t r h = one_back is_d low_second b t r h
string_back low_second b t r h = one_back is_c_to_f digits2 b t r h

-- ---- a string can always be ended, and has not ended

abbrev pub string_end : InString → List ℕ
string_end chars = 34 ∷ []
string_end escape = 110 ∷ 34 ∷ []
string_end digits4 = 48 ∷ 48 ∷ 48 ∷ 48 ∷ 34 ∷ []
string_end after_d = 48 ∷ 48 ∷ 48 ∷ 34 ∷ []
string_end digits3 = 48 ∷ 48 ∷ 48 ∷ 34 ∷ []
string_end digits2 = 48 ∷ 48 ∷ 34 ∷ []
string_end digits1 = 48 ∷ 34 ∷ []
string_end high2 = 48 ∷ 48 ∷ 92 ∷ 117 ∷ 100 ∷ 99 ∷ 48 ∷ 48 ∷ 34 ∷ []
string_end high1 = 48 ∷ 92 ∷ 117 ∷ 100 ∷ 99 ∷ 48 ∷ 48 ∷ 34 ∷ []
string_end low_backslash = 92 ∷ 117 ∷ 100 ∷ 99 ∷ 48 ∷ 48 ∷ 34 ∷ []
string_end low_u = 117 ∷ 100 ∷ 99 ∷ 48 ∷ 48 ∷ 34 ∷ []
string_end low_first = 100 ∷ 99 ∷ 48 ∷ 48 ∷ 34 ∷ []
string_end low_second = 99 ∷ 48 ∷ 48 ∷ 34 ∷ []

end_chars : (r : List ℕ) → RestOfString chars (34 ∷ r) r
end_chars r = ([], refl)

end1 : (r : List ℕ) → RestOfString digits1 (48 ∷ 34 ∷ r) r
end1 r = (34 ∷ r, (48, refl, refl), end_chars r)

end2 : (r : List ℕ) → RestOfString digits2 (48 ∷ 48 ∷ 34 ∷ r) r
end2 r = (48 ∷ 34 ∷ r, (48, refl, refl), end1 r)

end3 : (r : List ℕ) → RestOfString digits3 (48 ∷ 48 ∷ 48 ∷ 34 ∷ r) r
end3 r = (48 ∷ 48 ∷ 34 ∷ r, (48, refl, refl), end2 r)

end_second : (r : List ℕ) → RestOfString low_second (99 ∷ 48 ∷ 48 ∷ 34 ∷ r) r
end_second r = (48 ∷ 48 ∷ 34 ∷ r, (99, refl, refl), end2 r)

end_low : (r : List ℕ) → RestOfString low_backslash (92 ∷ 117 ∷ 100 ∷ 99 ∷ 48 ∷ 48 ∷ 34 ∷ r) r
end_low r = (117 ∷ 100 ∷ 99 ∷ 48 ∷ 48 ∷ 34 ∷ r, refl, (100 ∷ 99 ∷ 48 ∷ 48 ∷ 34 ∷ r, refl, (99 ∷ 48 ∷ 48 ∷ 34 ∷ r, (100, refl, refl), end_second r)))

pub string_ends : (q : InString) (r : List ℕ) → RestOfString q (string_end q ++ r) r
string_ends chars r = end_chars r
string_ends escape r = inl (34 ∷ r, (110, refl, refl), end_chars r)
string_ends digits4 r = inr (48 ∷ 48 ∷ 48 ∷ 34 ∷ r, (48, refl, refl), end3 r)
string_ends after_d r = inr (48 ∷ 48 ∷ 34 ∷ r, (48, refl, refl), end2 r)
string_ends digits3 r = end3 r
string_ends digits2 r = end2 r
string_ends digits1 r = end1 r
string_ends high2 r = (48 ∷ 92 ∷ 117 ∷ 100 ∷ 99 ∷ 48 ∷ 48 ∷ 34 ∷ r, (48, refl, refl), (92 ∷ 117 ∷ 100 ∷ 99 ∷ 48 ∷ 48 ∷ 34 ∷ r, (48, refl, refl), end_low r))
string_ends high1 r = (92 ∷ 117 ∷ 100 ∷ 99 ∷ 48 ∷ 48 ∷ 34 ∷ r, (48, refl, refl), end_low r)
string_ends low_backslash r = end_low r
string_ends low_u r = (100 ∷ 99 ∷ 48 ∷ 48 ∷ 34 ∷ r, refl, (99 ∷ 48 ∷ 48 ∷ 34 ∷ r, (100, refl, refl), end_second r))
string_ends low_first r = (99 ∷ 48 ∷ 48 ∷ 34 ∷ r, (100, refl, refl), end_second r)
string_ends low_second r = end_second r

none_one : (p : ℕ → Bool) (S : Rule) (r : List ℕ) → (One p then S) [] r → ⊥
none_one p S r (m, (x, is, e), s) = cc

none_byte : (a : ℕ) (S : Rule) (r : List ℕ) → (Byte a then S) [] r → ⊥
none_byte a S r (m, e, s) = cc

none_chars : (cs : List Char) (r : List ℕ) → Chars cs [] r → ⊥
none_chars [] r e = cc
none_chars (byte x ∷ cs) r (is, (m, e, s)) = cc
none_chars (short x ∷ cs) r (is, (m, e, s)) = cc
none_chars (unit a c d f ∷ cs) r (is, (m, e, s)) = cc
none_chars (pair a c d f g h i j ∷ cs) r (is, (m, e, s)) = cc

pub string_open : (q : InString) (r : List ℕ) → RestOfString q [] r → ⊥
string_open chars r (cs, h) = none_chars cs r h
string_open escape r (inl h) = none_one is_short AnyChars r h
string_open escape r (inr h) = none_byte 117 Digits4 r h
string_open digits4 r (inl h) = none_one is_d AfterD r h
string_open digits4 r (inr h) = none_one is_other_hex Digits3 r h
string_open after_d r (inl h) = none_one is_8_to_b High2 r h
string_open after_d r (inr h) = none_one is_0_to_7 Digits2 r h
string_open digits3 r h = none_one is_hex Digits2 r h
string_open digits2 r h = none_one is_hex Digits1 r h
string_open digits1 r h = none_one is_hex AnyChars r h
string_open high2 r h = none_one is_hex High1 r h
string_open high1 r h = none_one is_hex LowBackslash r h
string_open low_backslash r h = none_byte 92 LowU r h
string_open low_u r h = none_byte 117 LowFirst r h
string_open low_first r h = none_one is_d LowSecond r h
string_open low_second r h = none_one is_c_to_f Digits2 r h
