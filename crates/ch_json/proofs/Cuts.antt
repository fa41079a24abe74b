-- What a rule leaves is the end of the text that it took a part off, and that part ends with an ASCII byte.
use Rattle.std.proofs.Common.{◌≡◌, ◌⊎◌, inl, inr, ℕ, zero, suc, ◌<◌, List, [], ◌∷◌, ◌++◌, append_assoc, Bool, true, refl, sym, ap, ◌∙◌, subst, arith, lit<}
use Rattle.ch_base.specs.Grammar.{Rule, Byte, One, ◌then◌, ◌or◌, Maybe, Many}
use Rattle.ch_base.specs.JsonTree.{Plain, null, no, yes, number, string, Tree, plain, array, object, Items, no_items, item, Members, no_members, member}
use Rattle.ch_base.specs.JsonText.{is_blank, Blanks, is_digit, is_digit_1_to_9, is_e, is_sign, Digits, Whole, Fraction, Exponent, Number, Char, spelling, Chars, String, PlainValue, Value, Items_, MoreItems, Members_, MoreMembers}

-- r is the end of t
abbrev pub Cut : List ℕ → List ℕ → Type 0
Cut t r = (u : List ℕ) × (t ≡ u ++ r)

abbrev pub Cuts : Rule → Type 0
Cuts R = (t r : List ℕ) → R t r → Cut t r

pub cut_same : (t : List ℕ) → Cut t t
cut_same t = ([], refl)

pub cut_on : (t m r : List ℕ) → Cut t m → Cut m r → Cut t r
cut_on t m r (u, e) (w, f) = (u ++ w, e ∙ ap (λ l. u ++ l) f ∙ sym (append_assoc u w r))

many_cut : (p : ℕ → Bool) → Cuts (Many p)
many_cut p [] r e = ([], sym e)
many_cut p (x ∷ t) r (inl e) = ([], sym e)
many_cut p (x ∷ t) r (inr (is, h)) = let k = many_cut p t r h in (x ∷ k.0, ap (λ l. x ∷ l) k.1)

byte_cut : (b : ℕ) → Cuts (Byte b)
byte_cut b t r e = (b ∷ [], e)

one_cut : (p : ℕ → Bool) → Cuts (One p)
one_cut p t r (x, is, e) = (x ∷ [], e)

then_cut : (R S : Rule) → Cuts R → Cuts S → Cuts (R then S)
then_cut R S f g t r (m, h, k) = cut_on t m r (f t m h) (g m r k)

maybe_cut : (R : Rule) → Cuts R → Cuts (Maybe R)
maybe_cut R f t r (inl e) = ([], e)
maybe_cut R f t r (inr h) = f t r h

or_cut : (R S : Rule) → Cuts R → Cuts S → Cuts (R or S)
or_cut R S f g t r (inl h) = f t r h
or_cut R S f g t r (inr h) = g t r h

digits_cut : Cuts Digits
digits_cut = then_cut (One is_digit) (Many is_digit) (one_cut is_digit) (many_cut is_digit)

whole_cut : Cuts Whole
whole_cut = or_cut (Byte 48) (One is_digit_1_to_9 then Many is_digit) (byte_cut 48) (then_cut (One is_digit_1_to_9) (Many is_digit) (one_cut is_digit_1_to_9) (many_cut is_digit))

fraction_cut : Cuts Fraction
fraction_cut = then_cut (Byte 46) Digits (byte_cut 46) digits_cut

exponent_cut : Cuts Exponent
exponent_cut = then_cut (One is_e) (Maybe (One is_sign) then Digits) (one_cut is_e) (then_cut (Maybe (One is_sign)) Digits (maybe_cut (One is_sign) (one_cut is_sign)) digits_cut)

after_whole_cut : Cuts (Maybe Fraction then Maybe Exponent)
after_whole_cut = then_cut (Maybe Fraction) (Maybe Exponent) (maybe_cut Fraction fraction_cut) (maybe_cut Exponent exponent_cut)

number_cut : Cuts Number
number_cut = then_cut (Maybe (Byte 45)) (Whole then Maybe Fraction then Maybe Exponent) (maybe_cut (Byte 45) (byte_cut 45)) (then_cut Whole (Maybe Fraction then Maybe Exponent) whole_cut after_whole_cut)

chars_cut : (cs : List Char) → Cuts (Chars cs)
chars_cut [] t r e = (34 ∷ [], e)
chars_cut (c ∷ cs) t r (is, (m, e, h)) = cut_on t m r (spelling c, e) (chars_cut cs m r h)

pub string_cut : Cuts String
string_cut t r (cs, (m, e, h)) = cut_on t m r (34 ∷ [], e) (chars_cut cs m r h)

pub blanks_cut : Cuts Blanks
blanks_cut = many_cut is_blank

-- a byte with blanks before it
pub mark_cut : (b : ℕ) → Cuts (Blanks then Byte b)
mark_cut b = then_cut Blanks (Byte b) blanks_cut (byte_cut b)

-- a byte with blanks round it
pub sign_cut : (b : ℕ) → Cuts (Blanks then Byte b then Blanks)
sign_cut b = then_cut Blanks (Byte b then Blanks) blanks_cut (then_cut (Byte b) Blanks (byte_cut b) blanks_cut)

pub plain_cut : (p : Plain) → Cuts (PlainValue p)
plain_cut null t r e = (110 ∷ 117 ∷ 108 ∷ 108 ∷ [], e)
plain_cut no t r e = (102 ∷ 97 ∷ 108 ∷ 115 ∷ 101 ∷ [], e)
plain_cut yes t r e = (116 ∷ 114 ∷ 117 ∷ 101 ∷ [], e)
plain_cut number t r h = number_cut t r h
plain_cut string t r h = string_cut t r h

mutual
  pub value_cut : (n room : ℕ) (v : Tree) (t r : List ℕ) → Value n room v t r → Cut t r
  value_cut n room (plain p s) t r (st, h) = plain_cut p t r h
  value_cut n zero (array vs s) t r h = absurd h
  value_cut n (suc room) (array vs s) t r (st, (m, e, h)) = cut_on t m r (91 ∷ [], e) (items_cut n room vs m r h)
  value_cut n zero (object ms s) t r h = absurd h
  value_cut n (suc room) (object ms s) t r (st, (m, e, h)) = cut_on t m r (123 ∷ [], e) (members_cut n room ms m r h)

  pub items_cut : (n room : ℕ) (vs : Items) (t r : List ℕ) → Items_ n room vs t r → Cut t r
  items_cut n room no_items t r h = mark_cut 93 t r h
  items_cut n room (item v vs) t r (m, k, blanks, val, more) = cut_on t m r (blanks_cut t m blanks) (cut_on m k r (value_cut n room v m k val) (more_items_cut n room vs k r more))

  pub more_items_cut : (n room : ℕ) (vs : Items) (t r : List ℕ) → MoreItems n room vs t r → Cut t r
  more_items_cut n room no_items t r h = mark_cut 93 t r h
  more_items_cut n room (item v vs) t r (m, k, comma, val, more) = cut_on t m r (sign_cut 44 t m comma) (cut_on m k r (value_cut n room v m k val) (more_items_cut n room vs k r more))

  pub members_cut : (n room : ℕ) (ms : Members) (t r : List ℕ) → Members_ n room ms t r → Cut t r
  members_cut n room no_members t r h = mark_cut 125 t r h
  members_cut n room (member name v ms) t r (m, k, j, i, blanks, str, colon, val, more) =
      cut_on t m r (blanks_cut t m blanks)
      (cut_on m k r (string_cut m k str.1) (cut_on k j r (sign_cut 58 k j colon) (cut_on j i r (value_cut n room v j i val) (more_members_cut n room ms i r more))))

  pub more_members_cut : (n room : ℕ) (ms : Members) (t r : List ℕ) → MoreMembers n room ms t r → Cut t r
  more_members_cut n room no_members t r h = mark_cut 125 t r h
  more_members_cut n room (member name v ms) t r (m, k, j, i, comma, str, colon, val, more) =
      cut_on t m r (sign_cut 44 t m comma)
      (cut_on m k r (string_cut m k str.1) (cut_on k j r (sign_cut 58 k j colon) (cut_on j i r (value_cut n room v j i val) (more_members_cut n room ms i r more))))

-- ---- the last byte

-- the part of t before r ends with an ASCII byte
pub record EndsAscii (t r : List ℕ) : Type 0 where
  pub before : List ℕ
  pub last : ℕ
  pub small : last < 128
  pub split : t ≡ before ++ last ∷ r

ends_on : (t m r : List ℕ) → Cut t m → EndsAscii m r → EndsAscii t r
ends_on t m r (u, e) h = record { before = u ++ h.before; last = h.last; small = h.small; split = e ∙ ap (λ l. u ++ l) h.split ∙ sym (append_assoc u h.before (h.last ∷ r)) }

-- nothing more, or a part that ends so
ends_or_same : (t m r : List ℕ) → EndsAscii t m → (m ≡ r) ⊎ EndsAscii m r → EndsAscii t r
ends_or_same t m r h (inl e) = subst (EndsAscii t) e h
ends_or_same t m r h (inr k) = ends_on t m r (h.before ++ h.last ∷ [], h.split ∙ sym (append_assoc h.before (h.last ∷ []) m)) k

one_ends : (p : ℕ → Bool) → ((x : ℕ) → p x ≡ true → x < 128) → (t r : List ℕ) → One p t r → EndsAscii t r
one_ends p small t r (x, is, e) = record { before = []; last = x; small = small x is; split = e }

many_ends : (p : ℕ → Bool) → ((x : ℕ) → p x ≡ true → x < 128) → (t r : List ℕ) → Many p t r → (t ≡ r) ⊎ EndsAscii t r
many_ends p small [] r e = inl (sym e)
many_ends p small (x ∷ t) r (inl e) = inl (sym e)
many_ends p small (x ∷ t) r (inr (is, h)) = inr (ends_or_same (x ∷ t) t r (record { before = []; last = x; small = small x is; split = refl }) (many_ends p small t r h))

digit_small : (x : ℕ) → is_digit x ≡ true → x < 128
digit_small x h = grind arith

digit1_small : (x : ℕ) → is_digit_1_to_9 x ≡ true → x < 128
digit1_small x h = grind arith

digits_ends : (t r : List ℕ) → Digits t r → EndsAscii t r
digits_ends t r (m, h, k) = ends_or_same t m r (one_ends is_digit digit_small t m h) (many_ends is_digit digit_small m r k)

whole_ends : (t r : List ℕ) → Whole t r → EndsAscii t r
whole_ends t r (inl e) = record { before = []; last = 48; small = lit< tt; split = e }
whole_ends t r (inr (m, h, k)) = ends_or_same t m r (one_ends is_digit_1_to_9 digit1_small t m h) (many_ends is_digit digit_small m r k)

fraction_ends : (t r : List ℕ) → Maybe Fraction t r → (t ≡ r) ⊎ EndsAscii t r
fraction_ends t r (inl e) = inl e
fraction_ends t r (inr (m, e, h)) = inr (ends_on t m r (46 ∷ [], e) (digits_ends m r h))

exponent_ends : (t r : List ℕ) → Maybe Exponent t r → (t ≡ r) ⊎ EndsAscii t r
exponent_ends t r (inl e) = inl e
exponent_ends t r (inr (m, h, (k, s, d))) =
    inr (ends_on t m r (one_cut is_e t m h) (ends_on m k r (maybe_cut (One is_sign) (one_cut is_sign) m k s) (digits_ends k r d)))

number_ends : (t r : List ℕ) → Number t r → EndsAscii t r
number_ends t r (m, minus, (k, whole, (j, fraction, exponent))) =
    ends_on t m r (maybe_cut (Byte 45) (byte_cut 45) t m minus) (ends_or_same m j r (ends_or_same m k j (whole_ends m k whole) (fraction_ends k j fraction)) (exponent_ends j r exponent))

chars_ends : (cs : List Char) (t r : List ℕ) → Chars cs t r → EndsAscii t r
chars_ends [] t r e = record { before = []; last = 34; small = lit< tt; split = e }
chars_ends (c ∷ cs) t r (is, (m, e, h)) = ends_on t m r (spelling c, e) (chars_ends cs m r h)

string_ends : (t r : List ℕ) → String t r → EndsAscii t r
string_ends t r (cs, (m, e, h)) = ends_on t m r (34 ∷ [], e) (chars_ends cs m r h)

mark_ends : (b : ℕ) → b < 128 → (t r : List ℕ) → (Blanks then Byte b) t r → EndsAscii t r
mark_ends b small t r (m, h, e) = ends_on t m r (blanks_cut t m h) (record { before = []; last = b; small = small; split = e })

mutual
  more_items_ends : (n room : ℕ) (vs : Items) (t r : List ℕ) → MoreItems n room vs t r → EndsAscii t r
  more_items_ends n room no_items t r h = mark_ends 93 (lit< tt) t r h
  more_items_ends n room (item v vs) t r (m, k, comma, val, more) = ends_on t m r (sign_cut 44 t m comma) (ends_on m k r (value_cut n room v m k val) (more_items_ends n room vs k r more))

  more_members_ends : (n room : ℕ) (ms : Members) (t r : List ℕ) → MoreMembers n room ms t r → EndsAscii t r
  more_members_ends n room no_members t r h = mark_ends 125 (lit< tt) t r h
  more_members_ends n room (member name v ms) t r (m, k, j, i, comma, str, colon, val, more) =
      ends_on t m r (sign_cut 44 t m comma)
      (ends_on m k r (string_cut m k str.1) (ends_on k j r (sign_cut 58 k j colon) (ends_on j i r (value_cut n room v j i val) (more_members_ends n room ms i r more))))

items_ends : (n room : ℕ) (vs : Items) (t r : List ℕ) → Items_ n room vs t r → EndsAscii t r
items_ends n room no_items t r h = mark_ends 93 (lit< tt) t r h
items_ends n room (item v vs) t r (m, k, blanks, val, more) = ends_on t m r (blanks_cut t m blanks) (ends_on m k r (value_cut n room v m k val) (more_items_ends n room vs k r more))

members_ends : (n room : ℕ) (ms : Members) (t r : List ℕ) → Members_ n room ms t r → EndsAscii t r
members_ends n room no_members t r h = mark_ends 125 (lit< tt) t r h
members_ends n room (member name v ms) t r (m, k, j, i, blanks, str, colon, val, more) =
    ends_on t m r (blanks_cut t m blanks)
    (ends_on m k r (string_cut m k str.1) (ends_on k j r (sign_cut 58 k j colon) (ends_on j i r (value_cut n room v j i val) (more_members_ends n room ms i r more))))

pub value_ends : (n room : ℕ) (v : Tree) (t r : List ℕ) → Value n room v t r → EndsAscii t r
value_ends n room (plain null s) t r (st, e) = record { before = 110 ∷ 117 ∷ 108 ∷ []; last = 108; small = lit< tt; split = e }
value_ends n room (plain no s) t r (st, e) = record { before = 102 ∷ 97 ∷ 108 ∷ 115 ∷ []; last = 101; small = lit< tt; split = e }
value_ends n room (plain yes s) t r (st, e) = record { before = 116 ∷ 114 ∷ 117 ∷ []; last = 101; small = lit< tt; split = e }
value_ends n room (plain number s) t r (st, h) = number_ends t r h
value_ends n room (plain string s) t r (st, h) = string_ends t r h
value_ends n zero (array vs s) t r h = absurd h
value_ends n (suc room) (array vs s) t r (st, (m, e, h)) = ends_on t m r (91 ∷ [], e) (items_ends n room vs m r h)
value_ends n zero (object ms s) t r h = absurd h
value_ends n (suc room) (object ms s) t r (st, (m, e, h)) = ends_on t m r (123 ∷ [], e) (members_ends n room ms m r h)

-- ---- the first byte

-- t begins with an ASCII byte
pub record BeginsAscii (t : List ℕ) : Type 0 where
  pub first : ℕ
  pub rest : List ℕ
  pub small : first < 128
  pub split : t ≡ first ∷ rest

whole_begins : (t r : List ℕ) → Whole t r → BeginsAscii t
whole_begins t r (inl e) = record { first = 48; rest = r; small = lit< tt; split = e }
whole_begins t r (inr (m, (x, is, e), h)) = record { first = x; rest = m; small = digit1_small x is; split = e }

number_begins : (t r : List ℕ) → Number t r → BeginsAscii t
number_begins t r (m, inl e, (k, whole, rest)) = subst BeginsAscii (sym e) (whole_begins m k whole)
number_begins t r (m, inr e, h) = record { first = 45; rest = m; small = lit< tt; split = e }

pub value_begins : (n room : ℕ) (v : Tree) (t r : List ℕ) → Value n room v t r → BeginsAscii t
value_begins n room (plain null s) t r (st, e) = record { first = 110; rest = 117 ∷ 108 ∷ 108 ∷ r; small = lit< tt; split = e }
value_begins n room (plain no s) t r (st, e) = record { first = 102; rest = 97 ∷ 108 ∷ 115 ∷ 101 ∷ r; small = lit< tt; split = e }
value_begins n room (plain yes s) t r (st, e) = record { first = 116; rest = 114 ∷ 117 ∷ 101 ∷ r; small = lit< tt; split = e }
value_begins n room (plain number s) t r (st, h) = number_begins t r h
value_begins n room (plain string s) t r (st, (cs, (m, e, h))) = record { first = 34; rest = m; small = lit< tt; split = e }
value_begins n zero (array vs s) t r h = absurd h
value_begins n (suc room) (array vs s) t r (st, (m, e, h)) = record { first = 91; rest = m; small = lit< tt; split = e }
value_begins n zero (object ms s) t r h = absurd h
value_begins n (suc room) (object ms s) t r (st, (m, e, h)) = record { first = 123; rest = m; small = lit< tt; split = e }
