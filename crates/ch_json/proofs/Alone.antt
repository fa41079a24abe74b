-- The part of a text that a rule takes off is such a part in front of any other text.
use Rattle.std.proofs.Common.{◌≡◌, inl, inr, ℕ, zero, suc, ◌+◌, ◌-◌, ◌≤◌, List, [], ◌∷◌, ◌++◌, append_assoc, append-nil, length, length-append, take, drop, Bool, refl, sym, ap, ap₂, ◌∙◌, subst, arith}
use Rattle.ch_base.specs.Grammar.{Rule, Byte, One, ◌then◌, ◌or◌, Maybe, Many}
use Rattle.ch_base.specs.JsonTree.{Span, Plain, null, no, yes, number, string, Tree, plain, array, object, Items, no_items, item, Members, no_members, member}
use Rattle.ch_base.specs.JsonText.{is_blank, Blanks, is_digit, is_digit_1_to_9, is_e, is_sign, Digits, Whole, Fraction, Exponent, Number, Char, spelling, Chars, String, PlainValue, Value, Items_, MoreItems, Members_, MoreMembers, SpellsWithin}
use Rattle.ch_base.specs.JsonParts.{spelled_at, part, IsSpelledIn}
use Rattle.ch_json.specs.Levels.{levels, item_levels, member_levels}
use Rattle.ch_json.proofs.Lists.{drop_front, take_front}
use Rattle.ch_json.proofs.PartsOf.{stands}

-- the part u of t is taken off, and it would be in front of any x
abbrev pub Takes : Rule → List ℕ → List ℕ → Type 0
Takes R t r = (u : List ℕ) × (t ≡ u ++ r) × ((x : List ℕ) → R (u ++ x) x)

abbrev Loose : Rule → Type 0
Loose R = (t r : List ℕ) → R t r → Takes R t r

none : (p : ℕ → Bool) (x : List ℕ) → Many p x x
none p [] = refl
none p (a ∷ x) = inl refl

many_loose : (p : ℕ → Bool) → Loose (Many p)
many_loose p [] r e = ([], sym e, λ x. none p x)
many_loose p (a ∷ t) r (inl e) = ([], sym e, λ x. none p x)
many_loose p (a ∷ t) r (inr (is, h)) = let k = many_loose p t r h in (a ∷ k.0, ap (λ (l : List ℕ). a ∷ l) k.1, λ x. inr (is, k.2 x))

byte_loose : (b : ℕ) → Loose (Byte b)
byte_loose b t r e = (b ∷ [], e, λ x. refl)

one_loose : (p : ℕ → Bool) → Loose (One p)
one_loose p t r (a, is, e) = (a ∷ [], e, λ x. (a, is, refl))

-- two parts in a row
join : (u w r : List ℕ) (t m : List ℕ) → t ≡ u ++ m → m ≡ w ++ r → t ≡ (u ++ w) ++ r
join u w r t m e f = e ∙ ap (λ l. u ++ l) f ∙ sym (append_assoc u w r)

then_loose : (R S : Rule) → Loose R → Loose S → Loose (R then S)
then_loose R S f g t r (m, h, k) =
    let a = f t m h in
    let b = g m r k in
    (a.0 ++ b.0, join a.0 b.0 r t m a.1 b.1, λ x. (b.0 ++ x, subst (λ l. R l (b.0 ++ x)) (sym (append_assoc a.0 b.0 x)) (a.2 (b.0 ++ x)), b.2 x))

or_loose : (R S : Rule) → Loose R → Loose S → Loose (R or S)
or_loose R S f g t r (inl h) = let a = f t r h in (a.0, a.1, λ x. inl (a.2 x))
or_loose R S f g t r (inr h) = let a = g t r h in (a.0, a.1, λ x. inr (a.2 x))

maybe_loose : (R : Rule) → Loose R → Loose (Maybe R)
maybe_loose R f t r (inl e) = ([], e, λ x. inl refl)
maybe_loose R f t r (inr h) = let a = f t r h in (a.0, a.1, λ x. inr (a.2 x))

digits_loose : Loose Digits
digits_loose = then_loose (One is_digit) (Many is_digit) (one_loose is_digit) (many_loose is_digit)

whole_loose : Loose Whole
whole_loose = or_loose (Byte 48) (One is_digit_1_to_9 then Many is_digit) (byte_loose 48) (then_loose (One is_digit_1_to_9) (Many is_digit) (one_loose is_digit_1_to_9) (many_loose is_digit))

fraction_loose : Loose Fraction
fraction_loose = then_loose (Byte 46) Digits (byte_loose 46) digits_loose

exponent_loose : Loose Exponent
exponent_loose = then_loose (One is_e) (Maybe (One is_sign) then Digits) (one_loose is_e) (then_loose (Maybe (One is_sign)) Digits (maybe_loose (One is_sign) (one_loose is_sign)) digits_loose)

after_whole_loose : Loose (Maybe Fraction then Maybe Exponent)
after_whole_loose = then_loose (Maybe Fraction) (Maybe Exponent) (maybe_loose Fraction fraction_loose) (maybe_loose Exponent exponent_loose)

number_loose : Loose Number
number_loose = then_loose (Maybe (Byte 45)) (Whole then Maybe Fraction then Maybe Exponent) (maybe_loose (Byte 45) (byte_loose 45)) (then_loose Whole (Maybe Fraction then Maybe Exponent) whole_loose after_whole_loose)

chars_loose : (cs : List Char) → Loose (Chars cs)
chars_loose [] t r e = (34 ∷ [], e, λ x. refl)
chars_loose (c ∷ cs) t r (is, (m, e, h)) =
    let k = chars_loose cs m r h in
    (spelling c ++ k.0, join (spelling c) k.0 r t m e k.1, λ x. (is, (k.0 ++ x, append_assoc (spelling c) k.0 x, k.2 x)))

string_loose : Loose String
string_loose t r (cs, (m, e, h)) = let k = chars_loose cs m r h in (34 ∷ k.0, e ∙ ap (λ (l : List ℕ). 34 ∷ l) k.1, λ x. (cs, (k.0 ++ x, refl, k.2 x)))

blanks_loose : Loose Blanks
blanks_loose = many_loose is_blank

mark_loose : (b : ℕ) → Loose (Blanks then Byte b)
mark_loose b = then_loose Blanks (Byte b) blanks_loose (byte_loose b)

sign_loose : (b : ℕ) → Loose (Blanks then Byte b then Blanks)
sign_loose b = then_loose Blanks (Byte b then Blanks) blanks_loose (then_loose (Byte b) Blanks (byte_loose b) blanks_loose)

plain_loose : (p : Plain) → Loose (PlainValue p)
plain_loose null t r e = (110 ∷ 117 ∷ 108 ∷ 108 ∷ [], e, λ x. refl)
plain_loose no t r e = (102 ∷ 97 ∷ 108 ∷ 115 ∷ 101 ∷ [], e, λ x. refl)
plain_loose yes t r e = (116 ∷ 114 ∷ 117 ∷ 101 ∷ [], e, λ x. refl)
plain_loose number t r h = number_loose t r h
plain_loose string t r h = string_loose t r h

-- ---- values: the spans are others, and brackets may be open as many as the value has levels

-- the part u is a value of at most `room` levels in front of any x, in a text of any length
abbrev pub IsValueBefore : ℕ → List ℕ → Type 0
IsValueBefore room u = (x : List ℕ) (n : ℕ) → length (u ++ x) ≤ n → (w : Tree) × Value n room w (u ++ x) x

abbrev IsItemsBefore : (ℕ → Items → Rule) → List ℕ → Type 0
IsItemsBefore F u = (x : List ℕ) (n : ℕ) → length (u ++ x) ≤ n → (ws : Items) × F n ws (u ++ x) x

abbrev IsMembersBefore : (ℕ → Members → Rule) → List ℕ → Type 0
IsMembersBefore F u = (x : List ℕ) (n : ℕ) → length (u ++ x) ≤ n → (ws : Members) × F n ws (u ++ x) x

-- where the part from t to r of a text of n bytes stands
abbrev place : ℕ → List ℕ → List ℕ → Span
place n t r = record { from = n - length t; to = n - length r }

shorter : (u x : List ℕ) (n : ℕ) → length (u ++ x) ≤ n → length x ≤ n
shorter u x n le = omega (arith, length-append u x)

three : (a b c x : List ℕ) → (a ++ (b ++ c)) ++ x ≡ a ++ (b ++ (c ++ x))
three a b c x = append_assoc a (b ++ c) x ∙ ap (λ l. a ++ l) (append_assoc b c x)

five : (a b c d e x : List ℕ) → (a ++ (b ++ (c ++ (d ++ e)))) ++ x ≡ a ++ (b ++ (c ++ (d ++ (e ++ x))))
five a b c d e x = append_assoc a (b ++ (c ++ (d ++ e))) x ∙ ap (λ l. a ++ l) (append_assoc b (c ++ (d ++ e)) x ∙ ap (λ l. b ++ l) (three c d e x))

-- a value between two parts, which the rules R and F take
items_join : (room : ℕ) (R : Rule) (F G : ℕ → Items → Rule) (a b c : List ℕ) → ((x : List ℕ) → R (a ++ x) x) → IsValueBefore room b → IsItemsBefore F c
    → ((n : ℕ) (w : Tree) (ws : Items) (t m k r : List ℕ) → R t m → Value n room w m k → F n ws k r → G n (item w ws) t r) → IsItemsBefore G (a ++ (b ++ c))
items_join room R F G a b c fa fb fc make x n le =
    let e = three a b c x in
    let whole : length (a ++ (b ++ (c ++ x))) ≤ n = omega (arith, ap length e) in
    let after : length (b ++ (c ++ x)) ≤ n = shorter a (b ++ (c ++ x)) n whole in
    let v = fb (c ++ x) n after in
    let ws = fc x n (shorter b (c ++ x) n after) in
    (item v.0 ws.0, subst (λ l. G n (item v.0 ws.0) l x) (sym e) (make n v.0 ws.0 (a ++ (b ++ (c ++ x))) (b ++ (c ++ x)) (c ++ x) x (fa (b ++ (c ++ x))) v.1 ws.1))

members_join : (room : ℕ) (R : Rule) (F G : ℕ → Members → Rule) (a s c b d : List ℕ) → ((x : List ℕ) → R (a ++ x) x) → ((x : List ℕ) → String (s ++ x) x) → ((x : List ℕ) → (Blanks then Byte 58 then Blanks) (c ++ x) x) → IsValueBefore room b → IsMembersBefore F d
    → ((n : ℕ) (name : Span) (w : Tree) (ws : Members) (t m k j i r : List ℕ) → R t m → (name.from + length m ≡ n) × (name.to + length k ≡ n) → String m k → (Blanks then Byte 58 then Blanks) k j → Value n room w j i → F n ws i r → G n (member name w ws) t r)
    → IsMembersBefore G (a ++ (s ++ (c ++ (b ++ d))))
members_join room R F G a s c b d fa fs fc fb fd make x n le =
    let e = five a s c b d x in
    let l4 : List ℕ = d ++ x in
    let l3 : List ℕ = b ++ l4 in
    let l2 : List ℕ = c ++ l3 in
    let l1 : List ℕ = s ++ l2 in
    let whole : length (a ++ l1) ≤ n = omega (arith, ap length e) in
    let after1 : length l1 ≤ n = shorter a l1 n whole in
    let after2 : length l2 ≤ n = shorter s l2 n after1 in
    let after3 : length l3 ≤ n = shorter c l3 n after2 in
    let v = fb l4 n after3 in
    let ws = fd x n (shorter b l4 n after3) in
    let name = place n l1 l2 in
    (member name v.0 ws.0, subst (λ l. G n (member name v.0 ws.0) l x) (sym e) (make n name v.0 ws.0 (a ++ l1) l1 l2 l3 l4 x (fa l1) (omega arith, omega arith) (fs l2) (fc l3) v.1 ws.1))

mutual
  pub value_alone : (n room : ℕ) (v : Tree) (t r : List ℕ) → Value n room v t r → (u : List ℕ) × (t ≡ u ++ r) × IsValueBefore room u
  value_alone n room (plain p s) t r (st, h) =
      let k = plain_loose p t r h in
      (k.0, k.1, λ x n le. let short = shorter k.0 x n le in (plain p (place n (k.0 ++ x) x), ((omega arith, omega arith), k.2 x)))
  value_alone n zero (array vs s) t r h = absurd h
  value_alone n (suc room) (array vs s) t r (st, (m, e, h)) =
      let k = items_alone n room vs m r h in
      (91 ∷ k.0, e ∙ ap (λ (l : List ℕ). 91 ∷ l) k.1, λ x n le. let short : length x ≤ n = omega (arith, length-append k.0 x) in let ws = k.2 x n (omega arith) in (array ws.0 (place n (91 ∷ (k.0 ++ x)) x), ((omega arith, omega arith), (k.0 ++ x, refl, ws.1))))
  value_alone n zero (object ms s) t r h = absurd h
  value_alone n (suc room) (object ms s) t r (st, (m, e, h)) =
      let k = members_alone n room ms m r h in
      (123 ∷ k.0, e ∙ ap (λ (l : List ℕ). 123 ∷ l) k.1, λ x n le. let short : length x ≤ n = omega (arith, length-append k.0 x) in let ws = k.2 x n (omega arith) in (object ws.0 (place n (123 ∷ (k.0 ++ x)) x), ((omega arith, omega arith), (k.0 ++ x, refl, ws.1))))

  items_alone : (n room : ℕ) (vs : Items) (t r : List ℕ) → Items_ n room vs t r → (u : List ℕ) × (t ≡ u ++ r) × IsItemsBefore (λ n. Items_ n room) u
  items_alone n room no_items t r h = let k = mark_loose 93 t r h in (k.0, k.1, λ x n le. (no_items, k.2 x))
  items_alone n room (item v vs) t r (m, k, blanks, val, more) =
      let a = blanks_loose t m blanks in
      let b = value_alone n room v m k val in
      let c = more_items_alone n room vs k r more in
      (a.0 ++ (b.0 ++ c.0), a.1 ∙ ap (λ l. a.0 ++ l) (b.1 ∙ ap (λ l. b.0 ++ l) c.1) ∙ sym (three a.0 b.0 c.0 r), items_join room Blanks (λ n. MoreItems n room) (λ n. Items_ n room) a.0 b.0 c.0 a.2 b.2 c.2 (λ n w ws t m k r x y z. (m, k, x, y, z)))

  more_items_alone : (n room : ℕ) (vs : Items) (t r : List ℕ) → MoreItems n room vs t r → (u : List ℕ) × (t ≡ u ++ r) × IsItemsBefore (λ n. MoreItems n room) u
  more_items_alone n room no_items t r h = let k = mark_loose 93 t r h in (k.0, k.1, λ x n le. (no_items, k.2 x))
  more_items_alone n room (item v vs) t r (m, k, comma, val, more) =
      let a = sign_loose 44 t m comma in
      let b = value_alone n room v m k val in
      let c = more_items_alone n room vs k r more in
      (a.0 ++ (b.0 ++ c.0), a.1 ∙ ap (λ l. a.0 ++ l) (b.1 ∙ ap (λ l. b.0 ++ l) c.1) ∙ sym (three a.0 b.0 c.0 r), items_join room (Blanks then Byte 44 then Blanks) (λ n. MoreItems n room) (λ n. MoreItems n room) a.0 b.0 c.0 a.2 b.2 c.2 (λ n w ws t m k r x y z. (m, k, x, y, z)))

  members_alone : (n room : ℕ) (ms : Members) (t r : List ℕ) → Members_ n room ms t r → (u : List ℕ) × (t ≡ u ++ r) × IsMembersBefore (λ n. Members_ n room) u
  members_alone n room no_members t r h = let k = mark_loose 125 t r h in (k.0, k.1, λ x n le. (no_members, k.2 x))
  members_alone n room (member name v ms) t r (m, k, j, i, blanks, str, colon, val, more) =
      let a = blanks_loose t m blanks in
      let s = string_loose m k str.1 in
      let c = sign_loose 58 k j colon in
      let b = value_alone n room v j i val in
      let d = more_members_alone n room ms i r more in (
        a.0 ++ (s.0 ++ (c.0 ++ (b.0 ++ d.0))),
        a.1 ∙ ap (λ l. a.0 ++ l) (s.1 ∙ ap (λ l. s.0 ++ l) (c.1 ∙ ap (λ l. c.0 ++ l) (b.1 ∙ ap (λ l. b.0 ++ l) d.1))) ∙ sym (five a.0 s.0 c.0 b.0 d.0 r),
        members_join room Blanks (λ n. MoreMembers n room) (λ n. Members_ n room) a.0 s.0 c.0 b.0 d.0 a.2 s.2 c.2 b.2 d.2 (λ n name w ws t m k j i r x st y z q p. (m, k, j, i, x, (st, y), z, q, p)),
      )

  more_members_alone : (n room : ℕ) (ms : Members) (t r : List ℕ) → MoreMembers n room ms t r → (u : List ℕ) × (t ≡ u ++ r) × IsMembersBefore (λ n. MoreMembers n room) u
  more_members_alone n room no_members t r h = let k = mark_loose 125 t r h in (k.0, k.1, λ x n le. (no_members, k.2 x))
  more_members_alone n room (member name v ms) t r (m, k, j, i, comma, str, colon, val, more) =
      let a = sign_loose 44 t m comma in
      let s = string_loose m k str.1 in
      let c = sign_loose 58 k j colon in
      let b = value_alone n room v j i val in
      let d = more_members_alone n room ms i r more in (
        a.0 ++ (s.0 ++ (c.0 ++ (b.0 ++ d.0))),
        a.1 ∙ ap (λ l. a.0 ++ l) (s.1 ∙ ap (λ l. s.0 ++ l) (c.1 ∙ ap (λ l. c.0 ++ l) (b.1 ∙ ap (λ l. b.0 ++ l) d.1))) ∙ sym (five a.0 s.0 c.0 b.0 d.0 r),
        members_join room (Blanks then Byte 44 then Blanks) (λ n. MoreMembers n room) (λ n. MoreMembers n room) a.0 s.0 c.0 b.0 d.0 a.2 s.2 c.2 b.2 d.2 (λ n name w ws t m k j i r x st y z q p. (m, k, j, i, x, (st, y), z, q, p)),
      )

-- ---- with room for the value's own levels

mutual
  pub room_fit : (n room : ℕ) (v : Tree) (t r : List ℕ) (b : ℕ) → Value n room v t r → levels v ≤ b → Value n b v t r
  room_fit n room (plain p s) t r b h le = h
  room_fit n zero (array vs s) t r b h le = absurd h
  room_fit n (suc room) (array vs s) t r zero (st, (m, e, h)) le = absurd (omega arith)
  room_fit n (suc room) (array vs s) t r (suc b) (st, (m, e, h)) le = (st, (m, e, items_fit n room vs m r b h (omega arith)))
  room_fit n zero (object ms s) t r b h le = absurd h
  room_fit n (suc room) (object ms s) t r zero (st, (m, e, h)) le = absurd (omega arith)
  room_fit n (suc room) (object ms s) t r (suc b) (st, (m, e, h)) le = (st, (m, e, members_fit n room ms m r b h (omega arith)))

  items_fit : (n room : ℕ) (vs : Items) (t r : List ℕ) (b : ℕ) → Items_ n room vs t r → item_levels vs ≤ b → Items_ n b vs t r
  items_fit n room no_items t r b h le = h
  items_fit n room (item v vs) t r b (m, k, x, val, more) le = (m, k, x, room_fit n room v m k b val (omega arith), more_items_fit n room vs k r b more (omega arith))

  more_items_fit : (n room : ℕ) (vs : Items) (t r : List ℕ) (b : ℕ) → MoreItems n room vs t r → item_levels vs ≤ b → MoreItems n b vs t r
  more_items_fit n room no_items t r b h le = h
  more_items_fit n room (item v vs) t r b (m, k, x, val, more) le = (m, k, x, room_fit n room v m k b val (omega arith), more_items_fit n room vs k r b more (omega arith))

  members_fit : (n room : ℕ) (ms : Members) (t r : List ℕ) (b : ℕ) → Members_ n room ms t r → member_levels ms ≤ b → Members_ n b ms t r
  members_fit n room no_members t r b h le = h
  members_fit n room (member name v ms) t r b (m, k, j, i, x, str, colon, val, more) le = (m, k, j, i, x, str, colon, room_fit n room v j i b val (omega arith), more_members_fit n room ms i r b more (omega arith))

  more_members_fit : (n room : ℕ) (ms : Members) (t r : List ℕ) (b : ℕ) → MoreMembers n room ms t r → member_levels ms ≤ b → MoreMembers n b ms t r
  more_members_fit n room no_members t r b h le = h
  more_members_fit n room (member name v ms) t r b (m, k, j, i, x, str, colon, val, more) le = (m, k, j, i, x, str, colon, room_fit n room v j i b val (omega arith), more_members_fit n room ms i r b more (omega arith))

mutual
  pub levels_fit : (n room : ℕ) (v : Tree) (t r : List ℕ) → Value n room v t r → levels v ≤ room
  levels_fit n room (plain p s) t r h = omega arith
  levels_fit n zero (array vs s) t r h = absurd h
  levels_fit n (suc room) (array vs s) t r (st, (m, e, h)) = let k = items_levels n room vs m r h in omega arith
  levels_fit n zero (object ms s) t r h = absurd h
  levels_fit n (suc room) (object ms s) t r (st, (m, e, h)) = let k = members_levels n room ms m r h in omega arith

  items_levels : (n room : ℕ) (vs : Items) (t r : List ℕ) → Items_ n room vs t r → item_levels vs ≤ room
  items_levels n room no_items t r h = omega arith
  items_levels n room (item v vs) t r (m, k, x, val, more) = let a = levels_fit n room v m k val in let b = more_items_levels n room vs k r more in omega arith

  more_items_levels : (n room : ℕ) (vs : Items) (t r : List ℕ) → MoreItems n room vs t r → item_levels vs ≤ room
  more_items_levels n room no_items t r h = omega arith
  more_items_levels n room (item v vs) t r (m, k, x, val, more) = let a = levels_fit n room v m k val in let b = more_items_levels n room vs k r more in omega arith

  members_levels : (n room : ℕ) (ms : Members) (t r : List ℕ) → Members_ n room ms t r → member_levels ms ≤ room
  members_levels n room no_members t r h = omega arith
  members_levels n room (member name v ms) t r (m, k, j, i, x, str, colon, val, more) = let a = levels_fit n room v j i val in let b = more_members_levels n room ms i r more in omega arith

  more_members_levels : (n room : ℕ) (ms : Members) (t r : List ℕ) → MoreMembers n room ms t r → member_levels ms ≤ room
  more_members_levels n room no_members t r h = omega arith
  more_members_levels n room (member name v ms) t r (m, k, j, i, x, str, colon, val, more) = let a = levels_fit n room v j i val in let b = more_members_levels n room ms i r more in omega arith

-- the span of a value has these bytes
part_is : (text : List ℕ) (v : Tree) (room : ℕ) (before m k u : List ℕ) → text ≡ before ++ m → Value (length text) room v m k → m ≡ u ++ k → part text (spelled_at v) ≡ u
part_is text v room before m k u e h split =
    let s = spelled_at v in
    let st = stands (length text) room v m k h in
    let len : length text ≡ length before + length m = ap length e ∙ length-append before m in
    let len_m : length m ≡ length u + length k = ap length split ∙ length-append u k in
    let from : s.from ≡ length before = omega (arith, st.0) in
    let size : s.to - s.from ≡ length u = omega (arith, st.0, st.1) in
    let rest : drop s.from text ≡ u ++ k = ap₂ (λ (i : ℕ) (l : List ℕ). drop i l) from e ∙ drop_front before m ∙ split in
    ap₂ (λ (i : ℕ) (l : List ℕ). take i l) size rest ∙ take_front u k

-- a value of a text is a text of its own
pub spelled_alone : (text : List ℕ) (v : Tree) → IsSpelledIn text v → (w : Tree) × SpellsWithin (levels v) (part text (spelled_at v)) w
spelled_alone text v (room, before, m, k, e, h) =
    let a = value_alone (length text) (levels v) v m k (room_fit (length text) room v m k (levels v) h (omega arith)) in
    let same : a.0 ++ [] ≡ a.0 = append-nil a.0 in
    let w = a.2 [] (length a.0) (omega (arith, ap length same)) in
    let val : Value (length a.0) (levels v) w.0 a.0 [] = subst (λ l. Value (length a.0) (levels v) w.0 l []) same w.1 in
    (w.0, subst (λ l. SpellsWithin (levels v) l w.0) (sym (part_is text v room before m k a.0 e h a.1)) (a.0, [], none is_blank a.0, val, refl))

pub spelled_levels : (limit : ℕ) (text : List ℕ) (v : Tree) → SpellsWithin limit text v → levels v ≤ limit
spelled_levels limit text v (m, k, before, val, behind) = levels_fit (length text) limit v m k val
