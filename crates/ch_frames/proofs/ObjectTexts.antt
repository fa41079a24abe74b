-- Objects that are printed member by member are JSON texts with these members.
use Rattle.std.proofs.Common.{◌≡◌, inl, inr, ℕ, suc, ◌+◌, ◌-◌, ◌≤◌, List, [], ◌∷◌, ◌++◌, append_assoc, append-nil, length, length-append, take, drop, refl, sym, ap, ap₂, ◌∙◌, subst, arith}
use Rattle.ch_base.specs.Grammar.{Byte, ◌then◌}
use Rattle.ch_base.specs.JsonTree.{Span, Tree, plain, string, object, Members, no_members, member}
use Rattle.ch_base.specs.JsonText.{Blanks, Value, MoreMembers, SpellsWithin, Unescapes}
use Rattle.ch_base.specs.Escape.{quoted}
use Rattle.ch_base.specs.JsonParts.{part}
use Rattle.ch_base.specs.JsonNames.{Named}
use Rattle.ch_base.specs.ObjectMembers.{IsObjectText, HasString}
use Rattle.ch_json.proofs.Alone.{IsValueBefore, value_alone}
use Rattle.ch_json.proofs.Lists.{drop_front, take_front}
use Rattle.ch_json.proofs.OneText.{one_text}
use Rattle.ch_frames.proofs.QuotedStrings.{string_before, quoted_unescapes}

-- ---- blanks and values, in front of anything

abbrev pub AreBlanks : List ℕ → Type 0
AreBlanks b = (x : List ℕ) → Blanks (b ++ x) x

pub no_blanks : (x : List ℕ) → Blanks x x
no_blanks [] = refl
no_blanks (a ∷ x) = inl refl

blanks_alone : (t r : List ℕ) → Blanks t r → (b : List ℕ) × (t ≡ b ++ r) × AreBlanks b
blanks_alone [] r e = ([], sym e, no_blanks)
blanks_alone (a ∷ t) r (inl e) = ([], sym e, no_blanks)
blanks_alone (a ∷ t) r (inr (is, h)) = let k = blanks_alone t r h in (a ∷ k.0, ap (λ (l : List ℕ). a ∷ l) k.1, λ x. inr (is, k.2 x))

-- a value with blanks round it
pub record IsValueText (room : ℕ) (text : List ℕ) : Type 0 where
  pub before : List ℕ
  pub middle : List ℕ
  pub behind : List ℕ
  pub whole : text ≡ before ++ (middle ++ behind)
  pub first : AreBlanks before
  pub value : IsValueBefore room middle
  pub last : AreBlanks behind

pub value_text : (room : ℕ) (text : List ℕ) (v : Tree) → SpellsWithin room text v → IsValueText room text
value_text room text v (m, k, front, val, back) =
    let a = blanks_alone text m front in
    let u = value_alone (length text) room v m k val in
    let c = blanks_alone k [] back in
    record {
      before = a.0;
      middle = u.0;
      behind = k;
      whole = a.1 ∙ ap (λ (l : List ℕ). a.0 ++ l) u.1;
      first = a.2;
      value = u.2;
      last = subst AreBlanks (sym (c.1 ∙ append-nil c.0)) c.2;
    }

abbrev pub place : ℕ → List ℕ → List ℕ → Span
place n t r = record { from = n - length t; to = n - length r }

pub shorter : (u x : List ℕ) (n : ℕ) → length (u ++ x) ≤ n → length x ≤ n
shorter u x n h = omega (arith, length-append u x)

pub bare : (room : ℕ) (text : List ℕ) → IsValueBefore room text → IsValueText room text
bare room text h = record { before = []; middle = text; behind = []; whole = sym (append-nil text); first = no_blanks; value = h; last = no_blanks }

pub quoted_text : (room : ℕ) (xs : List ℕ) → IsValueText room (quoted xs)
quoted_text room xs = bare room (quoted xs) (λ x n le. let short = shorter (quoted xs) x n le in (plain string (place n (quoted xs ++ x) x), ((omega arith, omega arith), string_before xs x)))

-- ---- members

-- a name with the text of its value
abbrev pub Field : Type 0
Field = List ℕ × List ℕ

-- what follows a member
unfoldable pub rest : List Field → List ℕ
rest [] = 125 ∷ []
rest (f ∷ fs) = 44 ∷ (quoted f.0 ++ (58 ∷ (f.1 ++ rest fs)))

abbrev pub AreFields : ℕ → List Field → Type 0
AreFields room [] = Unit {0}
AreFields room (f ∷ fs) = IsValueText room f.1 × AreFields room fs

-- the members have these names
abbrev AreKeys : List ℕ → Members → List Field → Type 0
AreKeys text no_members [] = Unit {0}
AreKeys text (member key v ms) (f ∷ fs) = (part text key ≡ quoted f.0) × AreKeys text ms fs
AreKeys text _ _ = ⊥

-- the part q of a text
part_here : (text before m q k : List ℕ) → text ≡ before ++ m → m ≡ q ++ k → part text (place (length text) m k) ≡ q
part_here text before m q k e split =
    let len : length text ≡ length before + length m = ap length e ∙ length-append before m in
    let len_m : length m ≡ length q + length k = ap length split ∙ length-append q k in
    let from : length text - length m ≡ length before = omega arith in
    let size : (length text - length k) - (length text - length m) ≡ length q = omega arith in
    let behind : drop (length text - length m) text ≡ q ++ k = ap₂ (λ (i : ℕ) (l : List ℕ). drop i l) from e ∙ drop_front before m ∙ split in
    ap₂ (λ (i : ℕ) (l : List ℕ). take i l) size behind ∙ take_front q k

pub inside : (text before m : List ℕ) → text ≡ before ++ m → length m ≤ length text
inside text before m e = let len : length text ≡ length before + length m = ap length e ∙ length-append before m in omega arith

-- more members, behind these blanks
record More (text : List ℕ) (room : ℕ) (blanks : List ℕ) (fs : List Field) : Type 0 where
  members : Members
  follow : MoreMembers (length text) room members (blanks ++ rest fs) []
  keys : AreKeys text members fs

-- a member from its name on, and those behind it
record Here (text : List ℕ) (room : ℕ) (f : Field) (fs : List Field) : Type 0 where
  v : Tree
  members : Members
  j : List ℕ
  i : List ℕ
  colon : (Blanks then Byte 58 then Blanks) (58 ∷ (f.1 ++ rest fs)) j
  value : Value (length text) room v j i
  follow : MoreMembers (length text) room members i []
  keys : AreKeys text members fs

here : (text before : List ℕ) (room : ℕ) (f : Field) (fs : List Field) → text ≡ before ++ (58 ∷ (f.1 ++ rest fs)) → IsValueText room f.1
    → ((front blanks : List ℕ) → text ≡ front ++ (blanks ++ rest fs) → AreBlanks blanks → More text room blanks fs) → Here text room f fs
here text before room f fs e h more =
    let split : f.1 ++ rest fs ≡ h.before ++ (h.middle ++ (h.behind ++ rest fs)) =
    ap (λ (l : List ℕ). l ++ rest fs) h.whole ∙ append_assoc h.before (h.middle ++ h.behind) (rest fs) ∙ ap (λ (l : List ℕ). h.before ++ l) (append_assoc h.middle h.behind (rest fs)) in
    let at : text ≡ ((before ++ (58 ∷ h.before)) ++ h.middle) ++ (h.behind ++ rest fs) =
    e ∙ ap (λ (l : List ℕ). before ++ (58 ∷ l)) split ∙ sym (append_assoc before (58 ∷ h.before) _) ∙ sym (append_assoc (before ++ (58 ∷ h.before)) h.middle _) in
    let val_at : text ≡ (before ++ (58 ∷ h.before)) ++ (h.middle ++ (h.behind ++ rest fs)) = at ∙ append_assoc (before ++ (58 ∷ h.before)) h.middle _ in
    let val = h.value (h.behind ++ rest fs) (length text) (inside text _ _ val_at) in
    let others = more ((before ++ (58 ∷ h.before)) ++ h.middle) h.behind at h.last in
    record {
      v = val.0;
      members = others.members;
      j = h.middle ++ (h.behind ++ rest fs);
      i = h.behind ++ rest fs;
      colon = (58 ∷ (f.1 ++ rest fs), no_blanks (58 ∷ (f.1 ++ rest fs)), (f.1 ++ rest fs, refl, subst (λ (l : List ℕ). Blanks l (h.middle ++ (h.behind ++ rest fs))) (sym split) (h.first (h.middle ++ (h.behind ++ rest fs)))));
      value = val.1;
      follow = others.follow;
      keys = others.keys;
    }

more : (text : List ℕ) (room : ℕ) (fs : List Field) (before blanks : List ℕ) → text ≡ before ++ (blanks ++ rest fs) → AreBlanks blanks → AreFields room fs → More text room blanks fs
unfolding rest
more text room [] before blanks e b h = record { members = no_members; follow = (125 ∷ [], b (125 ∷ []), refl); keys = tt }
more text room (f ∷ fs) before blanks e b h =
    let k : List ℕ = 58 ∷ (f.1 ++ rest fs) in
    let m : List ℕ = quoted f.0 ++ k in
    let at : text ≡ ((before ++ blanks) ++ (44 ∷ [])) ++ m = e ∙ sym (append_assoc before blanks (44 ∷ m)) ∙ sym (append_assoc (before ++ blanks) (44 ∷ []) m) in
    let at_k : text ≡ (((before ++ blanks) ++ (44 ∷ [])) ++ quoted f.0) ++ k = at ∙ sym (append_assoc ((before ++ blanks) ++ (44 ∷ [])) (quoted f.0) k) in
    let it = here text (((before ++ blanks) ++ (44 ∷ [])) ++ quoted f.0) room f fs at_k h.0 (λ front c e2 b2. more text room fs front c e2 b2 h.1) in
    let short_m : length m ≤ length text = inside text _ m at in
    let short_k : length k ≤ length text = inside text _ k at_k in
    record {
      members = member (place (length text) m k) it.v it.members;
      follow = (m, k, it.j, it.i, (44 ∷ m, b (44 ∷ m), (m, refl, no_blanks m)), ((omega arith, omega arith), string_before f.0 k), it.colon, it.value, it.follow);
      keys = (part_here text ((before ++ blanks) ++ (44 ∷ [])) m (quoted f.0) k at refl, it.keys);
    }

-- ---- objects

unfoldable pub object_text : Field → List Field → List ℕ
object_text f fs = 123 ∷ (quoted f.0 ++ (58 ∷ (f.1 ++ rest fs)))

pub object_spelled : (room : ℕ) (f : Field) (fs : List Field) → IsValueText room f.1 → AreFields room fs → (v : Tree) × SpellsWithin (suc room) (object_text f fs) v
unfolding object_text
object_spelled room f fs h hs =
    let text : List ℕ = 123 ∷ (quoted f.0 ++ (58 ∷ (f.1 ++ rest fs))) in
    let k : List ℕ = 58 ∷ (f.1 ++ rest fs) in
    let m : List ℕ = quoted f.0 ++ k in
    let it = here text (123 ∷ quoted f.0) room f fs refl h (λ front c e b. more text room fs front c e b hs) in
    let short_m : length m ≤ length text = inside text (123 ∷ []) m refl in
    let short_k : length k ≤ length text = inside text (123 ∷ quoted f.0) k refl in
    let key : Span = place (length text) m k in (
      object (member key it.v it.members) (place (length text) text []),
      (text, [], no_blanks text, ((omega arith, omega arith), (m, refl, (m, k, it.j, it.i, no_blanks m, ((omega arith, omega arith), string_before f.0 k), it.colon, it.value, it.follow))), refl),
    )

-- none of these has the name
abbrev pub AreOthers : List ℕ → List Field → Type 0
AreOthers name [] = Unit {0}
AreOthers name (f ∷ fs) = (f.0 ≡ name → ⊥) × AreOthers name fs

none_named : (text name : List ℕ) (ms : Members) (fs : List Field) → AreKeys text ms fs → AreOthers name fs → Named text name ms []
none_named text name no_members [] h k = refl
none_named text name no_members (f ∷ fs) h k = absurd h
none_named text name (member key v ms) [] h k = absurd h
none_named text name (member key v ms) (f ∷ fs) h k = inr (
  λ u. k.0 (one_text (quoted f.0) f.0 name (quoted_unescapes f.0) (subst (λ (y : List ℕ). Unescapes y name) h.0 u)),
  none_named text name ms fs h.1 k.1,
)

-- an object whose first member is a string, and alone of its name
pub first_string : (name x : List ℕ) (fs : List Field) → AreFields 63 fs → AreOthers name fs → (ms : Members) × IsObjectText (object_text (name, quoted x) fs) ms × HasString (object_text (name, quoted x) fs) ms name x
unfolding object_text
first_string name x fs hs others =
    let i : List ℕ = rest fs in
    let j : List ℕ = quoted x ++ i in
    let k : List ℕ = 58 ∷ j in
    let m : List ℕ = quoted name ++ k in
    let text : List ℕ = 123 ∷ m in
    let before_j : List ℕ = (123 ∷ quoted name) ++ (58 ∷ []) in
    let at_j : text ≡ before_j ++ j = sym (append_assoc (123 ∷ quoted name) (58 ∷ []) j) in
    let at_i : text ≡ (before_j ++ quoted x) ++ i = at_j ∙ sym (append_assoc before_j (quoted x) i) in
    let behind = more text 63 fs (before_j ++ quoted x) [] at_i no_blanks hs in
    let short_m : length m ≤ length text = inside text (123 ∷ []) m refl in
    let short_k : length k ≤ length text = inside text (123 ∷ quoted name) k refl in
    let short_j : length j ≤ length text = inside text before_j j at_j in
    let short_i : length i ≤ length text = inside text (before_j ++ quoted x) i at_i in
    let key : Span = place (length text) m k in
    let at : Span = place (length text) j i in
    let key_part : part text key ≡ quoted name = part_here text (123 ∷ []) m (quoted name) k refl refl in
    let string_part : part text at ≡ quoted x = part_here text before_j j (quoted x) i at_j refl in
    let ms : Members = member key (plain string at) behind.members in
    let here : MoreMembers (length text) 63 behind.members i [] = behind.follow in (
      ms,
      (
        place (length text) text [],
        (text, [], no_blanks text, ((omega arith, omega arith), (m, refl, (m, k, j, i, no_blanks m, ((omega arith, omega arith), string_before name k), (k, no_blanks k, (j, refl, no_blanks j)), ((omega arith, omega arith), string_before x i), here))), refl),
      ),
      (
        plain string at,
        inl (subst (λ (y : List ℕ). Unescapes y name) (sym key_part) (quoted_unescapes name), ([], refl, none_named text name behind.members fs behind.keys others)),
        subst (λ (y : List ℕ). Unescapes y x) (sym string_part) (quoted_unescapes x),
      ),
    )
