-- Numbers and arrays that are printed are values.
use Rattle.std.proofs.Common.{◌≡◌, ◌⊎◌, inl, inr, ℕ, zero, suc, ◌+◌, ◌/◌, ◌%◌, ◌<◌, ◌≤◌, ◌^◌, List, [], ◌∷◌, ◌++◌, append_assoc, length, Bool, true, refl, sym, ap, ◌∙◌, subst, arith}
use Rattle.std.specs.List.{list_all}
use Rattle.std.specs.Fmt.{decimal}
use Rattle.std.proofs.lemmas.Bool.{and_parts, and_from}
use Rattle.std.proofs.lemmas.Bool.Decides.{nat_tests}
use Rattle.std.proofs.lemmas.Fmt.{decimal_by_steps}
use Rattle.ch_base.specs.Grammar.{Many}
use Rattle.ch_base.specs.JsonTree.{Tree, plain, number, array, object, no_items, item, no_members}
use Rattle.ch_base.specs.JsonText.{is_digit, is_digit_1_to_9, Number, Blanks, SpellsWithin}
use Rattle.ch_frames.proofs.ObjectTexts.{no_blanks, place, shorter, inside, IsValueText, value_text, bare}

-- ---- numbers

many_all : (p : ℕ → Bool) (ds x : List ℕ) → list_all p ds ≡ true → Many p (ds ++ x) x
many_all p [] x h = none x
  where
    none : (x : List ℕ) → Many p x x
    none [] = refl
    none (a ∷ x) = inl refl
many_all p (d ∷ ds) x h = let both = and_parts (p d) (list_all p ds) h in inr (both.0, many_all p ds x both.1)

all_push : (p : ℕ → Bool) (ds : List ℕ) (d : ℕ) → list_all p ds ≡ true → p d ≡ true → list_all p (ds ++ d ∷ []) ≡ true
all_push p [] d h k = and_from (p d) true k refl
all_push p (x ∷ ds) d h k = let both = and_parts (p x) (list_all p ds) h in and_from (p x) (list_all p (ds ++ d ∷ [])) both.0 (all_push p ds d both.1 k)

-- the digits of a whole number, without a leading zero
abbrev IsWholeText : ℕ → List ℕ → Type 0
IsWholeText n ds = ((n ≡ 0) × (ds ≡ 48 ∷ [])) ⊎ ((d : ℕ) × (more : List ℕ) × (ds ≡ d ∷ more) × (is_digit_1_to_9 d ≡ true) × (list_all is_digit more ≡ true))

one_digit : (n : ℕ) → n < 10 → IsWholeText n ((48 + n) ∷ [])
one_digit zero h = inl (refl, refl)
one_digit (suc n) h = inr (48 + suc n, [], refl, grind (arith, nat_tests), refl)

one_more : (n : ℕ) (ds : List ℕ) → 10 ≤ n → IsWholeText (n / 10) ds → IsWholeText n (ds ++ ((48 + n % 10) ∷ []))
one_more n ds le (inl (none, e)) = absurd (omega arith)
one_more n ds le (inr (d, more, e, first, all)) =
    let last : is_digit (48 + n % 10) ≡ true = let small : n % 10 < 10 = omega arith in grind (arith, nat_tests) in
    inr (d, more ++ ((48 + n % 10) ∷ []), ap (λ (l : List ℕ). l ++ ((48 + n % 10) ∷ [])) e, first, all_push is_digit more (48 + n % 10) all last)

whole_text : (n : ℕ) → n < 2 ^ 64 → IsWholeText n (decimal n)
whole_text n h = decimal_by_steps IsWholeText one_digit one_more n h

number_before : (n : ℕ) (ds x : List ℕ) → IsWholeText n ds → Number (ds ++ x) x
number_before n ds x (inl (none, e)) = subst (λ (l : List ℕ). Number (l ++ x) x) (sym e) (48 ∷ x, inl refl, (x, inl refl, (x, inl refl, inl refl)))
number_before n ds x (inr (d, more, e, first, all)) =
    subst (λ (l : List ℕ). Number (l ++ x) x) (sym e) (d ∷ (more ++ x), inl refl, (x, inr (more ++ x, (d, first, refl), many_all is_digit more x all), (x, inl refl, inl refl)))

pub decimal_text : (room n : ℕ) → n < 2 ^ 64 → IsValueText room (decimal n)
decimal_text room n h = bare room (decimal n) (λ x k le. let short = shorter (decimal n) x k le in (plain number (place k (decimal n ++ x) x), ((omega arith, omega arith), number_before n (decimal n) x (whole_text n h))))

-- ---- arrays and empty objects

pub single_spelled : (room : ℕ) (body : List ℕ) → IsValueText room body → (v : Tree) × SpellsWithin (suc room) (91 ∷ (body ++ 93 ∷ [])) v
single_spelled room body h =
    let k : List ℕ = h.behind ++ 93 ∷ [] in
    let m : List ℕ = h.middle ++ k in
    let text : List ℕ = 91 ∷ (body ++ 93 ∷ []) in
    let split : body ++ 93 ∷ [] ≡ h.before ++ m = ap (λ (l : List ℕ). l ++ 93 ∷ []) h.whole ∙ append_assoc h.before (h.middle ++ h.behind) (93 ∷ []) ∙ ap (λ (l : List ℕ). h.before ++ l) (append_assoc h.middle h.behind (93 ∷ [])) in
    let at : text ≡ (91 ∷ h.before) ++ m = ap (λ (l : List ℕ). 91 ∷ l) split in
    let val = h.value k (length text) (inside text (91 ∷ h.before) m at) in
    let front = subst (λ (l : List ℕ). Blanks l m) (sym split) (h.first m) in (
      array (item val.0 no_items) (place (length text) text []),
      (text, [], no_blanks text, ((omega arith, omega arith), (body ++ 93 ∷ [], refl, (m, k, front, val.1, (93 ∷ [], h.last (93 ∷ []), refl)))), refl),
    )

pub empty_object : IsValueText 63 (123 ∷ 125 ∷ [])
empty_object =
    value_text 63 (123 ∷ 125 ∷ []) (object no_members (record { from = 0; to = 2 }))
    (123 ∷ 125 ∷ [], [], inl refl, ((refl, refl), (125 ∷ [], refl, (125 ∷ [], inl refl, refl))), refl)
