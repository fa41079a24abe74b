-- A JSON text that is a string, from quote to quote.
use Rattle.std.proofs.Common.{◌≡◌, ℕ, Bool, true, false, ◌≤◌, refl, sym, ap, subst, ◌∙◌, List, [], ◌∷◌, length, arith, inl, inr}
use Rattle.std.specs.Prelude.{◌&&◌, ◌==◌}
use Rattle.std.proofs.lemmas.Bool.Decides.{nat_tests}
use Rattle.ch_base.specs.Grammar.{Many}
use Rattle.ch_base.specs.JsonTree.{Span, Tree, plain, array, object, null, no, yes, number, string}
use Rattle.ch_base.specs.JsonText.{is_blank, String, Spells, IsJsonString}
use Rattle.ch_json.specs.Document.{Document}
use Rattle.ch_json.specs.NodeOf.{HasTree, HasNode, IsNode, form_of}
use Rattle.std.specs.Prelude.{Result, Err, is_ok}
use Rattle.ch_json.specs.declared.error.JsonError.{JsonError}
use Rattle.ch_json.specs.declared.error.JsonError.TheVariants as fault
use Rattle.ch_json.specs.declared.node.Node.{Node}
use Rattle.ch_json.specs.declared.node.Form.{Form}
use Rattle.ch_json.specs.declared.node.Form.TheVariants as form
use Rattle.ch_base.specs.declared.limits.TheConstants.{MAX_DEPTH}
use Rattle.ch_base.specs.JsonParts.{spelled_at}
use Rattle.ch_json.proofs.Fronts.{one_tree}
use Rattle.ch_transcript.specs.Obeying.{IsJudged}
use Rattle.ch_player.specs.JsonString.{is_whole_string}

many_shorter : (p : ℕ → Bool) (t r : List ℕ) → Many p t r → length r ≤ length t
many_shorter p [] r h = omega (arith, ap length h)
many_shorter p (x ∷ t) r h = elim h [
  | inl same ↦ omega (arith, ap length same)
  | inr more ↦ omega (arith, many_shorter p t r more.1)
]

-- nothing was taken off where nothing is missing
many_none : (p : ℕ → Bool) (t r : List ℕ) → Many p t r → length t ≡ length r → t ≡ r
many_none p [] r h e = sym h
many_none p (x ∷ t) r h e = elim h [
  | inl same ↦ sym same
  | inr more ↦ absurd (omega (arith, many_shorter p t r more.1, e))
]

no_bytes : (xs : List ℕ) → length xs ≡ 0 → xs ≡ []
no_bytes [] e = refl
no_bytes (x ∷ xs) e = absurd (omega (arith, e))

many_same : (p : ℕ → Bool) (t : List ℕ) → Many p t t
many_same p [] = refl
many_same p (x ∷ t) = inl refl

-- a string whose span is the whole text
pub whole_string : (text : List ℕ) (s : Span) → Spells text (plain string s) → s.from ≡ 0 → s.to ≡ length text → IsJsonString text
whole_string text s h from to =
    let m = h.0 in
    let k = h.1 in
    let front : text ≡ m = many_none is_blank text m h.2 (omega (arith, h.3.0.0, from)) in
    let behind : k ≡ [] = no_bytes k (omega (arith, h.3.0.1, to)) in
    let P : List ℕ → Type 0 = λ x. String text x in
    let Q : List ℕ → Type 0 = λ x. String x k in
    subst P behind (subst Q (sym front) h.3.1)

abbrev pub whole : List ℕ → Span
whole text = record { from = 0; to = length text }

-- and the other way round
pub string_whole : (text : List ℕ) → IsJsonString text → Spells text (plain string (whole text))
string_whole text h = (text, [], many_same is_blank text, ((omega arith, omega arith), h), many_same is_blank [])

-- ---- the document of a text

pub has_node : {d : Document} {node : Node} → ((text : List ℕ) × (v : Tree) × Spells text v × HasTree d v)
    → ((text : List ℕ) (v : Tree) → Spells text v → HasTree d v → IsNode text d node v) → HasNode d node
has_node h is = (h.0, h.1, is h.0 h.1 h.2 h.3)

-- what the form of a string says
pub shown_string : (v : Tree) (n from to : ℕ) → form.Str ≡ form_of v → record { from = from; to = to } ≡ spelled_at v → ((from == 0) && (to == n)) ≡ is_whole_string n v
shown_string (plain null s) n from to e at = absurd (cc)
shown_string (plain no s) n from to e at = absurd (cc)
shown_string (plain yes s) n from to e at = absurd (cc)
shown_string (plain number s) n from to e at = absurd (cc)
shown_string (plain string s) n from to e at = ap (λ (z : Span). (z.from == 0) && (z.to == n)) at
shown_string (array vs s) n from to e at = absurd (cc)
shown_string (object ms s) n from to e at = absurd (cc)

-- and what another form says
pub shown_other : (v : Tree) (n : ℕ) (f : Form) → f ≡ form_of v → (f ≡ form.Str → ⊥) → false ≡ is_whole_string n v
shown_other (plain null s) n f e other = refl
shown_other (plain no s) n f e other = refl
shown_other (plain yes s) n f e other = refl
shown_other (plain number s) n f e other = refl
shown_other (plain string s) n f e other = absurd (other e)
shown_other (array vs s) n f e other = refl
shown_other (object ms s) n f e other = refl

and_true : (a b w : Bool) → a ≡ true → (a && b) ≡ w → b ≡ w
and_true true b w h e = e
and_true false b w h e = absurd (cc)

and_false : (a b w : Bool) → a ≡ false → (a && b) ≡ w → a ≡ w
and_false true b w h e = absurd (cc)
and_false false b w h e = e

-- ---- judging

and_both : (a b : Bool) → (a && b) ≡ true → (a ≡ true) × (b ≡ true)
and_both true true h = (refl, refl)
and_both true false h = absurd (cc)
and_both false b h = absurd (cc)

is_string : (text : List ℕ) (v : Tree) → Spells text v → is_whole_string (length text) v ≡ true → IsJsonString text
is_string text (plain null s) h e = absurd (cc)
is_string text (plain no s) h e = absurd (cc)
is_string text (plain yes s) h e = absurd (cc)
is_string text (plain number s) h e = absurd (cc)
is_string text (plain string s) h e =
    let both = and_both (s.from == 0) (s.to == length text) e in
    let from : (s.from == 0) ≡ true = both.0 in
    let to : (s.to == length text) ≡ true = both.1 in
    whole_string text s h (grind (arith, nat_tests)) (grind (arith, nat_tests))
is_string text (array vs s) h e = absurd (cc)
is_string text (object ms s) h e = absurd (cc)

equal_test : (n : ℕ) → (n == n) ≡ true
equal_test n = grind (arith, nat_tests)

-- a text that spells a value is judged by it
pub judged : (text : List ℕ) (v : Tree) → Spells text v → IsJudged text (is_whole_string (length text) v)
judged text v h =
    (elim (is_whole_string (length text) v) as (λ (b : Bool). is_whole_string (length text) v ≡ b → IsJudged text b) [
      | true ↦ λ e. is_string text v h e
      | false ↦ λ e quoted. let same : v ≡ plain string (whole text) = one_tree MAX_DEPTH text v (plain string (whole text)) h (string_whole text quoted) in
          let is : is_whole_string (length text) v ≡ true = ap (is_whole_string (length text)) same ∙ equal_test (length text) in cc
    ]) refl

pub and_then : (from : ℕ) (b w : Bool) → from ≡ 0 → ((from == 0) && b) ≡ w → b ≡ w
and_then from b w h e = let t : (from == 0) ≡ true = grind (arith, nat_tests) in and_true (from == 0) b w t e

pub and_else : (from : ℕ) (b w : Bool) → (from ≡ 0 → ⊥) → ((from == 0) && b) ≡ w → (from == 0) ≡ w
and_else from b w h e = let t : (from == 0) ≡ false = grind (arith, nat_tests) in and_false (from == 0) b w t e

-- ---- faults

abbrev pub is_memory : JsonError → Bool
is_memory fault.Memory = true
is_memory _ = false

abbrev pub refused : JsonError → Result Document JsonError
refused e = Err e

-- a text that is no JSON text is no string
pub no_string : (text : List ℕ) (e : JsonError) → is_memory e ≡ false
    → ((v : Tree) → Spells text v → (refused e ≡ refused fault.Memory → ⊥) → is_ok (refused e) ≡ true) → IsJsonString text → ⊥
no_string text fault.Memory other spelled quoted = absurd (cc)
no_string text (fault.Syntax at) other spelled quoted = absurd (let h : false ≡ true = spelled (plain string (whole text)) (string_whole text quoted) (λ e. absurd (let k : fault.Syntax at ≡ fault.Memory = cc in let b : false ≡ true = ap is_memory k in cc)) in cc)
no_string text (fault.Deep at) other spelled quoted = absurd (let h : false ≡ true = spelled (plain string (whole text)) (string_whole text quoted) (λ e. absurd (let k : fault.Deep at ≡ fault.Memory = cc in let b : false ≡ true = ap is_memory k in cc)) in cc)
