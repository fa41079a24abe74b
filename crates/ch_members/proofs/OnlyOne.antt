-- A member of a name is one thing alone.
use Rattle.std.proofs.Common.{◌≡◌, inl, inr, ℕ, List, [], ◌∷◌, Bool, true, false, refl, sym, ap, ap₂, ◌∙◌, subst, Some}
use Rattle.std.specs.Prelude.{Option, None, if◌then◌else◌}
use Rattle.std.specs.List.{list_all}
use Rattle.ch_base.specs.JsonTree.{Tree, plain, null, no, yes, number, string, array, object, Items, Members}
use Rattle.ch_base.specs.JsonParts.{part, spelled_at}
use Rattle.ch_base.specs.ObjectMembers.{IsStringOf, HasString, IsLeftOut, HasOptional, HasSpelled}
use Rattle.ch_json.proofs.OneText.{one_text}
use Rattle.ch_members.specs.Readings.{Gives, HasObject, HasArray}
use Rattle.ch_members.specs.ArrayStrings.{AreStrings}
use Rattle.ch_members.proofs.MembersOfName.{one_value, none_or_one}

pub string_once : (text : List ℕ) (v : Tree) (a b : List ℕ) → IsStringOf text v a → IsStringOf text v b → a ≡ b
string_once text (plain null s) a b h k = absurd h
string_once text (plain no s) a b h k = absurd h
string_once text (plain yes s) a b h k = absurd h
string_once text (plain number s) a b h k = absurd h
string_once text (plain string s) a b h k = one_text (part text s) a b h k
string_once text (array vs s) a b h k = absurd h
string_once text (object ms s) a b h k = absurd h

pub member_once : (text name : List ℕ) (ms : Members) (a b : List ℕ) → HasString text ms name a → HasString text ms name b → a ≡ b
member_once text name ms a b (v, h, i) (w, k, j) = string_once text w a b (subst (λ (y : Tree). IsStringOf text y a) (one_value text name ms v w h k) i) j

left_out_or_string : (text name : List ℕ) (ms : Members) (x : List ℕ) → IsLeftOut text ms name → HasString text ms name x → ⊥
left_out_or_string text name ms x (inl none) (v, h, i) = none_or_one text name ms v none h
left_out_or_string text name ms x (inr (s, k)) (v, h, i) = subst (λ (y : Tree). IsStringOf text y x) (one_value text name ms v (plain null s) h k) i

pub optional_once : (text name : List ℕ) (ms : Members) (a b : Option (List ℕ)) → HasOptional text ms name a → HasOptional text ms name b → a ≡ b
optional_once text name ms None None h k = refl
optional_once text name ms None (Some y) h k = absurd (left_out_or_string text name ms y h k)
optional_once text name ms (Some x) None h k = absurd (left_out_or_string text name ms x k h)
optional_once text name ms (Some x) (Some y) h k = ap (λ (z : List ℕ). Some z) (member_once text name ms x y h k)

pub spelled_once : (text name : List ℕ) (ms : Members) (a b : List ℕ) → HasSpelled text ms name a → HasSpelled text ms name b → a ≡ b
spelled_once text name ms a b (inl (none, e)) (inl (none2, f)) = e ∙ sym f
spelled_once text name ms a b (inl (none, e)) (inr (v, h, f)) = absurd (none_or_one text name ms v none h)
spelled_once text name ms a b (inr (v, h, e)) (inl (none, f)) = absurd (none_or_one text name ms v none h)
spelled_once text name ms a b (inr (v, h, e)) (inr (w, k, f)) = e ∙ ap (λ (y : Tree). part text (spelled_at y)) (one_value text name ms v w h k) ∙ sym f

pub object_once : (text name : List ℕ) (ms a b : Members) → HasObject text ms name a → HasObject text ms name b → a ≡ b
object_once text name ms a b (s, h) (t, k) = let same : object a s ≡ object b t = one_value text name ms (object a s) (object b t) h k in cc

pub array_once : (text name : List ℕ) (ms : Members) (a b : Items) → HasArray text ms name a → HasArray text ms name b → a ≡ b
array_once text name ms a b (s, h) (t, k) = let same : array a s ≡ array b t = one_value text name ms (array a s) (array b t) h k in cc

-- ---- the strings of an array

pub strings_once : (text : List ℕ) (vs : List Tree) (a b : List (List ℕ)) → AreStrings text vs a → AreStrings text vs b → a ≡ b
strings_once text [] [] [] h k = refl
strings_once text [] [] (y ∷ b) h k = absurd k
strings_once text [] (x ∷ a) b h k = absurd h
strings_once text (v ∷ vs) [] b h k = absurd h
strings_once text (v ∷ vs) (x ∷ a) [] h k = absurd k
strings_once text (v ∷ vs) (x ∷ a) (y ∷ b) h k = ap₂ (λ (z : List ℕ) (l : List (List ℕ)). z ∷ l) (string_once text v x y h.0 k.0) (strings_once text vs a b h.1 k.1)

-- where a list is one of strings that are all good, the strings of the array are that list if they are good, and else there is none
pub gives_all : (good : List ℕ → Bool) (P : List (List ℕ) → Type 0) (text : List ℕ) (vs : List Tree) (xs : List (List ℕ)) → AreStrings text vs xs
    → (list_all good xs ≡ true → P xs) → ((ys : List (List ℕ)) → P ys → AreStrings text vs ys × (list_all good ys ≡ true)) → Gives P (if list_all good xs then Some xs else None)
gives_all good P text vs xs h f back = test (list_all good xs) refl
  where
    test : (b : Bool) → b ≡ list_all good xs → Gives P (if b then Some xs else None)
    test true e = f (sym e)
    test false e = λ ys k. let is = back ys k in let all : list_all good ys ≡ true = is.1 in let same : xs ≡ ys = strings_once text vs xs ys h is.0 in let other : list_all good xs ≡ true = ap (list_all good) same ∙ all in absurd (cc)
