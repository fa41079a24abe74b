-- A member's value as it is spelled is a JSON text.
use Rattle.std.proofs.Common.{◌≡◌, inl, inr, ℕ, suc, ◌≤◌, List, [], ◌∷◌, Some, refl, sym, ap, subst, arith}
use Rattle.std.specs.Prelude.{slice_get, codes}
use Rattle.ch_base.specs.JsonTree.{Span, Tree, plain, null, object, Members, no_members, member}
use Rattle.ch_base.specs.JsonText.{Spells, SpellsWithin, IsJsonText}
use Rattle.ch_base.specs.declared.limits.TheConstants.{MAX_DEPTH}
use Rattle.ch_base.specs.JsonParts.{part, spelled_at, members_of, IsSpelledIn}
use Rattle.ch_base.specs.ObjectMembers.{IsObjectText, HasOne, HasSpelled}
use Rattle.ch_json.specs.Levels.{levels, member_levels}
use Rattle.ch_json.proofs.Alone.{room_fit, spelled_alone, spelled_levels}
use Rattle.ch_json.proofs.Fronts.{one_tree}
use Rattle.ch_json.proofs.PartsOf.{top_spelled, member_spelled}

-- the members of a text's object are one list
pub same_object : (text : List ℕ) (a b : Members) → IsObjectText text a → IsObjectText text b → a ≡ b
same_object text a b (s, h) (t, k) = let same : object a s ≡ object b t = one_tree MAX_DEPTH text (object a s) (object b t) h k in cc

-- where the only member of a name stands, and how deep it is
named_place : (text name : List ℕ) (ms : Members) (v : Tree) → HasOne text ms name v → ((i : ℕ) × (m : Span × Tree) × (slice_get (members_of ms) i ≡ Some m) × (m.1 ≡ v)) × (levels v ≤ member_levels ms)
named_place text name no_members v h = let same : ◌≡◌ {A = List Tree} (v ∷ []) [] = h in absurd (cc)
named_place text name (member key w ms) v (inl (is, (rest, e, h))) =
    let same : w ≡ v = cc in
    let depth : levels w ≡ levels v = ap levels same in
    ((0, (key, w), refl, same), omega (arith, depth))
named_place text name (member key w ms) v (inr (other, h)) =
    let k = named_place text name ms v h in
    ((suc k.0.0, k.0.1, k.0.2, k.0.3), omega (arith, k.1))

null_text : IsJsonText (codes "null")
null_text = (plain null (record { from = 0; to = 4 }), (codes "null", [], inl refl, ((refl, refl), refl), refl))

-- a text with few open brackets is one with room for more
with_room : (text : List ℕ) (limit : ℕ) (w : Tree) → limit ≤ MAX_DEPTH → SpellsWithin limit text w → Spells text w
with_room text limit w le (m, k, before, val, behind) =
    let few : levels w ≤ limit = spelled_levels limit text w (m, k, before, val, behind) in
    (m, k, before, room_fit _ limit w m k MAX_DEPTH val (omega arith), behind)

pub spelled_json : (text name : List ℕ) (ms : Members) (x : List ℕ) → IsObjectText text ms → HasSpelled text ms name x → IsJsonText x
spelled_json text name ms x (s, h) (inl (none, e)) = subst IsJsonText (sym e) null_text
spelled_json text name ms x (s, h) (inr (v, has, e)) =
    let place = named_place text name ms v has in
    let at = (member_spelled text ms s place.0.0 place.0.1 (top_spelled text (object ms s) h) place.0.2).1 in
    let alone = spelled_alone text v (subst (IsSpelledIn text) place.0.3 at) in
    let all : levels (object ms s) ≤ MAX_DEPTH = spelled_levels MAX_DEPTH text (object ms s) h in
    let few : levels v ≤ MAX_DEPTH = omega (arith, place.1) in
    subst IsJsonText (sym e) (alone.0, with_room (part text (spelled_at v)) (levels v) alone.0 few alone.1)
