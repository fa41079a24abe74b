-- User ids that are read.
use Rattle.std.proofs.Common.{◌≡◌, ℕ, List, Bool, true, false, refl, sym, ap, ◌∙◌, subst, Some}
use Rattle.std.specs.Prelude.{Option, None, Result, Ok, Err, IfOk, IsTrue, codes, if◌then◌else◌}
use Rattle.ch_base.specs.JsonTree.{Span, Tree, plain, null, no, yes, number, string, array, object, Members}
use Rattle.ch_base.specs.JsonText.{Unescapes}
use Rattle.ch_base.specs.declared.channel.Member.{Member}
use Rattle.ch_base.specs.JsonParts.{part, spelled_at}
use Rattle.ch_base.specs.ObjectMembers.{HasOne}
use Rattle.ch_json.specs.NodeOf.{form_of}
use Rattle.ch_json.specs.declared.node.Form.{Form}
use Rattle.ch_json.specs.declared.node.Form.TheVariants as form
use Rattle.ch_json.proofs.OneText.{one_text}
use Rattle.ch_json.proofs.Forms.{string_from_form}
use Rattle.ch_history.specs.Limits.{is_user_id}
use Rattle.ch_history.specs.WellFormed.{IsMember}
use Rattle.ch_protocol.specs.ChannelData.{is_whole, IsIdOf, HasId, TellsMember}
use Rattle.ch_frames.specs.declared.refused.Unread.{Unread}
use Rattle.ch_members.specs.Readings.{Gives}
use Rattle.ch_frames.specs.Ids.{good_id, whole_id, Told}
use Rattle.ch_members.proofs.MembersOfName.{one_value}
use Rattle.ch_members.proofs.SpelledValues.{spelled_json}

-- what is one alone, where it is a good id
pub gives_good : (P : List ℕ → Type 0) (id : List ℕ) → P id → ((x : List ℕ) → P x → id ≡ x) → Gives (λ x. P x × IsTrue (is_user_id x)) (good_id id)
gives_good P id h one = test (is_user_id id) refl
  where
    test : (b : Bool) → b ≡ is_user_id id → Gives (λ x. P x × IsTrue (is_user_id x)) (if b then Some id else None)
    test true e = (h, sym e)
    test false e = λ x k. let bad : is_user_id x ≡ false = subst (λ (y : List ℕ). is_user_id y ≡ false) (one x k.0) (sym e) in absurd (cc (bad, k.1))

-- ---- ids of members

number_from_form : (v : Tree) → form.Number ≡ form_of v → (s : Span) × (v ≡ plain number s)
number_from_form (plain null s) e = absurd (cc)
number_from_form (plain no s) e = absurd (cc)
number_from_form (plain yes s) e = absurd (cc)
number_from_form (plain number s) e = (s, refl)
number_from_form (plain string s) e = absurd (cc)
number_from_form (array vs s) e = absurd (cc)
number_from_form (object ms s) e = absurd (cc)

pub string_id : (text : List ℕ) (v : Tree) (s : Span) (id : List ℕ) → form.Str ≡ form_of v → s ≡ spelled_at v → Unescapes (part text s) id → Gives (IsIdOf text v) (good_id id)
string_id text v s id e at h =
    let k = string_from_form v e in
    let place : s ≡ k.0 = at ∙ ap spelled_at k.1 in
    let here : Unescapes (part text k.0) id = subst (λ (y : Span). Unescapes (part text y) id) place h in
    let good : Gives (IsIdOf text (plain string k.0)) (good_id id) = gives_good (Unescapes (part text k.0)) id here (λ x u. one_text (part text k.0) id x here u) in
    subst (λ (y : Tree). Gives (IsIdOf text y) (good_id id)) (sym k.1) good

number_good : (text : List ℕ) (s : Span) (id : List ℕ) → id ≡ part text s → Gives (IsIdOf text (plain number s)) (whole_id id)
number_good text s id at = whole (is_whole id) refl
  where
    good : (b : Bool) → b ≡ is_user_id id → is_whole id ≡ true → Gives (IsIdOf text (plain number s)) (if b then Some id else None)
    good true e f = (at, f, sym e)
    good false e f = λ x k. let bad : is_user_id x ≡ false = subst (λ (y : List ℕ). is_user_id y ≡ false) (at ∙ sym k.0) (sym e) in absurd (cc (bad, k.2))

    whole : (w : Bool) → w ≡ is_whole id → Gives (IsIdOf text (plain number s)) (if w then good_id id else None)
    whole true e = good (is_user_id id) refl (sym e)
    whole false e = λ x k. let bad : is_whole x ≡ false = subst (λ (y : List ℕ). is_whole y ≡ false) (at ∙ sym k.0) (sym e) in absurd (cc (bad, k.1))

pub number_id : (text : List ℕ) (v : Tree) (id : List ℕ) → form.Number ≡ form_of v → id ≡ part text (spelled_at v) → Gives (IsIdOf text v) (whole_id id)
number_id text v id e at =
    let k = number_from_form v e in
    let here : id ≡ part text k.0 = at ∙ ap (λ (y : Tree). part text (spelled_at y)) k.1 in
    subst (λ (y : Tree). Gives (IsIdOf text y) (whole_id id)) (sym k.1) (number_good text k.0 id here)

pub no_id : (text : List ℕ) (v : Tree) (f : Form) (x : List ℕ) → f ≡ form_of v → (f ≡ form.Str → ⊥) → (f ≡ form.Number → ⊥) → IsIdOf text v x → ⊥
no_id text (plain null s) f x e no_string no_number h = h
no_id text (plain no s) f x e no_string no_number h = h
no_id text (plain yes s) f x e no_string no_number h = h
no_id text (plain number s) f x e no_string no_number h = no_number e
no_id text (plain string s) f x e no_string no_number h = no_string e
no_id text (array vs s) f x e no_string no_number h = h
no_id text (object ms s) f x e no_string no_number h = h

pub gives_id : (text : List ℕ) (ms : Members) (v : Tree) → HasOne text ms (codes "user_id") v → (o : Option (List ℕ)) → Gives (IsIdOf text v) o → Gives (HasId text ms) o
gives_id text ms v has (Some x) h = (v, has, h)
gives_id text ms v has None h = λ x k. h x (subst (λ (w : Tree). IsIdOf text w x) (one_value text (codes "user_id") ms k.0 v k.1 has) k.2)

id_good : (text : List ℕ) (v : Tree) (id : List ℕ) → IsIdOf text v id → IsTrue (is_user_id id)
id_good text (plain null s) id h = absurd h
id_good text (plain no s) id h = absurd h
id_good text (plain yes s) id h = absurd h
id_good text (plain number s) id h = h.2
id_good text (plain string s) id h = h.1
id_good text (array vs s) id h = absurd h
id_good text (object ms s) id h = absurd h

pub member_good : (text : List ℕ) (r : Result Member Unread) → Told (TellsMember text) r → IfOk r IsMember
member_good text (Ok m) h = (id_good text h.id.0 m.user_id h.id.2, spelled_json text (codes "user_info") h.members m.info h.spelled h.info)
member_good text (Err e) h = tt
