-- Events: of one object, and of an array's values.
use Rattle.std.proofs.Common.{◌≡◌, ℕ, zero, suc, ◌+◌, ◌≤◌, List, [], ◌∷◌, ◌++◌, length, take, refl, sym, ◌∙◌, subst, Some, arith}
use Rattle.std.specs.Prelude.{Option, None, slice_get}
use Rattle.ch_base.specs.JsonTree.{Span, Tree, object, Items, Members}
use Rattle.ch_base.specs.JsonParts.{items_of}
use Rattle.ch_base.specs.ObjectMembers.{AreDistinct}
use Rattle.ch_members.specs.Readings.{Gives, IsPlainObject}
use Rattle.ch_requests.specs.Triggers.{IsEvent, HasChannel, AreEvents, IsEventList}
use Rattle.ch_requests.specs.declared.trigger.Trigger.{Trigger}
use Rattle.ch_triggers.specs.declared.content.Content.{Content}
use Rattle.ch_triggers.specs.Bodies.{AreThese, IsEventValue}

-- ---- one object

pub plain_distinct : (text : List ℕ) (ms : Members) (s : Span) → IsPlainObject text (object ms s) → AreDistinct text ms
plain_distinct text ms s (n, r, e, h) = let same : n ≡ ms = cc in subst (AreDistinct text) same h

-- the event with these channels
on_these : List (List ℕ) → Trigger → Trigger
on_these these t = record t { channels = these }

is_on_these : (Names : List ℕ → Members → List (List ℕ) → Type 0) (text : List ℕ) (ms : Members) (these : List (List ℕ)) (t : Trigger) → IsEvent Names text ms t → IsEvent (AreThese these) text ms (on_these these t)
unfolding on_these
is_on_these Names text ms these t h = record {
  distinct = h.distinct;
  name = h.name;
  good_name = h.good_name;
  content = h.content;
  named = refl;
  socket = h.socket;
  good_socket = h.good_socket;
  asked = h.asked;
}

-- the data of an event
abbrev pub content_from : Trigger → Content
content_from t = record { body = t.body; size = t.size }

-- the event on these channels, where the object names them
pub gives_event : (Names : List ℕ → Members → List (List ℕ) → Type 0) (text : List ℕ) (ms : Members) (these : List (List ℕ)) → Names text ms these → (o : Option Trigger) → Gives (IsEvent (AreThese these) text ms) o → Gives (IsEvent Names text ms) o
gives_event Names text ms these names (Some t) h = record {
  distinct = h.distinct;
  name = h.name;
  good_name = h.good_name;
  content = h.content;
  named = subst (Names text ms) (sym h.named) names;
  socket = h.socket;
  good_socket = h.good_socket;
  asked = h.asked;
}
gives_event Names text ms these names None h = λ t k. h (on_these these t) (is_on_these Names text ms these t k)

-- ---- the values of an array

pub gives_value : (text : List ℕ) (v : Tree) (ms : Members) (s : Span) → v ≡ object ms s → (o : Option Trigger) → Gives (IsEvent HasChannel text ms) o → Gives (IsEventValue text v) o
gives_value text v ms s e (Some t) h = (ms, s, e, h)
gives_value text v ms s e None h = none
  where
    none : (t : Trigger) → IsEventValue text v t → ⊥
    none t (n, r, f, k) = let two : object n r ≡ object ms s = sym f ∙ e in let same : n ≡ ms = cc in h t (subst (λ (y : Members). IsEvent HasChannel text y t) same k)

events_push : (text : List ℕ) (vs : List Tree) (i : ℕ) (v : Tree) (t : Trigger) (ts : List Trigger) → slice_get vs i ≡ Some v → IsEventValue text v t → AreEvents text (take i vs) ts → AreEvents text (take (suc i) vs) (ts ++ t ∷ [])
events_push text [] i v t ts e is h = absurd (cc)
events_push text (w ∷ vs) zero v t [] e is h = let same : v ≡ w = cc in (subst (λ (y : Tree). IsEventValue text y t) same is, tt)
events_push text (w ∷ vs) zero v t (x ∷ ts) e is h = absurd h
events_push text (w ∷ vs) (suc i) v t [] e is h = absurd h
events_push text (w ∷ vs) (suc i) v t (x ∷ ts) e is h = (h.0, events_push text vs i v t ts e is h.1)

-- one more value
pub events_more : (text : List ℕ) (vs : List Tree) (i : ℕ) (v : Tree) (t : Trigger) (ts : List Trigger) → slice_get vs i ≡ Some v → IsEventValue text v t → AreEvents text (take i vs) ts → AreEvents text (take (i + 1) vs) (ts ++ t ∷ [])
events_more text vs i v t ts e is h = let up : suc i ≡ i + 1 = omega arith in subst (λ k. AreEvents text (take k vs) (ts ++ t ∷ [])) up (events_push text vs i v t ts e is h)

pub event_at_place : (text : List ℕ) (vs : List Tree) (i : ℕ) (v : Tree) (ts : List Trigger) → slice_get vs i ≡ Some v → AreEvents text vs ts → (t : Trigger) × IsEventValue text v t
event_at_place text [] i v ts e h = absurd (cc)
event_at_place text (w ∷ vs) i v [] e h = absurd h
event_at_place text (w ∷ vs) zero v (x ∷ ts) e h = let same : w ≡ v = cc in (x, subst (λ (y : Tree). IsEventValue text y x) same h.0)
event_at_place text (w ∷ vs) (suc i) v (x ∷ ts) e h = event_at_place text vs i v ts e h.1

-- 1 to 10 events
pub gives_list : (text : List ℕ) (vs : Items) → 1 ≤ length (items_of vs) → length (items_of vs) ≤ 10 → (o : Option (List Trigger)) → Gives (AreEvents text (items_of vs)) o → Gives (IsEventList text vs) o
gives_list text vs some few (Some ts) h = record { some = some; few = few; are = h }
gives_list text vs some few None h = λ ts k. h ts k.are
