-- What a body tells, by the members of its object.
use Rattle.std.proofs.Common.{◌≡◌, ℕ, List, [], refl, sym, subst, Some}
use Rattle.std.specs.Prelude.{Option, None, IsUtf8, codes}
use Rattle.ch_base.specs.JsonTree.{Span, Tree, array, object, Items, Members}
use Rattle.ch_base.specs.JsonText.{Spells}
use Rattle.ch_base.specs.ObjectMembers.{IsObjectText, HasOne}
use Rattle.ch_json.specs.Document.{Document}
use Rattle.ch_json.specs.NodeOf.{IsNode}
use Rattle.ch_json.specs.declared.node.Node.{Node}
use Rattle.ch_members.specs.Readings.{Gives}
use Rattle.ch_members.proofs.OnlyOne.{array_once}
use Rattle.ch_members.proofs.SpelledValues.{same_object}
use Rattle.ch_requests.specs.Triggers.{IsEvent, HasEither, IsEventList, TellsEvent, TellsBatch, Triggers, ReadsBody}
use Rattle.ch_requests.specs.declared.request.Route.{Route}
use Rattle.ch_requests.specs.declared.request.Route.TheVariants.{Events, BatchEvents, Channels, Channel, ChannelUsers, Terminate}
use Rattle.ch_requests.specs.declared.trigger.Trigger.{Trigger}
use Rattle.ch_triggers.specs.Bodies.{HasBatch, IsOnly}

pub gives_batch : (text : List ℕ) (ms : Members) (vs : Items) (s : Span) → HasOne text ms (codes "batch") (array vs s) → (o : Option (List Trigger)) → Gives (IsEventList text vs) o → Gives (HasBatch text ms) o
gives_batch text ms vs s has (Some ts) h = (vs, s, has, h)
gives_batch text ms vs s has None h = none
  where
    none : (ts : List Trigger) → HasBatch text ms ts → ⊥
    none ts (ws, r, k, list) = h ts (subst (λ (y : Items). IsEventList text y ts) (array_once text (codes "batch") ms ws vs (r, k) (s, has)) list)

pub tells_event : (text : List ℕ) (ms : Members) → IsUtf8 text → IsObjectText text ms → (o : Option Trigger) → Gives (IsEvent HasEither text ms) o → Gives (TellsEvent text) o
tells_event text ms utf8 spelled (Some t) h = (utf8, (ms, spelled, h))
tells_event text ms utf8 spelled None h = none
  where
    none : (t : Trigger) → TellsEvent text t → ⊥
    none t (u, (n, other, k)) = h t (subst (λ (y : Members). IsEvent HasEither text y t) (same_object text n ms other spelled) k)

pub tells_batch : (text : List ℕ) (ms : Members) → IsUtf8 text → IsObjectText text ms → (o : Option (List Trigger)) → Gives (HasBatch text ms) o → Gives (TellsBatch text) o
tells_batch text ms utf8 spelled (Some ts) h = (utf8, (ms, spelled, h))
tells_batch text ms utf8 spelled None h = none
  where
    none : (ts : List Trigger) → TellsBatch text ts → ⊥
    none ts (u, (n, other, k)) = h ts (subst (λ (y : Members). HasBatch text y ts) (same_object text n ms other spelled) k)

-- ---- the routes

pub reads_event : (route : Route) (body : List ℕ) → route ≡ Events → (o : Option (List Trigger)) → Gives (IsOnly (TellsEvent body)) o → ReadsBody route body o
reads_event route body e (Some ts) h = subst (λ (y : Route). Triggers y body ts) (sym e) h
reads_event route body e None h = λ ts k. h ts (subst (λ (y : Route). Triggers y body ts) e k)

pub reads_batch : (route : Route) (body : List ℕ) → route ≡ BatchEvents → (o : Option (List Trigger)) → Gives (TellsBatch body) o → ReadsBody route body o
reads_batch route body e (Some ts) h = subst (λ (y : Route). Triggers y body ts) (sym e) h
reads_batch route body e None h = λ ts k. h ts (subst (λ (y : Route). Triggers y body ts) e k)

pub reads_nothing : (route : Route) (body : List ℕ) (ts : List Trigger) → (route ≡ Events → ⊥) → (route ≡ BatchEvents → ⊥) → ts ≡ [] → Triggers route body ts
reads_nothing Events body ts h k e = absurd (h refl)
reads_nothing BatchEvents body ts h k e = absurd (k refl)
reads_nothing Channels body ts h k e = e
reads_nothing (Channel name) body ts h k e = e
reads_nothing (ChannelUsers name) body ts h k e = e
reads_nothing (Terminate user) body ts h k e = e

-- ---- nodes

pub node_of_object : (text : List ℕ) (d : Document) (node same : Node) (v : Tree) (ms : Members) (s : Span) → same ≡ node → v ≡ object ms s → IsNode text d node v → IsNode text d same (object ms s)
node_of_object text d node same v ms s e f is = subst (λ (n : Node). IsNode text d n (object ms s)) (sym e) (subst (IsNode text d node) f is)

pub object_text : (text : List ℕ) (v : Tree) (ms : Members) (s : Span) → v ≡ object ms s → Spells text v → IsObjectText text ms
object_text text v ms s e h = (s, subst (Spells text) e h)
