-- The events that a body triggers are fit.
use Rattle.std.proofs.Common.{◌≡◌, inl, inr, ℕ, List, [], ◌∷◌, not, sym, subst, Some}
use Rattle.std.specs.Prelude.{Option, None, IfSome, IsTrue, All, bytes_eq, filter}
use Rattle.std.proofs.lemmas.List.Elements.{All-nil, All-cons, All-head, All-tail, All-filter}
use Rattle.ch_history.specs.UserChannels.{is_subscribable}
use Rattle.ch_base.specs.JsonTree.{Tree, Members}
use Rattle.ch_base.specs.JsonText.{Unescapes, IsJsonString}
use Rattle.ch_base.specs.JsonParts.{part, items_of}
use Rattle.ch_base.specs.FirstPlaces.{first_places}
use Rattle.ch_requests.specs.Fit.{IsTriggerFit, AreFit}
use Rattle.ch_requests.specs.Triggers.{AreChannels, HasChannel, HasEither, IsEvent, AreEvents, Triggers, ReadsBody}
use Rattle.ch_requests.specs.declared.request.Route.{Route}
use Rattle.ch_requests.specs.declared.request.Route.TheVariants.{Events, BatchEvents, Channels, Channel, ChannelUsers, Terminate}
use Rattle.ch_requests.specs.declared.trigger.Trigger.{Trigger}

abbrev IsSubscribable : List ℕ → Type 0
IsSubscribable channel = IsTrue (is_subscribable channel)

abbrev AreSubscribable : List (List ℕ) → Type 0
AreSubscribable channels = All IsSubscribable channels

first_all : (P : List ℕ → Type 0) (xs : List (List ℕ)) → All P xs → All P (first_places xs)
first_all P [] h = All-nil P
first_all P (x ∷ xs) h = All-cons P x (filter (λ y. not (bytes_eq y x)) (first_places xs)) (All-head P x xs h) (All-filter (λ y. not (bytes_eq y x)) P (first_places xs) (first_all P xs (All-tail P x xs h)))

channels_all : (text : List ℕ) (vs : List Tree) (names : List (List ℕ)) → AreChannels text vs names → AreSubscribable names
channels_all text [] [] h = All-nil IsSubscribable
channels_all text [] (x ∷ names) h = absurd h
channels_all text (v ∷ vs) [] h = absurd h
channels_all text (v ∷ vs) (x ∷ names) h = All-cons IsSubscribable x names h.1 (channels_all text vs names h.2)

one_all : (text : List ℕ) (ms : Members) (channels : List (List ℕ)) → HasChannel text ms channels → AreSubscribable channels
one_all text ms channels (channel, h, good, e, none) = subst AreSubscribable (sym e) (All-cons IsSubscribable channel [] good (All-nil IsSubscribable))

either_all : (text : List ℕ) (ms : Members) (channels : List (List ℕ)) → HasEither text ms channels → AreSubscribable channels
either_all text ms channels (inl h) = one_all text ms channels h
either_all text ms channels (inr ((vs, s, has, list), none)) = subst AreSubscribable (sym list.once) (first_all IsSubscribable list.names (channels_all text (items_of vs) list.names list.are))

json_string : (bytes x : List ℕ) → Unescapes bytes x → IsJsonString bytes
json_string bytes x (cs, t, e, chars, same) = (cs, (t, e, chars))

event_fit : (Names : List ℕ → Members → List (List ℕ) → Type 0) (text : List ℕ) (ms : Members) (t : Trigger) → (Names text ms t.channels → AreSubscribable t.channels) → IsEvent Names text ms t → IsTriggerFit t
event_fit Names text ms t named h =
    let k = h.content in
    record { event = h.good_name; body = subst IsJsonString (sym k.2) (json_string (part text k.0) k.3.0 k.3.1); channels = named h.named }

events_fit : (text : List ℕ) (vs : List Tree) (ts : List Trigger) → AreEvents text vs ts → AreFit ts
events_fit text [] [] h = All-nil IsTriggerFit
events_fit text [] (t ∷ ts) h = absurd h
events_fit text (v ∷ vs) [] h = absurd h
events_fit text (v ∷ vs) (t ∷ ts) ((ms, s, e, is), h) = All-cons IsTriggerFit t ts (event_fit HasChannel text ms t (one_all text ms t.channels) is) (events_fit text vs ts h)

nothing_fit : (ts : List Trigger) → ts ≡ [] → AreFit ts
nothing_fit ts e = subst AreFit (sym e) (All-nil IsTriggerFit)

pub triggers_fit : (route : Route) (body : List ℕ) (ts : List Trigger) → Triggers route body ts → AreFit ts
triggers_fit Events body ts (t, (utf8, (ms, spelled, is)), e) = subst AreFit (sym e) (All-cons IsTriggerFit t [] (event_fit HasEither body ms t (either_all body ms t.channels) is) (All-nil IsTriggerFit))
triggers_fit BatchEvents body ts (utf8, (ms, spelled, (vs, s, has, list))) = events_fit body (items_of vs) ts list.are
triggers_fit Channels body ts e = nothing_fit ts e
triggers_fit (Channel name) body ts e = nothing_fit ts e
triggers_fit (ChannelUsers name) body ts e = nothing_fit ts e
triggers_fit (Terminate user) body ts e = nothing_fit ts e

pub body_fit : (route : Route) (body : List ℕ) (o : Option (List Trigger)) → ReadsBody route body o → IfSome o AreFit
body_fit route body (Some ts) h = triggers_fit route body ts h
body_fit route body None h = tt
