-- That each body has one meaning.
use Rattle.std.proofs.Common.{◌≡◌, inl, inr, ℕ, List, [], ◌∷◌, length, refl, sym, ap, ap₂, ◌∙◌, subst, Some}
use Rattle.std.specs.Prelude.{Option, None, codes}
use Rattle.ch_base.specs.JsonTree.{Span, Tree, plain, string, array, object, Items, Members}
use Rattle.ch_base.specs.JsonText.{Unescapes}
use Rattle.ch_base.specs.JsonParts.{part, items_of}
use Rattle.ch_base.specs.ObjectMembers.{HasOne}
use Rattle.ch_base.specs.FirstPlaces.{first_places}
use Rattle.ch_json.proofs.OneText.{one_text}
use Rattle.ch_members.proofs.MembersOfName.{one_value, none_or_one}
use Rattle.ch_members.proofs.SpelledValues.{same_object}
use Rattle.ch_members.proofs.OnlyOne.{member_once, optional_once, array_once, strings_once}
use Rattle.ch_requests.specs.Triggers.{HasData, HasChannel, IsChannelList, HasChannels, HasEither, IsEvent, AreEvents, IsEventList, TellsEvent, TellsBatch, Triggers, ReadsBody}
use Rattle.ch_requests.specs.declared.request.Route.{Route}
use Rattle.ch_requests.specs.declared.request.Route.TheVariants.{Events, BatchEvents, Channels, Channel, ChannelUsers, Terminate}
use Rattle.ch_requests.specs.declared.trigger.Trigger.{Trigger}
use Rattle.ch_triggers.proofs.ChannelsOf.{channels_strings}

-- ---- the parts of an event

data_once : (text : List ℕ) (ms : Members) (b c : List ℕ) (m n : ℕ) → HasData text ms b m → HasData text ms c n → (b ≡ c) × (m ≡ n)
data_once text ms b c m n (s, h, e, (x, u, size)) (r, k, f, (y, w, other)) =
    let one : plain string s ≡ plain string r = one_value text (codes "data") ms (plain string s) (plain string r) h k in
    let same : s ≡ r = cc in
    let text_of : x ≡ y = one_text (part text r) x y (subst (λ (z : Span). Unescapes (part text z) x) same u) w in
    (e ∙ ap (part text) same ∙ sym f, size ∙ ap length text_of ∙ sym other)

channel_once : (text : List ℕ) (ms : Members) (a b : List (List ℕ)) → HasChannel text ms a → HasChannel text ms b → a ≡ b
channel_once text ms a b (x, h, good, e, none) (y, k, good2, f, none2) =
    e ∙ ap (λ (z : List ℕ). z ∷ []) (member_once text (codes "channel") ms x y h k) ∙ sym f

channel_list_once : (text : List ℕ) (vs : Items) (a b : List (List ℕ)) → IsChannelList text vs a → IsChannelList text vs b → a ≡ b
channel_list_once text vs a b h k =
    let here = channels_strings text (items_of vs) h.names h.are in
    let there = channels_strings text (items_of vs) k.names k.are in
    h.once ∙ ap first_places (strings_once text (items_of vs) h.names k.names here there) ∙ sym k.once

channels_once : (text : List ℕ) (ms : Members) (a b : List (List ℕ)) → HasChannels text ms a → HasChannels text ms b → a ≡ b
channels_once text ms a b ((vs, s, h, list), none) ((ws, r, k, list2), none2) =
    let same : ws ≡ vs = array_once text (codes "channels") ms ws vs (r, k) (s, h) in
    channel_list_once text vs a b list (subst (λ (y : Items). IsChannelList text y b) same list2)

-- the one channel and the list exclude each other
not_both : (text : List ℕ) (ms : Members) (a b : List (List ℕ)) → HasChannel text ms a → HasChannels text ms b → ⊥
not_both text ms a b (x, (v, has, is), good, e, none) (listed, no_one) = none_or_one text (codes "channel") ms v no_one has

either_once : (text : List ℕ) (ms : Members) (a b : List (List ℕ)) → HasEither text ms a → HasEither text ms b → a ≡ b
either_once text ms a b (inl h) (inl k) = channel_once text ms a b h k
either_once text ms a b (inl h) (inr k) = absurd (not_both text ms a b h k)
either_once text ms a b (inr h) (inl k) = absurd (not_both text ms b a k h)
either_once text ms a b (inr h) (inr k) = channels_once text ms a b h k

-- ---- an event

trigger_from : List ℕ → List ℕ → ℕ → List (List ℕ) → Option (List ℕ) → Option (List ℕ) → Trigger
trigger_from e b n cs s i = record { event = e; body = b; size = n; channels = cs; socket_id = s; info = i }

same_parts : (e f b c : List ℕ) (m n : ℕ) (cs ds : List (List ℕ)) (s r i j : Option (List ℕ)) → e ≡ f → b ≡ c → m ≡ n → cs ≡ ds → s ≡ r → i ≡ j
    → trigger_from e b m cs s i ≡ trigger_from f c n ds r j
same_parts e f b c m n cs ds s r i j event body size channels socket info = cc

event_once : (Names : List ℕ → Members → List (List ℕ) → Type 0) (text : List ℕ) (ms : Members)
    → ((a b : List (List ℕ)) → Names text ms a → Names text ms b → a ≡ b)
    → (t u : Trigger) → IsEvent Names text ms t → IsEvent Names text ms u → t ≡ u
unfolding trigger_from
event_once Names text ms one t u h k =
    let content = data_once text ms t.body u.body t.size u.size h.content k.content in
    same_parts t.event u.event t.body u.body t.size u.size t.channels u.channels t.socket_id u.socket_id t.info u.info
    (member_once text (codes "name") ms t.event u.event h.name k.name)
    content.0
    content.1
    (one t.channels u.channels h.named k.named)
    (optional_once text (codes "socket_id") ms t.socket_id u.socket_id h.socket k.socket)
    (optional_once text (codes "info") ms t.info u.info h.asked k.asked)

events_once : (text : List ℕ) (vs : List Tree) (ts us : List Trigger) → AreEvents text vs ts → AreEvents text vs us → ts ≡ us
events_once text [] [] [] h k = refl
events_once text [] [] (u ∷ us) h k = absurd k
events_once text [] (t ∷ ts) us h k = absurd h
events_once text (v ∷ vs) [] us h k = absurd h
events_once text (v ∷ vs) (t ∷ ts) [] h k = absurd k
events_once text (v ∷ vs) (t ∷ ts) (u ∷ us) ((ms, s, e, h), more) ((ns, r, f, k), more2) =
    let one : object ns r ≡ object ms s = sym f ∙ e in
    let same : ns ≡ ms = cc in
    let here = event_once HasChannel text ms (channel_once text ms) t u h (subst (λ (y : Members). IsEvent HasChannel text y u) same k) in
    ap₂ (λ (z : Trigger) (l : List Trigger). z ∷ l) here (events_once text vs ts us more more2)

-- ---- bodies

one_event : (body : List ℕ) (t u : Trigger) → TellsEvent body t → TellsEvent body u → t ≡ u
one_event body t u (utf8, (ms, spelled, h)) (utf8_too, (ns, other, k)) =
    let same : ns ≡ ms = same_object body ns ms other spelled in
    event_once HasEither body ms (either_once body ms) t u h (subst (λ (y : Members). IsEvent HasEither body y u) same k)

batch_once : (body : List ℕ) (ms : Members) (vs ws : Items) (s r : Span) (ts us : List Trigger)
    → HasOne body ms (codes "batch") (array vs s) → HasOne body ms (codes "batch") (array ws r) → IsEventList body vs ts → IsEventList body ws us → ts ≡ us
batch_once body ms vs ws s r ts us has has2 h k =
    let same : ws ≡ vs = array_once body (codes "batch") ms ws vs (r, has2) (s, has) in
    events_once body (items_of vs) ts us h.are (subst (λ (y : Items). AreEvents body (items_of y) us) same k.are)

one_batch : (body : List ℕ) (ts us : List Trigger) → TellsBatch body ts → TellsBatch body us → ts ≡ us
one_batch body ts us (utf8, (ms, spelled, (vs, s, has, h))) (utf8_too, (ns, other, (ws, r, has2, k))) =
    let same : ns ≡ ms = same_object body ns ms other spelled in
    batch_once body ms vs ws s r ts us has (subst (λ (y : Members). HasOne body y (codes "batch") (array ws r)) same has2) h k

one_list : (route : Route) (body : List ℕ) (ts us : List Trigger) → Triggers route body ts → Triggers route body us → ts ≡ us
one_list Events body ts us (t, h, e) (u, k, f) = e ∙ ap (λ (z : Trigger). z ∷ []) (one_event body t u h k) ∙ sym f
one_list BatchEvents body ts us h k = one_batch body ts us h k
one_list Channels body ts us h k = h ∙ sym k
one_list (Channel name) body ts us h k = h ∙ sym k
one_list (ChannelUsers name) body ts us h k = h ∙ sym k
one_list (Terminate user) body ts us h k = h ∙ sym k

pub one_reading : (route : Route) (body : List ℕ) (a b : Option (List Trigger)) → ReadsBody route body a → ReadsBody route body b → a ≡ b
one_reading route body (Some ts) (Some us) h k = ap (λ (z : List Trigger). Some z) (one_list route body ts us h k)
one_reading route body (Some ts) None h k = absurd (k ts h)
one_reading route body None (Some us) h k = absurd (h us k)
one_reading route body None None h k = refl
