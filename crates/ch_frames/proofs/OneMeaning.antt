-- That each text has one meaning.
use Rattle.std.proofs.Common.{◌≡◌, inl, inr, ℕ, List, [], ◌∷◌, length, Bool, true, false, refl, sym, ap, ap₂, ◌∙◌, subst}
use Rattle.std.specs.Prelude.{Option, Err, codes, nat_lt, MatchBool}
use Rattle.ch_base.specs.JsonTree.{Span, Tree, plain, null, no, yes, number, string, array, object, Items, Members}
use Rattle.ch_base.specs.declared.channel.Member.{Member}
use Rattle.ch_base.specs.declared.error_codes.TheConstants.{MESSAGE_TOO_LONG}
use Rattle.ch_base.specs.JsonParts.{part, items_of}
use Rattle.ch_base.specs.ObjectMembers.{HasOne, HasString, IsLeftOut, HasOptional, HasSpelled}
use Rattle.ch_base.specs.FirstPlaces.{first_places}
use Rattle.ch_json.proofs.OneText.{one_text}
use Rattle.ch_protocol.specs.ClientMessages.{Verdict, ClientEvent, ping, pong, subscribe, unsubscribe, sign_in, client, unknown, event_of, SubscribeShape, UnsubscribeShape, SignInShape, SayShape, checked, Shaped, SaysEvent, SaysObject, Says}
use Rattle.ch_protocol.specs.ChannelData.{IsIdOf, HasId, IsMemberData}
use Rattle.ch_protocol.specs.UserDataText.{AreIds, HasWatchlist, IsUserData}
use Rattle.ch_protocol.specs.declared.client_message.ClientMessage.{ClientMessage}
use Rattle.ch_protocol.specs.declared.client_message.ClientMessage.TheVariants.{Ping, Pong, Subscribe, Unsubscribe, SignIn, Say}
use Rattle.ch_protocol.specs.declared.client_message.UserData.{UserData}
use Rattle.ch_protocol.specs.declared.limits.TheConstants.{LONGEST_TEXT}
use Rattle.ch_members.proofs.MembersOfName.{one_value, none_or_one}
use Rattle.ch_frames.proofs.ShapesOf.{same_data}
use Rattle.ch_members.proofs.SpelledValues.{same_object}
use Rattle.ch_members.proofs.OnlyOne.{string_once, member_once, optional_once, spelled_once, array_once}

-- ---- messages

subscribe_once : (text : List ℕ) (ms : Members) (m n : ClientMessage) → SubscribeShape text ms m → SubscribeShape text ms n → m ≡ n
subscribe_once text ms Ping n h k = absurd h
subscribe_once text ms Pong n h k = absurd h
subscribe_once text ms (Unsubscribe c) n h k = absurd h
subscribe_once text ms (SignIn a u) n h k = absurd h
subscribe_once text ms (Say c e b) n h k = absurd h
subscribe_once text ms (Subscribe c a d) Ping h k = absurd k
subscribe_once text ms (Subscribe c a d) Pong h k = absurd k
subscribe_once text ms (Subscribe c a d) (Unsubscribe c2) h k = absurd k
subscribe_once text ms (Subscribe c a d) (SignIn a2 u2) h k = absurd k
subscribe_once text ms (Subscribe c a d) (Say c2 e2 b2) h k = absurd k
subscribe_once text ms (Subscribe c a d) (Subscribe c2 a2 d2) (inner, given, hc, ha, hd) (other, given2, kc, ka, kd) =
    let same : other ≡ inner = same_data text ms other inner given2 given in
    let one = member_once text (codes "channel") inner c c2 hc (subst (λ (y : Members). HasString text y (codes "channel") c2) same kc) in
    let two = optional_once text (codes "auth") inner a a2 ha (subst (λ (y : Members). HasOptional text y (codes "auth") a2) same ka) in
    let three = optional_once text (codes "channel_data") inner d d2 hd (subst (λ (y : Members). HasOptional text y (codes "channel_data") d2) same kd) in
    ap (λ (y : List ℕ). Subscribe y a d) one ∙ ap (λ (y : Option (List ℕ)). Subscribe c2 y d) two ∙ ap (λ (y : Option (List ℕ)). Subscribe c2 a2 y) three

unsubscribe_once : (text : List ℕ) (ms : Members) (m n : ClientMessage) → UnsubscribeShape text ms m → UnsubscribeShape text ms n → m ≡ n
unsubscribe_once text ms Ping n h k = absurd h
unsubscribe_once text ms Pong n h k = absurd h
unsubscribe_once text ms (Subscribe c a d) n h k = absurd h
unsubscribe_once text ms (SignIn a u) n h k = absurd h
unsubscribe_once text ms (Say c e b) n h k = absurd h
unsubscribe_once text ms (Unsubscribe c) Ping h k = absurd k
unsubscribe_once text ms (Unsubscribe c) Pong h k = absurd k
unsubscribe_once text ms (Unsubscribe c) (Subscribe c2 a2 d2) h k = absurd k
unsubscribe_once text ms (Unsubscribe c) (SignIn a2 u2) h k = absurd k
unsubscribe_once text ms (Unsubscribe c) (Say c2 e2 b2) h k = absurd k
unsubscribe_once text ms (Unsubscribe c) (Unsubscribe c2) (inner, given, hc) (other, given2, kc) =
    let same : other ≡ inner = same_data text ms other inner given2 given in
    ap (λ (y : List ℕ). Unsubscribe y) (member_once text (codes "channel") inner c c2 hc (subst (λ (y : Members). HasString text y (codes "channel") c2) same kc))

sign_in_once : (text : List ℕ) (ms : Members) (m n : ClientMessage) → SignInShape text ms m → SignInShape text ms n → m ≡ n
sign_in_once text ms Ping n h k = absurd h
sign_in_once text ms Pong n h k = absurd h
sign_in_once text ms (Subscribe c a d) n h k = absurd h
sign_in_once text ms (Unsubscribe c) n h k = absurd h
sign_in_once text ms (Say c e b) n h k = absurd h
sign_in_once text ms (SignIn a u) Ping h k = absurd k
sign_in_once text ms (SignIn a u) Pong h k = absurd k
sign_in_once text ms (SignIn a u) (Subscribe c2 a2 d2) h k = absurd k
sign_in_once text ms (SignIn a u) (Unsubscribe c2) h k = absurd k
sign_in_once text ms (SignIn a u) (Say c2 e2 b2) h k = absurd k
sign_in_once text ms (SignIn a u) (SignIn a2 u2) (inner, given, ha, hu) (other, given2, ka, ku) =
    let same : other ≡ inner = same_data text ms other inner given2 given in
    let one = member_once text (codes "auth") inner a a2 ha (subst (λ (y : Members). HasString text y (codes "auth") a2) same ka) in
    let two = member_once text (codes "user_data") inner u u2 hu (subst (λ (y : Members). HasString text y (codes "user_data") u2) same ku) in
    ap (λ (y : List ℕ). SignIn y u) one ∙ ap (λ (y : List ℕ). SignIn a2 y) two

say_once : (name text : List ℕ) (ms : Members) (m n : ClientMessage) → SayShape name text ms m → SayShape name text ms n → m ≡ n
say_once name text ms Ping n h k = absurd h
say_once name text ms Pong n h k = absurd h
say_once name text ms (Subscribe c a d) n h k = absurd h
say_once name text ms (Unsubscribe c) n h k = absurd h
say_once name text ms (SignIn a u) n h k = absurd h
say_once name text ms (Say c e b) Ping h k = absurd k
say_once name text ms (Say c e b) Pong h k = absurd k
say_once name text ms (Say c e b) (Subscribe c2 a2 d2) h k = absurd k
say_once name text ms (Say c e b) (Unsubscribe c2) h k = absurd k
say_once name text ms (Say c e b) (SignIn a2 u2) h k = absurd k
say_once name text ms (Say c e b) (Say c2 e2 b2) (he, hc, hb) (ke, kc, kb) =
    ap (λ (y : List ℕ). Say y e b) (member_once text (codes "channel") ms c c2 hc kc) ∙ ap (λ (y : List ℕ). Say c2 y b) (he ∙ sym ke) ∙ ap (λ (y : List ℕ). Say c2 e2 y) (spelled_once text (codes "data") ms b b2 hb kb)

-- ---- verdicts

shaped_once : (P : ClientMessage → Type 0) → ((m n : ClientMessage) → P m → P n → m ≡ n) → (a b : Verdict) → Shaped P a → Shaped P b → a ≡ b
shaped_once P one a b (inl (m, s, e)) (inl (n, t, f)) = e ∙ ap checked (one m n s t) ∙ sym f
shaped_once P one a b (inl (m, s, e)) (inr (none, f)) = absurd (none m s)
shaped_once P one a b (inr (none, e)) (inl (n, t, f)) = absurd (none n t)
shaped_once P one a b (inr (none, e)) (inr (none2, f)) = e ∙ sym f

event_once : (ev : ClientEvent) (name text : List ℕ) (ms : Members) (a b : Verdict) → SaysEvent ev name text ms a → SaysEvent ev name text ms b → a ≡ b
event_once ping name text ms a b h k = h ∙ sym k
event_once pong name text ms a b h k = h ∙ sym k
event_once subscribe name text ms a b h k = shaped_once (SubscribeShape text ms) (subscribe_once text ms) a b h k
event_once unsubscribe name text ms a b h k = shaped_once (UnsubscribeShape text ms) (unsubscribe_once text ms) a b h k
event_once sign_in name text ms a b h k = shaped_once (SignInShape text ms) (sign_in_once text ms) a b h k
event_once client name text ms a b h k = shaped_once (SayShape name text ms) (say_once name text ms) a b h k
event_once unknown name text ms a b h k = h ∙ sym k

object_once : (text : List ℕ) (a b : Verdict) → SaysObject text a → SaysObject text b → a ≡ b
object_once text a b (inl (ms, name, ev, h)) (inl (ns, other, ev2, k)) =
    let same : ns ≡ ms = same_object text ns ms ev2.spelled ev.spelled in
    let one : other ≡ name = member_once text (codes "event") ms other name (subst (λ (y : Members). HasString text y (codes "event") other) same ev2.event) ev.event in
    let here = subst (λ (y : Members). SaysEvent (event_of other) other text y b) same k in
    event_once (event_of name) name text ms a b h (subst (λ (y : List ℕ). SaysEvent (event_of y) y text ms b) one here)
object_once text a b (inl (ms, name, ev, h)) (inr (none, f)) = absurd (none ms name ev)
object_once text a b (inr (none, e)) (inl (ms, name, ev, k)) = absurd (none ms name ev)
object_once text a b (inr (none, e)) (inr (none2, f)) = e ∙ sym f

pub one_verdict : (text : List ℕ) (a b : Verdict) → Says text a → Says text b → a ≡ b
one_verdict text a b h k = test (nat_lt LONGEST_TEXT (length text)) h k
  where
    test : (long : Bool) → MatchBool long (a ≡ Err MESSAGE_TOO_LONG) (SaysObject text a) → MatchBool long (b ≡ Err MESSAGE_TOO_LONG) (SaysObject text b) → a ≡ b
    test true e f = e ∙ sym f
    test false e f = object_once text a b e f

-- ---- members of presence channels

id_once : (text : List ℕ) (v : Tree) (a b : List ℕ) → IsIdOf text v a → IsIdOf text v b → a ≡ b
id_once text (plain null s) a b h k = absurd h
id_once text (plain no s) a b h k = absurd h
id_once text (plain yes s) a b h k = absurd h
id_once text (plain number s) a b h k = h.0 ∙ sym k.0
id_once text (plain string s) a b h k = one_text (part text s) a b h.0 k.0
id_once text (array vs s) a b h k = absurd h
id_once text (object ms s) a b h k = absurd h

has_id_once : (text : List ℕ) (ms : Members) (a b : List ℕ) → HasId text ms a → HasId text ms b → a ≡ b
has_id_once text ms a b (v, h, i) (w, k, j) = id_once text w a b (subst (λ (y : Tree). IsIdOf text y a) (one_value text (codes "user_id") ms v w h k) i) j

member_from : List ℕ → List ℕ → Member
member_from x y = record { user_id = x; info = y }

pub one_member : (text : List ℕ) (a b : Member) → IsMemberData text a → IsMemberData text b → a ≡ b
unfolding member_from
one_member text a b h k =
    let same : k.members ≡ h.members = same_object text k.members h.members k.spelled h.spelled in
    let id : a.user_id ≡ b.user_id = has_id_once text h.members a.user_id b.user_id h.id (subst (λ (y : Members). HasId text y b.user_id) same k.id) in
    let info : a.info ≡ b.info = spelled_once text (codes "user_info") h.members a.info b.info h.info (subst (λ (y : Members). HasSpelled text y (codes "user_info") b.info) same k.info) in
    ap₂ member_from id info

-- ---- users

ids_once : (text : List ℕ) (vs : List Tree) (a b : List (List ℕ)) → AreIds text vs a → AreIds text vs b → a ≡ b
ids_once text [] [] [] h k = refl
ids_once text [] [] (y ∷ b) h k = absurd k
ids_once text [] (x ∷ a) b h k = absurd h
ids_once text (v ∷ vs) [] b h k = absurd h
ids_once text (v ∷ vs) (x ∷ a) [] h k = absurd k
ids_once text (v ∷ vs) (x ∷ a) (y ∷ b) h k = ap₂ (λ (z : List ℕ) (l : List (List ℕ)). z ∷ l) (string_once text v x y h.0 k.0) (ids_once text vs a b h.2 k.2)

left_out_or_array : (text : List ℕ) (ms : Members) (vs : Items) (s : Span) → IsLeftOut text ms (codes "watchlist") → HasOne text ms (codes "watchlist") (array vs s) → ⊥
left_out_or_array text ms vs s (inl none) k = none_or_one text (codes "watchlist") ms (array vs s) none k
left_out_or_array text ms vs s (inr (t, h)) k = let same : plain null t ≡ array vs s = one_value text (codes "watchlist") ms (plain null t) (array vs s) h k in cc

watchlist_once : (text : List ℕ) (ms : Members) (a b : List (List ℕ)) → HasWatchlist text ms a → HasWatchlist text ms b → a ≡ b
watchlist_once text ms a b (inl (out, e)) (inl (out2, f)) = e ∙ sym f
watchlist_once text ms a b (inl (out, e)) (inr (vs, s, k, list)) = absurd (left_out_or_array text ms vs s out k)
watchlist_once text ms a b (inr (vs, s, h, list)) (inl (out, f)) = absurd (left_out_or_array text ms vs s out h)
watchlist_once text ms a b (inr (vs, s, h, list)) (inr (ws, t, k, list2)) =
    let same : ws ≡ vs = array_once text (codes "watchlist") ms ws vs (t, k) (s, h) in
    let ids = ids_once text (items_of vs) list.ids list2.ids list.are (subst (λ (y : Items). AreIds text (items_of y) list2.ids) same list2.are) in
    list.once ∙ ap first_places ids ∙ sym list2.once

user_from : List ℕ → List (List ℕ) → UserData
user_from x y = record { id = x; watchlist = y }

pub one_user : (text : List ℕ) (a b : UserData) → IsUserData text a → IsUserData text b → a ≡ b
unfolding user_from
one_user text a b h k =
    let same : k.members ≡ h.members = same_object text k.members h.members k.spelled h.spelled in
    let id : a.id ≡ b.id = member_once text (codes "id") h.members a.id b.id h.id (subst (λ (y : Members). HasString text y (codes "id") b.id) same k.id) in
    let list : a.watchlist ≡ b.watchlist = watchlist_once text h.members a.watchlist b.watchlist h.watchlist (subst (λ (y : Members). HasWatchlist text y b.watchlist) same k.watchlist) in
    ap₂ user_from id list
