-- The shapes of messages, and what a look that finds nothing rules out.
use Rattle.std.proofs.Common.{◌≡◌, ℕ, List, Some, refl, subst}
use Rattle.std.specs.Prelude.{Option, None, codes}
use Rattle.ch_base.specs.JsonTree.{Members}
use Rattle.ch_base.specs.ObjectMembers.{HasString, HasOptional, HasSpelled}
use Rattle.ch_json.specs.Document.{Document}
use Rattle.ch_json.specs.declared.node.Node.{Node}
use Rattle.ch_protocol.specs.ClientMessages.{HasData, SubscribeShape, UnsubscribeShape, SignInShape, SayShape}
use Rattle.ch_protocol.specs.declared.client_message.ClientMessage.{ClientMessage}
use Rattle.ch_protocol.specs.declared.client_message.ClientMessage.TheVariants.{Ping, Pong, Subscribe, Unsubscribe, SignIn, Say}
use Rattle.ch_members.specs.Readings.{ReadsObjectMember}
use Rattle.ch_members.proofs.OnlyOne.{object_once}

-- ---- the member `data`

pub reads_none : (text : List ℕ) (d : Document) (ms : Members) (o : Option Node) → ReadsObjectMember text d ms (codes "data") o → ((n : Node) → o ≡ Some n → ⊥) → (inner : Members) → HasData text ms inner → ⊥
reads_none text d ms (Some n) h other inner k = other n refl
reads_none text d ms None h other inner k = h inner k

pub same_data : (text : List ℕ) (ms a b : Members) → HasData text ms a → HasData text ms b → a ≡ b
same_data text ms a b h k = object_once text (codes "data") ms a b h k

pub other_string : (text name : List ℕ) (ms a b : Members) → HasData text ms a → HasData text ms b → ((x : List ℕ) → HasString text a name x → ⊥) → (x : List ℕ) → HasString text b name x → ⊥
other_string text name ms a b h k none x has = none x (subst (λ (y : Members). HasString text y name x) (same_data text ms b a k h) has)

pub other_optional : (text name : List ℕ) (ms a b : Members) → HasData text ms a → HasData text ms b → ((x : Option (List ℕ)) → HasOptional text a name x → ⊥) → (x : Option (List ℕ)) → HasOptional text b name x → ⊥
other_optional text name ms a b h k none x has = none x (subst (λ (y : Members). HasOptional text y name x) (same_data text ms b a k h) has)

-- ---- no message of the shape

pub no_subscribe : (text : List ℕ) (ms : Members)
    → ((inner : Members) (channel : List ℕ) (auth given : Option (List ℕ)) → HasData text ms inner → HasString text inner (codes "channel") channel → HasOptional text inner (codes "auth") auth → HasOptional text inner (codes "channel_data") given → ⊥)
    → (m : ClientMessage) → SubscribeShape text ms m → ⊥
no_subscribe text ms f Ping h = h
no_subscribe text ms f Pong h = h
no_subscribe text ms f (Subscribe c a d) (inner, given, hc, ha, hd) = f inner c a d given hc ha hd
no_subscribe text ms f (Unsubscribe c) h = h
no_subscribe text ms f (SignIn a u) h = h
no_subscribe text ms f (Say c e b) h = h

pub no_unsubscribe : (text : List ℕ) (ms : Members)
    → ((inner : Members) (channel : List ℕ) → HasData text ms inner → HasString text inner (codes "channel") channel → ⊥)
    → (m : ClientMessage) → UnsubscribeShape text ms m → ⊥
no_unsubscribe text ms f Ping h = h
no_unsubscribe text ms f Pong h = h
no_unsubscribe text ms f (Subscribe c a d) h = h
no_unsubscribe text ms f (Unsubscribe c) (inner, given, hc) = f inner c given hc
no_unsubscribe text ms f (SignIn a u) h = h
no_unsubscribe text ms f (Say c e b) h = h

pub no_sign_in : (text : List ℕ) (ms : Members)
    → ((inner : Members) (auth user_data : List ℕ) → HasData text ms inner → HasString text inner (codes "auth") auth → HasString text inner (codes "user_data") user_data → ⊥)
    → (m : ClientMessage) → SignInShape text ms m → ⊥
no_sign_in text ms f Ping h = h
no_sign_in text ms f Pong h = h
no_sign_in text ms f (Subscribe c a d) h = h
no_sign_in text ms f (Unsubscribe c) h = h
no_sign_in text ms f (SignIn a u) (inner, given, ha, hu) = f inner a u given ha hu
no_sign_in text ms f (Say c e b) h = h

pub no_say : (name text : List ℕ) (ms : Members)
    → ((channel body : List ℕ) → HasString text ms (codes "channel") channel → HasSpelled text ms (codes "data") body → ⊥)
    → (m : ClientMessage) → SayShape name text ms m → ⊥
no_say name text ms f Ping h = h
no_say name text ms f Pong h = h
no_say name text ms f (Subscribe c a d) h = h
no_say name text ms f (Unsubscribe c) h = h
no_say name text ms f (SignIn a u) h = h
no_say name text ms f (Say c e b) (same, hc, hb) = f c b hc hb
