-- What holds of each verdict, and of the answers that are verdicts.
use Rattle.std.proofs.Common.{◌≡◌, inl, inr, ℕ, ◌≤◌, List, [], ◌∷◌, length, Bool, true, false, refl, sym, subst, Some, arith}
use Rattle.std.specs.Prelude.{Option, None, Result, Ok, Err, IfOk, IfErr, codes, not, ◌||◌, nat_lt, if◌then◌else◌}
use Rattle.std.proofs.lemmas.Bool.Decides.{nat_tests}
use Rattle.ch_base.specs.JsonTree.{Members}
use Rattle.ch_base.specs.JsonText.{IsJsonText}
use Rattle.ch_base.specs.ObjectMembers.{IsObjectText}
use Rattle.ch_base.specs.declared.error_codes.TheConstants.{INVALID_CHANNEL_NAME, MESSAGE_TOO_LONG}
use Rattle.ch_history.specs.ChannelName.{is_good_name}
use Rattle.ch_history.specs.Limits.{is_event_name}
use Rattle.ch_history.specs.UserChannels.{is_subscribable}
use Rattle.ch_protocol.specs.ClientMessages.{Verdict, ClientEvent, ping, pong, subscribe, unsubscribe, sign_in, client, unknown, event_of, SubscribeShape, UnsubscribeShape, SignInShape, SayShape, checked, Shaped, SaysEvent, SaysObject}
use Rattle.ch_protocol.specs.declared.client_message.ClientMessage.{ClientMessage}
use Rattle.ch_protocol.specs.declared.client_message.ClientMessage.TheVariants.{Ping, Pong, Subscribe, Unsubscribe, SignIn, Say}
use Rattle.ch_protocol.specs.declared.limits.TheConstants.{LONGEST_EVENT, LONGEST_BODY}
use Rattle.ch_frames.specs.declared.refused.Refused.{Refused}
use Rattle.ch_frames.specs.declared.refused.Refused.TheVariants.{Code, Memory}
use Rattle.ch_members.specs.Readings.{Gives}
use Rattle.ch_frames.specs.Verdicts.{HasVerdict, answer_of, answer_of_shape}
use Rattle.ch_frames.specs.Checked.{IsGoodMessage, IsCode, IsRefusal}
use Rattle.ch_members.proofs.SpelledValues.{spelled_json}

-- ---- answers

tells_answer : (Q : Verdict → Type 0) (v : Verdict) → Q v → HasVerdict Q (answer_of v)
tells_answer Q (Ok m) h = h
tells_answer Q (Err c) h = h

pub tells_judged : (P : ClientMessage → Type 0) (o : Option ClientMessage) → Gives P o → HasVerdict (Shaped P) (answer_of_shape o)
tells_judged P None h = inr (h, refl)
tells_judged P (Some m) h = tells_answer (Shaped P) (checked m) (inl (m, h, refl))

pub tells_as : (Q R : Verdict → Type 0) (r : Result ClientMessage Refused) → ((v : Verdict) → Q v → R v) → HasVerdict Q r → HasVerdict R r
tells_as Q R (Ok m) f h = f (Ok m) h
tells_as Q R (Err (Code c)) f h = f (Err c) h
tells_as Q R (Err Memory) f h = tt

pub tells_event : (Q : ClientEvent → Verdict → Type 0) (a b : ClientEvent) (o : Option ClientMessage) (r : Result ClientMessage Refused) → a ≡ b → r ≡ answer_of_shape o → HasVerdict (Q a) (answer_of_shape o) → HasVerdict (Q b) r
tells_event Q a b o r e f h = subst (λ (y : ClientEvent). HasVerdict (Q y) r) e (subst (HasVerdict (Q a)) (sym f) h)

-- ---- the codes

abbrev IsCodeIf : Verdict → Type 0
IsCodeIf (Ok m) = Unit {0}
IsCodeIf (Err c) = IsCode c

name_code : (b : Bool) (m : ClientMessage) → IsCodeIf (if b then Ok m else Err INVALID_CHANNEL_NAME)
name_code true m = tt
name_code false m = inr (inr (inl refl))

say_code : (a b : Bool) (m : ClientMessage) → IsCodeIf (if a then Err INVALID_CHANNEL_NAME else (if b then Err MESSAGE_TOO_LONG else Ok m))
say_code true b m = inr (inr (inl refl))
say_code false true m = inr (inr (inr refl))
say_code false false m = tt

checked_code : (m : ClientMessage) → IsCodeIf (checked m)
checked_code Ping = tt
checked_code Pong = tt
checked_code (Subscribe c a d) = name_code (is_subscribable c) (Subscribe c a d)
checked_code (Unsubscribe c) = name_code (is_subscribable c) (Unsubscribe c)
checked_code (SignIn a u) = tt
checked_code (Say c e b) = say_code (not (is_good_name c)) (nat_lt LONGEST_EVENT (length e) || nat_lt LONGEST_BODY (length b)) (Say c e b)

shaped_code : (P : ClientMessage → Type 0) (v : Verdict) → Shaped P v → IsCodeIf v
shaped_code P v (inl (m, s, e)) = subst IsCodeIf (sym e) (checked_code m)
shaped_code P v (inr (none, e)) = subst IsCodeIf (sym e) (inl refl)

event_code : (ev : ClientEvent) (name text : List ℕ) (ms : Members) (v : Verdict) → SaysEvent ev name text ms v → IsCodeIf v
event_code ping name text ms v h = subst IsCodeIf (sym h) tt
event_code pong name text ms v h = subst IsCodeIf (sym h) tt
event_code subscribe name text ms v h = shaped_code (SubscribeShape text ms) v h
event_code unsubscribe name text ms v h = shaped_code (UnsubscribeShape text ms) v h
event_code sign_in name text ms v h = shaped_code (SignInShape text ms) v h
event_code client name text ms v h = shaped_code (SayShape name text ms) v h
event_code unknown name text ms v h = subst IsCodeIf (sym h) (inr (inl refl))

object_code : (text : List ℕ) (v : Verdict) → SaysObject text v → IsCodeIf v
object_code text v (inl (ms, name, ev, h)) = event_code (event_of name) name text ms v h
object_code text v (inr (none, e)) = subst IsCodeIf (sym e) (inl refl)

pub code_of : (text : List ℕ) (r : Result ClientMessage Refused) → HasVerdict (SaysObject text) r → IfErr r IsRefusal
code_of text (Ok m) h = tt
code_of text (Err (Code c)) h = object_code text (Err c) h
code_of text (Err Memory) h = tt

-- ---- good messages

abbrev IsGoodIf : Verdict → Type 0
IsGoodIf (Ok m) = IsGoodMessage m
IsGoodIf (Err c) = Unit {0}

-- what the shape of a client event tells
abbrev Shows : ClientMessage → Type 0
Shows (Say c e b) = (1 ≤ length e) × IsJsonText b
Shows _ = Unit {0}

good_name : (c : List ℕ) (a d : Option (List ℕ)) (b : Bool) → b ≡ is_subscribable c → IsGoodIf (if b then Ok (Subscribe c a d) else Err INVALID_CHANNEL_NAME)
good_name c a d true e = sym e
good_name c a d false e = tt

good_leave : (c : List ℕ) (b : Bool) → b ≡ is_subscribable c → IsGoodIf (if b then Ok (Unsubscribe c) else Err INVALID_CHANNEL_NAME)
good_leave c true e = sym e
good_leave c false e = tt

good_length : (e : List ℕ) (x : Bool) → 1 ≤ length e → false ≡ (nat_lt LONGEST_EVENT (length e) || x) → is_event_name e ≡ true
good_length e x le h = grind (arith, nat_tests)

good_say : (c e b : List ℕ) (good long : Bool) → good ≡ is_good_name c → long ≡ (nat_lt LONGEST_EVENT (length e) || nat_lt LONGEST_BODY (length b)) → Shows (Say c e b) → IsGoodIf (if not good then Err INVALID_CHANNEL_NAME else (if long then Err MESSAGE_TOO_LONG else Ok (Say c e b)))
good_say c e b false long f g h = tt
good_say c e b true true f g h = tt
good_say c e b true false f g h = (sym f, good_length e (nat_lt LONGEST_BODY (length b)) h.0 g, h.1)

checked_good : (m : ClientMessage) → Shows m → IsGoodIf (checked m)
checked_good Ping h = tt
checked_good Pong h = tt
checked_good (Subscribe c a d) h = good_name c a d (is_subscribable c) refl
checked_good (Unsubscribe c) h = good_leave c (is_subscribable c) refl
checked_good (SignIn a u) h = tt
checked_good (Say c e b) h = good_say c e b (is_good_name c) (nat_lt LONGEST_EVENT (length e) || nat_lt LONGEST_BODY (length b)) refl refl h

shaped_good : (P : ClientMessage → Type 0) → ((m : ClientMessage) → P m → Shows m) → (v : Verdict) → Shaped P v → IsGoodIf v
shaped_good P f v (inl (m, s, e)) = subst IsGoodIf (sym e) (checked_good m (f m s))
shaped_good P f v (inr (none, e)) = subst IsGoodIf (sym e) tt

subscribe_shows : (text : List ℕ) (ms : Members) (m : ClientMessage) → SubscribeShape text ms m → Shows m
subscribe_shows text ms Ping h = tt
subscribe_shows text ms Pong h = tt
subscribe_shows text ms (Subscribe c a d) h = tt
subscribe_shows text ms (Unsubscribe c) h = tt
subscribe_shows text ms (SignIn a u) h = tt
subscribe_shows text ms (Say c e b) h = absurd h

unsubscribe_shows : (text : List ℕ) (ms : Members) (m : ClientMessage) → UnsubscribeShape text ms m → Shows m
unsubscribe_shows text ms Ping h = tt
unsubscribe_shows text ms Pong h = tt
unsubscribe_shows text ms (Subscribe c a d) h = tt
unsubscribe_shows text ms (Unsubscribe c) h = tt
unsubscribe_shows text ms (SignIn a u) h = tt
unsubscribe_shows text ms (Say c e b) h = absurd h

sign_in_shows : (text : List ℕ) (ms : Members) (m : ClientMessage) → SignInShape text ms m → Shows m
sign_in_shows text ms Ping h = tt
sign_in_shows text ms Pong h = tt
sign_in_shows text ms (Subscribe c a d) h = tt
sign_in_shows text ms (Unsubscribe c) h = tt
sign_in_shows text ms (SignIn a u) h = tt
sign_in_shows text ms (Say c e b) h = absurd h

client_long : (name : List ℕ) → client ≡ event_of name → 1 ≤ length name
client_long [] e = absurd (cc)
client_long (x ∷ name) e = omega arith

say_shows : (name text : List ℕ) (ms : Members) → client ≡ event_of name → IsObjectText text ms → (m : ClientMessage) → SayShape name text ms m → Shows m
say_shows name text ms e object Ping h = tt
say_shows name text ms e object Pong h = tt
say_shows name text ms e object (Subscribe c a d) h = tt
say_shows name text ms e object (Unsubscribe c) h = tt
say_shows name text ms e object (SignIn a u) h = tt
say_shows name text ms e object (Say c x b) (same, hc, hb) = (subst (λ (y : List ℕ). 1 ≤ length y) (sym same) (client_long name e), spelled_json text (codes "data") ms b object hb)

event_good : (ev : ClientEvent) (name text : List ℕ) (ms : Members) (v : Verdict) → ev ≡ event_of name → IsObjectText text ms → SaysEvent ev name text ms v → IsGoodIf v
event_good ping name text ms v e object h = subst IsGoodIf (sym h) tt
event_good pong name text ms v e object h = subst IsGoodIf (sym h) tt
event_good subscribe name text ms v e object h = shaped_good (SubscribeShape text ms) (subscribe_shows text ms) v h
event_good unsubscribe name text ms v e object h = shaped_good (UnsubscribeShape text ms) (unsubscribe_shows text ms) v h
event_good sign_in name text ms v e object h = shaped_good (SignInShape text ms) (sign_in_shows text ms) v h
event_good client name text ms v e object h = shaped_good (SayShape name text ms) (say_shows name text ms e object) v h
event_good unknown name text ms v e object h = subst IsGoodIf (sym h) tt

object_good : (text : List ℕ) (v : Verdict) → SaysObject text v → IsGoodIf v
object_good text v (inl (ms, name, ev, h)) = event_good (event_of name) name text ms v refl ev.spelled h
object_good text v (inr (none, e)) = subst IsGoodIf (sym e) tt

pub good_of : (text : List ℕ) (r : Result ClientMessage Refused) → HasVerdict (SaysObject text) r → IfOk r IsGoodMessage
good_of text (Ok m) h = object_good text (Ok m) h
good_of text (Err e) h = tt
