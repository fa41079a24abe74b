-- Each printed frame is an object whose first member is its event.
use Rattle.std.proofs.Common.{◌≡◌, ℕ, ◌<◌, ◌^◌, List, [], ◌∷◌, ◌++◌, append_assoc, Bool, refl, subst, Some, arith}
use Rattle.std.specs.Prelude.{None, codes}
use Rattle.std.specs.Fmt.{decimal}
use Rattle.std.specs.Cmp.Lexicographic.{other_text}
use Rattle.ch_base.specs.Escape.{escaped_byte, quoted}
use Rattle.ch_base.specs.declared.frame.Frame.{Frame}
use Rattle.ch_base.specs.declared.frame.Frame.TheVariants.{Opened, Error, Ping, Pong, Succeeded, Present, Added, Removed, Event, Miss, SignedIn, Watch, Kill}
use Rattle.ch_base.specs.declared.error_codes.TheConstants.{UNAUTHORIZED}
use Rattle.ch_base.specs.ErrorTexts.{error_text}
use Rattle.ch_base.specs.Events.{connection_event, channel_event, member_event, bare_event}
use Rattle.ch_base.specs.PresenceData.{roster, member_added_data, member_removed_data}
use Rattle.ch_base.specs.Printed.{printed, established_data, presence_word, watchlist_change}
use Rattle.ch_frames.specs.PrintedFrames.{event_name, IsPrintable, IsEventObject}
use Rattle.ch_frames.proofs.ObjectTexts.{IsValueText, value_text, quoted_text, Field, rest, AreFields, AreOthers, object_text, object_spelled, first_string}
use Rattle.ch_frames.proofs.ValueTexts.{decimal_text, single_spelled, empty_object}

-- the text of these members behind the event
abbrev event_text : List ℕ → List Field → List ℕ
event_text event fs = object_text (codes "event", quoted event) fs

told : (event : List ℕ) (fs : List Field) → AreFields 63 fs → AreOthers (codes "event") fs → IsEventObject (event_text event fs) event
told event fs h k = let r = first_string (codes "event") event fs h k in record { members = r.0; object = r.1; event = r.2 }

-- ---- texts that are put together from pieces

three : (a b c : List ℕ) → a ++ (b ++ c) ≡ a ++ b ++ c
three a b c = simp append_assoc

five : (a b c d e : List ℕ) → a ++ (b ++ (c ++ (d ++ e))) ≡ a ++ b ++ c ++ d ++ e
five a b c d e = simp append_assoc

seven : (a b c d e f g : List ℕ) → a ++ (b ++ (c ++ (d ++ (e ++ (f ++ g))))) ≡ a ++ b ++ c ++ d ++ e ++ f ++ g
seven a b c d e f g = simp append_assoc

nine : (a b c d e f g h i : List ℕ) → a ++ (b ++ (c ++ (d ++ (e ++ (f ++ (g ++ (h ++ i))))))) ≡ a ++ b ++ c ++ d ++ e ++ f ++ g ++ h ++ i
nine a b c d e f g h i = simp append_assoc

nested : (a b word c id s t : List ℕ) → a ++ (((b ++ (word ++ (c ++ ((id ++ s) ++ t)))) ++ s) ++ t) ≡ (a ++ b) ++ word ++ c ++ id ++ (s ++ (t ++ (s ++ t)))
nested a b word c id s t = simp append_assoc

-- ---- the shapes of events

connection_same : (event body : List ℕ) → event_text event ((codes "data", body) ∷ []) ≡ connection_event event body
unfolding quoted escaped_byte object_text rest
connection_same event body = five (codes "{\"event\":") (quoted event) (codes ",\"data\":") body (codes "}")

channel_same : (event channel body : List ℕ) → event_text event ((codes "channel", quoted channel) ∷ (codes "data", body) ∷ []) ≡ channel_event event channel body
unfolding quoted escaped_byte object_text rest
channel_same event channel body = seven (codes "{\"event\":") (quoted event) (codes ",\"channel\":") (quoted channel) (codes ",\"data\":") body (codes "}")

member_same : (event channel body user_id : List ℕ) → event_text event ((codes "channel", quoted channel) ∷ (codes "data", body) ∷ (codes "user_id", quoted user_id) ∷ []) ≡ member_event event channel body user_id
unfolding quoted escaped_byte object_text rest
member_same event channel body user_id =
    nine (codes "{\"event\":") (quoted event) (codes ",\"channel\":") (quoted channel) (codes ",\"data\":") body (codes ",\"user_id\":") (quoted user_id) (codes "}")

bare_same : (event channel : List ℕ) → event_text event ((codes "channel", quoted channel) ∷ []) ≡ bare_event event channel
unfolding quoted escaped_byte object_text rest
bare_same event channel = five (codes "{\"event\":") (quoted event) (codes ",\"channel\":") (quoted channel) (codes "}")

connection_told : (event body : List ℕ) → IsValueText 63 body → IsEventObject (connection_event event body) event
connection_told event body h =
    subst (λ (t : List ℕ). IsEventObject t event) (connection_same event body)
    (told event ((codes "data", body) ∷ []) (h, tt) (λ e. other_text (codes "data") (codes "event") refl e, tt))

channel_told : (event channel body : List ℕ) → IsValueText 63 body → IsEventObject (channel_event event channel body) event
channel_told event channel body h =
    subst (λ (t : List ℕ). IsEventObject t event) (channel_same event channel body)
    (told event ((codes "channel", quoted channel) ∷ (codes "data", body) ∷ []) (quoted_text 63 channel, (h, tt))
    (λ e. other_text (codes "channel") (codes "event") refl e, (λ e. other_text (codes "data") (codes "event") refl e, tt)))

member_told : (event channel body user_id : List ℕ) → IsValueText 63 body → IsEventObject (member_event event channel body user_id) event
member_told event channel body user_id h =
    subst (λ (t : List ℕ). IsEventObject t event) (member_same event channel body user_id)
    (told event ((codes "channel", quoted channel) ∷ (codes "data", body) ∷ (codes "user_id", quoted user_id) ∷ []) (quoted_text 63 channel, (h, (quoted_text 63 user_id, tt)))
    (λ e. other_text (codes "channel") (codes "event") refl e, (λ e. other_text (codes "data") (codes "event") refl e, (λ e. other_text (codes "user_id") (codes "event") refl e, tt))))

bare_told : (event channel : List ℕ) → IsEventObject (bare_event event channel) event
bare_told event channel =
    subst (λ (t : List ℕ). IsEventObject t event) (bare_same event channel)
    (told event ((codes "channel", quoted channel) ∷ []) (quoted_text 63 channel, tt) (λ e. other_text (codes "channel") (codes "event") refl e, tt))

-- ---- the bodies that are objects

abbrev error_text_of : ℕ → List ℕ
error_text_of code = codes "{\"message\":" ++ quoted (error_text code) ++ codes ",\"code\":" ++ decimal code ++ codes "}"

error_same : (message number : List ℕ) → object_text (codes "message", quoted message) ((codes "code", number) ∷ []) ≡ codes "{\"message\":" ++ quoted message ++ codes ",\"code\":" ++ number ++ codes "}"
unfolding quoted escaped_byte object_text rest
error_same message number = five (codes "{\"message\":") (quoted message) (codes ",\"code\":") number (codes "}")

error_body : (code : ℕ) → code < 2 ^ 16 → IsValueText 63 (error_text_of code)
error_body code lt =
    let small : code < 2 ^ 64 = omega arith in
    let o = object_spelled 62 (codes "message", quoted (error_text code)) ((codes "code", decimal code) ∷ []) (quoted_text 62 (error_text code)) (decimal_text 62 code small, tt) in
    subst (IsValueText 63) (error_same (error_text code) (decimal code)) (value_text 63 (object_text (codes "message", quoted (error_text code)) ((codes "code", decimal code) ∷ [])) o.0 o.1)

signed_in_same : (user_data : List ℕ) → object_text (codes "user_data", quoted user_data) [] ≡ codes "{\"user_data\":" ++ quoted user_data ++ codes "}"
unfolding quoted escaped_byte object_text rest
signed_in_same user_data = three (codes "{\"user_data\":") (quoted user_data) (codes "}")

signed_in_body : (user_data : List ℕ) → IsValueText 63 (codes "{\"user_data\":" ++ quoted user_data ++ codes "}")
signed_in_body user_data =
    let o = object_spelled 62 (codes "user_data", quoted user_data) [] (quoted_text 62 user_data) tt in
    subst (IsValueText 63) (signed_in_same user_data) (value_text 63 (object_text (codes "user_data", quoted user_data) []) o.0 o.1)

abbrev ids_text : List ℕ → List ℕ
ids_text user_id = 91 ∷ (quoted user_id ++ 93 ∷ [])

abbrev one_change : List ℕ → List ℕ → List ℕ
one_change word user_id = object_text (codes "name", quoted word) ((codes "user_ids", ids_text user_id) ∷ [])

abbrev changes : List ℕ → List ℕ → List ℕ
changes word user_id = 91 ∷ (one_change word user_id ++ 93 ∷ [])

change_same : (word user_id : List ℕ) → object_text (codes "events", changes word user_id) [] ≡ codes "{\"events\":[{\"name\":" ++ quoted word ++ codes ",\"user_ids\":[" ++ quoted user_id ++ codes "]}]}"
unfolding quoted escaped_byte object_text rest
change_same word user_id = nested (codes "{\"events\":[") (codes "{\"name\":") (quoted word) (codes ",\"user_ids\":[") (quoted user_id) (codes "]") (codes "}")

change_body : (online : Bool) (user_id : List ℕ) → IsValueText 63 (watchlist_change online user_id)
change_body online user_id =
    let word : List ℕ = presence_word online in
    let ids = single_spelled 59 (quoted user_id) (quoted_text 59 user_id) in
    let one = object_spelled 60 (codes "name", quoted word) ((codes "user_ids", ids_text user_id) ∷ []) (quoted_text 60 word) (value_text 60 (ids_text user_id) ids.0 ids.1, tt) in
    let list = single_spelled 61 (one_change word user_id) (value_text 61 (one_change word user_id) one.0 one.1) in
    let all = object_spelled 62 (codes "events", changes word user_id) [] (value_text 62 (changes word user_id) list.0 list.1) tt in
    subst (IsValueText 63) (change_same word user_id) (value_text 63 (object_text (codes "events", changes word user_id) []) all.0 all.1)

-- ---- all

pub printed_object : (frame : Frame) (start : ℕ) → IsPrintable frame → IsEventObject (printed frame start) (event_name frame)
printed_object (Opened number) start h = connection_told (codes "pusher:connection_established") (quoted (established_data number start)) (quoted_text 63 (established_data number start))
printed_object (Error code) start h = connection_told (codes "pusher:error") (error_text_of code) (error_body code h)
printed_object Ping start h = connection_told (codes "pusher:ping") (codes "{}") empty_object
printed_object Pong start h = connection_told (codes "pusher:pong") (codes "{}") empty_object
printed_object (Succeeded channel) start h = channel_told (codes "pusher_internal:subscription_succeeded") channel (quoted (codes "{}")) (quoted_text 63 (codes "{}"))
printed_object (Present channel rows) start h = channel_told (codes "pusher_internal:subscription_succeeded") channel (quoted (roster rows)) (quoted_text 63 (roster rows))
printed_object (Added channel member) start h = channel_told (codes "pusher_internal:member_added") channel (quoted (member_added_data member)) (quoted_text 63 (member_added_data member))
printed_object (Removed channel user_id) start h = channel_told (codes "pusher_internal:member_removed") channel (quoted (member_removed_data user_id)) (quoted_text 63 (member_removed_data user_id))
printed_object (Event channel event body None) start (v, h) = channel_told event channel body (value_text 63 body v h)
printed_object (Event channel event body (Some user_id)) start (v, h) = member_told event channel body user_id (value_text 63 body v h)
printed_object (Miss channel) start h = bare_told (codes "pusher:cache_miss") channel
printed_object (SignedIn user_data) start h = connection_told (codes "pusher:signin_success") (codes "{\"user_data\":" ++ quoted user_data ++ codes "}") (signed_in_body user_data)
printed_object (Watch online user_id) start h = connection_told (codes "pusher_internal:watchlist_events") (watchlist_change online user_id) (change_body online user_id)
printed_object Kill start h = connection_told (codes "pusher:error") (error_text_of UNAUTHORIZED) (error_body UNAUTHORIZED (omega arith))
