-- Events that are noted one after another make what the events of one call make.
use Rattle.std.proofs.Common.{◌≡◌, ℕ, Bool, true, false, not, ◌||◌, cond, List, [], ◌∷◌, ◌++◌, bytes_eq, filter, filter_map, refl, ap, ap₂, sym, ◌∙◌, append_assoc, append-nil}
use Rattle.std.specs.List.{list_any}
use Rattle.ch_base.specs.declared.webhook.Hook.{Hook}
use Rattle.ch_base.specs.declared.webhook.Hook.TheVariants as hook
use Rattle.ch_history.specs.declared.rows.HeldNotice.{HeldNotice}
use Rattle.ch_history.specs.Held.{due, not_due, vacated_events, is_occupied_event, new_notice, held_after, is_passed_on, hooks_after}
use Rattle.ch_history.proofs.Texts.{same_text, text_itself, other_text}
use Rattle.ch_hooklog.specs.HookLog.{without, held_with, logged_with, is_occupied, IsOfOneCall}
use Rattle.ch_hooklog.specs.Noting.{held_by, logged_by}

-- Without an Occupied

-- the notices of vacated channels are added
added : (now : ℕ) (events : List Hook) (ns : List HeldNotice) → list_any is_occupied events ≡ false → held_by now events ns ≡ ns ++ filter_map (new_notice now) events
added now [] ns none = sym (append-nil ns)
added now (hook.Occupied c ∷ events) ns none = cc
added now (hook.Vacated c ∷ events) ns none =
    let n : HeldNotice = record { channel = c; since = now } in
    added now events (ns ++ n ∷ []) none ∙ append_assoc ns (n ∷ []) (filter_map (new_notice now) events)
added now (hook.Added c id ∷ events) ns none = added now events ns none
added now (hook.Removed c id ∷ events) ns none = added now events ns none
added now (hook.Client c event body socket id ∷ events) ns none = added now events ns none
added now (hook.Miss c ∷ events) ns none = added now events ns none

-- and every event but those is passed on, whatever is held
passed : (now : ℕ) (events : List Hook) (ns ms : List HeldNotice) → list_any is_occupied events ≡ false → logged_by now events ns ≡ filter (is_passed_on ms) events
passed now [] ns ms none = refl
passed now (hook.Occupied c ∷ events) ns ms none = cc
passed now (hook.Vacated c ∷ events) ns ms none = passed now events (ns ++ record { channel = c; since = now } ∷ []) ms none
passed now (hook.Added c id ∷ events) ns ms none = ap (λ ks. hook.Added c id ∷ ks) (passed now events ns ms none)
passed now (hook.Removed c id ∷ events) ns ms none = ap (λ ks. hook.Removed c id ∷ ks) (passed now events ns ms none)
passed now (hook.Client c event body socket id ∷ events) ns ms none = ap (λ ks. hook.Client c event body socket id ∷ ks) (passed now events ns ms none)
passed now (hook.Miss c ∷ events) ns ms none = ap (λ ks. hook.Miss c ∷ ks) (passed now events ns ms none)

-- no channel is occupied by them
none_occupied : (c : List ℕ) (events : List Hook) → list_any is_occupied events ≡ false → list_any (is_occupied_event c) events ≡ false
none_occupied c [] none = refl
none_occupied c (hook.Occupied d ∷ events) none = cc
none_occupied c (hook.Vacated d ∷ events) none = none_occupied c events none
none_occupied c (hook.Added d id ∷ events) none = none_occupied c events none
none_occupied c (hook.Removed d id ∷ events) none = none_occupied c events none
none_occupied c (hook.Client d event body socket id ∷ events) none = none_occupied c events none
none_occupied c (hook.Miss d ∷ events) none = none_occupied c events none

-- a test with two forms
filter-same : {X : Type 0} (p q : X → Bool) (xs : List X) → ((x : X) → p x ≡ q x) → filter p xs ≡ filter q xs
filter-same p q [] same = refl
filter-same p q (x ∷ xs) same = ap₂ (λ b ys. cond b (x ∷ ys) ys) (same x) (filter-same p q xs same)

filter-all : {X : Type 0} (xs : List X) → filter (λ x. true) xs ≡ xs
filter-all [] = refl
filter-all (x ∷ xs) = ap (λ ys. x ∷ ys) (filter-all xs)

-- what stays where these are the only events on whether channels are occupied
stay-none : (events : List Hook) (ns : List HeldNotice) → list_any is_occupied events ≡ false → filter (λ n. not (list_any (is_occupied_event n.channel) events)) ns ≡ ns
stay-none events ns none = filter-same (λ n. not (list_any (is_occupied_event n.channel) events)) (λ n. true) ns (λ n. ap not (none_occupied n.channel events none)) ∙ filter-all ns

-- The events of one call

-- a text equals another as the other equals it
swapped : (x c : List ℕ) → bytes_eq x c ≡ bytes_eq c x
swapped x c =
    (elim (bytes_eq x c) as (λ b. bytes_eq x c ≡ b → b ≡ bytes_eq c x) [
      | true ↦ (λ is. sym (ap (λ y. bytes_eq c y) (same_text x c is) ∙ text_itself c))
      | false ↦ (λ is. sym (other_text x c is))
    ]) refl

one_more : {X : Type 0} (b : Bool) (x : X) (xs : List X) → cond b (x ∷ []) [] ++ xs ≡ cond b (x ∷ xs) xs
one_more true x xs = refl
one_more false x xs = refl

-- which notices an Occupied of c leaves, where the later events are of no occupied channel
leaves : (c : List ℕ) (events : List Hook) (ns : List HeldNotice) → list_any is_occupied events ≡ false → without ns c ≡ filter (λ n. not (list_any (is_occupied_event n.channel) (hook.Occupied c ∷ events))) ns
leaves c events ns none = filter-same (λ n. not (bytes_eq n.channel c)) (λ n. not (bytes_eq c n.channel || list_any (is_occupied_event n.channel) events)) ns
    (λ n. ap not (swapped n.channel c ∙ sym (ap (λ b. bytes_eq c n.channel || b) (none_occupied n.channel events none) ∙ or-false (bytes_eq c n.channel))))
  where
    or-false : (b : Bool) → (b || false) ≡ b
    or-false true = refl
    or-false false = refl

held-plain : (now : ℕ) (events : List Hook) (ns : List HeldNotice) → list_any is_occupied events ≡ false → held_by now events (not_due now ns) ≡ held_after now events ns
held-plain now events ns none =
    added now events (not_due now ns) none ∙ ap (λ ms. ms ++ filter_map (new_notice now) events) (sym (stay-none events (not_due now ns) none))

pub held-made : (now : ℕ) (events : List Hook) (ns : List HeldNotice) → IsOfOneCall events → held_by now events (not_due now ns) ≡ held_after now events ns
held-made now [] ns one = held-plain now [] ns refl
held-made now (hook.Occupied c ∷ events) ns one =
    added now events (without (not_due now ns) c) one
    ∙ ap (λ ms. ms ++ filter_map (new_notice now) events) (leaves c events (not_due now ns) one)
held-made now (hook.Vacated c ∷ events) ns one = held-plain now (hook.Vacated c ∷ events) ns one
held-made now (hook.Added c id ∷ events) ns one = held-plain now (hook.Added c id ∷ events) ns one
held-made now (hook.Removed c id ∷ events) ns one = held-plain now (hook.Removed c id ∷ events) ns one
held-made now (hook.Client c event body socket id ∷ events) ns one = held-plain now (hook.Client c event body socket id ∷ events) ns one
held-made now (hook.Miss c ∷ events) ns one = held-plain now (hook.Miss c ∷ events) ns one

-- what is logged of them where only the first may be an Occupied
logged-first : (now : ℕ) (events : List Hook) (ns : List HeldNotice) → IsOfOneCall events → logged_by now events ns ≡ filter (is_passed_on ns) events
logged-first now [] ns one = refl
logged-first now (event ∷ events) ns one =
    ap (λ ks. logged_with event ns ++ ks) (passed now events (held_with now event ns) ns one)
    ∙ one_more (is_passed_on ns event) event (filter (is_passed_on ns) events)

pub hooks-made : (now : ℕ) (events : List Hook) (ns : List HeldNotice) → IsOfOneCall events → vacated_events (due now ns) ++ logged_by now events (not_due now ns) ≡ hooks_after now events ns
hooks-made now events ns one = ap (λ ks. vacated_events (due now ns) ++ ks) (logged-first now events (not_due now ns) one)
