-- What is held after an entry, and what is made by it: all of it, and of one channel.
use Rattle.std.proofs.Common.{◌≡◌, ℕ, ◌+◌, Bool, true, false, not, ◌||◌, cond, List, [], ◌∷◌, ◌++◌, Option, Some, None, filter, filter_map, map, bytes_eq, nat_le, refl, ap, ap₂, sym, ◌∙◌, append-nil, arith}
use Rattle.std.specs.List.{list_any, cons_option}
use Rattle.std.proofs.lemmas.Bool.Decides.{nat_tests}
use Rattle.std.proofs.lemmas.List.Elements.{filter-append, filter_map-append}
use Rattle.ch_base.specs.Growth.{entry}
use Rattle.ch_base.specs.declared.channel.ChanCall.TheVariants.{TakeHooks}
use Rattle.ch_base.specs.declared.channel.ChanAnswer.{ChanAnswer}
use Rattle.ch_base.specs.declared.webhook.Hook.{Hook}
use Rattle.ch_base.specs.declared.webhook.Hook.TheVariants as hook
use Rattle.ch_history.specs.declared.limits.TheConstants.{HELD_FOR}
use Rattle.ch_history.specs.declared.rows.HeldNotice.{HeldNotice}
use Rattle.ch_history.specs.Entries.{ChanHistory}
use Rattle.ch_history.specs.OpenRows.{is_empty}
use Rattle.ch_history.specs.Clock.{clock_with, clock}
use Rattle.ch_history.specs.Webhooks.{events_at}
use Rattle.ch_history.specs.Held.{is_due, due, not_due, has_notice, vacated_events, is_occupied_event, new_notice, held_after, is_passed_on, hooks_after, held, hooks}
use Rattle.ch_history.specs.Pending.{since_take, pending}
use Rattle.ch_history.specs.Laws.{occupancy}
use Rattle.ch_history.proofs.Lists.{filter-swap}
use Rattle.ch_history.proofs.Texts.{same_text}
use Rattle.ch_history.proofs.Steps.{steps_induction}
use Rattle.ch_history.proofs.Push.{clock-push, held-push}

-- What is due

-- what is held from a moment on isn't due then
due-new : (now : ℕ) (events : List Hook) → due now (filter_map (new_notice now) events) ≡ []
due-new now [] = refl
due-new now (hook.Vacated c ∷ events) =
    let fresh : nat_le (now + HELD_FOR) now ≡ false = grind (arith, nat_tests) in
    ap (λ b. cond b (record { channel = c; since = now } ∷ due now (filter_map (new_notice now) events)) (due now (filter_map (new_notice now) events))) fresh
    ∙ due-new now events
due-new now (hook.Occupied c ∷ events) = due-new now events
due-new now (hook.Added c id ∷ events) = due-new now events
due-new now (hook.Removed c id ∷ events) = due-new now events
due-new now (hook.Client c event body socket id ∷ events) = due-new now events
due-new now (hook.Miss c ∷ events) = due-new now events

filter-not : {X : Type 0} (p : X → Bool) (xs : List X) → filter p (filter (λ x. not (p x)) xs) ≡ []
filter-not p [] = refl
filter-not p (x ∷ xs) =
    (elim (p x) as (λ b. p x ≡ b → filter p (cond (not b) (x ∷ filter (λ x. not (p x)) xs) (filter (λ x. not (p x)) xs)) ≡ []) [
      | true ↦ (λ is. filter-not p xs)
      | false ↦ (λ is. ap (λ b. cond b (x ∷ filter p (filter (λ x. not (p x)) xs)) (filter p (filter (λ x. not (p x)) xs))) is ∙ filter-not p xs)
    ]) refl

-- after a step at a moment nothing is due then
pub due-after : (now : ℕ) (events : List Hook) (notices : List HeldNotice) → due now (held_after now events notices) ≡ []
due-after now events notices =
    let stays : HeldNotice → Bool = λ notice. not (list_any (is_occupied_event notice.channel) events) in
    filter-append (is_due now) (filter stays (not_due now notices)) (filter_map (new_notice now) events)
    ∙ ap₂ ◌++◌ (filter-swap (is_due now) stays (not_due now notices) ∙ ap (filter stays) (filter-not (is_due now) notices)) (due-new now events)

-- at the clock of a history nothing is due: a call without a moment releases nothing
pub due-held : (h : ChanHistory) → due (clock h) (held h) ≡ []
due-held h =
    steps_induction (λ g. due (clock g) (held g) ≡ []) refl
    (λ g e so. ap₂ due (clock-push g e) (held-push g e) ∙ due-after (clock_with (clock g) e.call) (events_at g e) (held g)) h

-- What a TakeHooks takes

-- what is pending at a TakeHooks is what was made since the last one and what this one makes
pub pending-take : (h : ChanHistory) (w at : ℕ) (a : ChanAnswer) → pending h (TakeHooks at) ≡ since_take h ++ hooks h (entry w (TakeHooks at) a)
pending-take h w at a = ap (λ ks. since_take h ++ ks) (sym (append-nil (vacated_events (due (clock_with (clock h) (TakeHooks at)) (held h)))))

-- Events that aren't about whether a channel is occupied

-- f says nothing of an event that isn't passed on, and nothing of a vacated notice: the events that are made say what all say
pub hooks-silent : {A : Type 0} (f : Hook → Option A) (now : ℕ) (events : List Hook) (notices : List HeldNotice) → ((c : List ℕ) → f (hook.Vacated c) ≡ None) → ((c : List ℕ) → f (hook.Occupied c) ≡ None)
    → filter_map f (hooks_after now events notices) ≡ filter_map f events
hooks-silent f now events notices vacated occupied =
    filter_map-append f (vacated_events (due now notices)) (filter (is_passed_on (not_due now notices)) events)
    ∙ ap₂ ◌++◌ (none_of (due now notices)) (rest (not_due now notices) events)
  where
    none_of : (ns : List HeldNotice) → filter_map f (vacated_events ns) ≡ []
    none_of [] = refl
    none_of (n ∷ ns) = ap (λ o. cons_option o (filter_map f (vacated_events ns))) (vacated n.channel) ∙ none_of ns

    rest : (ns : List HeldNotice) (ks : List Hook) → filter_map f (filter (is_passed_on ns) ks) ≡ filter_map f ks
    rest ns [] = refl
    rest ns (hook.Vacated c ∷ ks) = rest ns ks ∙ sym (ap (λ o. cons_option o (filter_map f ks)) (vacated c))
    rest ns (hook.Occupied c ∷ ks) =
        elim (not (has_notice ns c)) as (λ b. filter_map f (cond b (hook.Occupied c ∷ filter (is_passed_on ns) ks) (filter (is_passed_on ns) ks)) ≡ cons_option (f (hook.Occupied c)) (filter_map f ks)) [
          | true ↦ ap (cons_option (f (hook.Occupied c))) (rest ns ks)
          | false ↦ rest ns ks ∙ sym (ap (λ o. cons_option o (filter_map f ks)) (occupied c))
        ]
    rest ns (hook.Added c id ∷ ks) = ap (cons_option (f (hook.Added c id))) (rest ns ks)
    rest ns (hook.Removed c id ∷ ks) = ap (cons_option (f (hook.Removed c id))) (rest ns ks)
    rest ns (hook.Client c event body socket id ∷ ks) = ap (cons_option (f (hook.Client c event body socket id))) (rest ns ks)
    rest ns (hook.Miss c ∷ ks) = ap (cons_option (f (hook.Miss c))) (rest ns ks)

-- One channel: what is held and what is made of it, by what the events say of it

abbrev pub notices_of : List ℕ → List HeldNotice → List HeldNotice
notices_of c notices = filter (λ notice. bytes_eq notice.channel c) notices

-- what the events say of the channel
abbrev pub marks : List ℕ → List Hook → List Bool
marks c events = filter_map (occupancy c) events

-- that it is occupied
abbrev pub arrivals : List Bool → List Bool
arrivals said = filter (λ b. b) said

-- that it is vacated
abbrev pub departures : List Bool → List Bool
departures said = filter not said

-- the notices of the channel after these marks
abbrev pub notices_after : List ℕ → ℕ → List Bool → List HeldNotice → List HeldNotice
notices_after c now said its =
    cond (is_empty (arrivals said)) (not_due now its) [] ++ map (λ b. record { channel = c; since = now }) (departures said)

-- the marks of what is made
abbrev pub marks_after : ℕ → List Bool → List HeldNotice → List Bool
marks_after now said its = map (λ n. false) (due now its) ++ cond (is_empty (not_due now its)) (arrivals said) []

any_arrival : (c : List ℕ) (events : List Hook) → list_any (is_occupied_event c) events ≡ not (is_empty (arrivals (marks c events)))
any_arrival c [] = refl
any_arrival c (hook.Occupied d ∷ events) =
    elim (bytes_eq d c) as (λ b. (b || list_any (is_occupied_event c) events) ≡ not (is_empty (arrivals (cons_option (cond b (Some true) None) (marks c events))))) [
      | true ↦ refl
      | false ↦ any_arrival c events
    ]
any_arrival c (hook.Vacated d ∷ events) =
    elim (bytes_eq d c) as (λ b. list_any (is_occupied_event c) events ≡ not (is_empty (arrivals (cons_option (cond b (Some false) None) (marks c events))))) [
      | true ↦ any_arrival c events
      | false ↦ any_arrival c events
    ]
any_arrival c (hook.Added d id ∷ events) = any_arrival c events
any_arrival c (hook.Removed d id ∷ events) = any_arrival c events
any_arrival c (hook.Client d event body socket id ∷ events) = any_arrival c events
any_arrival c (hook.Miss d ∷ events) = any_arrival c events

has_notice-of : (c : List ℕ) (ns : List HeldNotice) → has_notice ns c ≡ not (is_empty (notices_of c ns))
has_notice-of c [] = refl
has_notice-of c (n ∷ ns) =
    elim (bytes_eq n.channel c) as (λ b. (b || has_notice ns c) ≡ not (is_empty (cond b (n ∷ notices_of c ns) (notices_of c ns)))) [
      | true ↦ refl
      | false ↦ has_notice-of c ns
    ]

stay-of : (c : List ℕ) (events : List Hook) (ns : List HeldNotice)
    → notices_of c (filter (λ notice. not (list_any (is_occupied_event notice.channel) events)) ns) ≡ cond (list_any (is_occupied_event c) events) [] (notices_of c ns)
stay-of c events [] = elim (list_any (is_occupied_event c) events) as (λ b. [] ≡ cond {A = List HeldNotice} b [] []) [ true ↦ refl | false ↦ refl ]
stay-of c events (n ∷ ns) =
    let stays : HeldNotice → Bool = λ notice. not (list_any (is_occupied_event notice.channel) events) in
    let there : Bool = list_any (is_occupied_event c) events in
    (elim (bytes_eq n.channel c) as (λ b. bytes_eq n.channel c ≡ b → notices_of c (cond (stays n) (n ∷ filter stays ns) (filter stays ns)) ≡ cond there [] (cond b (n ∷ notices_of c ns) (notices_of c ns))) [
      | true ↦ (λ is.
          ap (λ d. notices_of c (cond (not (list_any (is_occupied_event d) events)) (n ∷ filter stays ns) (filter stays ns))) (same_text n.channel c is)
          ∙ (elim there as (λ t. notices_of c (filter stays ns) ≡ cond t [] (notices_of c ns) → notices_of c (cond (not t) (n ∷ filter stays ns) (filter stays ns)) ≡ cond t [] (n ∷ notices_of c ns)) [
            | true ↦ (λ so. so)
            | false ↦ (λ so. ap (λ b. cond b (n ∷ notices_of c (filter stays ns)) (notices_of c (filter stays ns))) is ∙ ap (λ zs. n ∷ zs) so)
          ]) (stay-of c events ns))
      | false ↦ (λ other. (elim (stays n) as (λ s. notices_of c (cond s (n ∷ filter stays ns) (filter stays ns)) ≡ notices_of c (filter stays ns)) [
        | true ↦ ap (λ b. cond b (n ∷ notices_of c (filter stays ns)) (notices_of c (filter stays ns))) other
        | false ↦ refl
      ]) ∙ stay-of c events ns)
    ]) refl

new-of : (c : List ℕ) (now : ℕ) (events : List Hook) → notices_of c (filter_map (new_notice now) events) ≡ map (λ b. record { channel = c; since = now }) (departures (marks c events))
new-of c now [] = refl
new-of c now (hook.Vacated d ∷ events) =
    let rest : List HeldNotice = filter_map (new_notice now) events in
    (elim (bytes_eq d c) as (λ b. bytes_eq d c ≡ b → cond b (record { channel = d; since = now } ∷ notices_of c rest) (notices_of c rest) ≡ map (λ b. record { channel = c; since = now }) (departures (cons_option (cond b (Some false) None) (marks c events)))) [
      | true ↦ (λ is. ap₂ (λ x zs. record { channel = x; since = now } ∷ zs) (same_text d c is) (new-of c now events))
      | false ↦ (λ other. new-of c now events)
    ]) refl
new-of c now (hook.Occupied d ∷ events) =
    elim (bytes_eq d c) as (λ b. notices_of c (filter_map (new_notice now) events) ≡ map (λ b. record { channel = c; since = now }) (departures (cons_option (cond b (Some true) None) (marks c events)))) [
      | true ↦ new-of c now events
      | false ↦ new-of c now events
    ]
new-of c now (hook.Added d id ∷ events) = new-of c now events
new-of c now (hook.Removed d id ∷ events) = new-of c now events
new-of c now (hook.Client d event body socket id ∷ events) = new-of c now events
new-of c now (hook.Miss d ∷ events) = new-of c now events

cond-not : {A : Type 0} (b : Bool) (x y : A) → cond (not b) x y ≡ cond b y x
cond-not true x y = refl
cond-not false x y = refl

-- what is held of the channel after the events
pub held-of : (c : List ℕ) (now : ℕ) (events : List Hook) (ns : List HeldNotice) → notices_of c (held_after now events ns) ≡ notices_after c now (marks c events) (notices_of c ns)
held-of c now events ns =
    filter-append (λ notice. bytes_eq notice.channel c) (filter (λ notice. not (list_any (is_occupied_event notice.channel) events)) (not_due now ns)) (filter_map (new_notice now) events)
    ∙ ap₂ ◌++◌
    (stay-of c events (not_due now ns)
    ∙ ap₂ (λ b zs. cond b [] zs) (any_arrival c events) (filter-swap (λ notice. bytes_eq notice.channel c) (λ notice. not (is_due now notice)) ns)
    ∙ cond-not (is_empty (arrivals (marks c events))) [] (not_due now (notices_of c ns)))
    (new-of c now events)

vacated-of : (c : List ℕ) (ns : List HeldNotice) → marks c (vacated_events ns) ≡ map (λ n. false) (notices_of c ns)
vacated-of c [] = refl
vacated-of c (n ∷ ns) =
    elim (bytes_eq n.channel c) as (λ b. cons_option (cond b (Some false) None) (marks c (vacated_events ns)) ≡ map (λ n. false) (cond b (n ∷ notices_of c ns) (notices_of c ns))) [
      | true ↦ ap (λ zs. false ∷ zs) (vacated-of c ns)
      | false ↦ vacated-of c ns
    ]

passed-of : (c : List ℕ) (ns : List HeldNotice) (events : List Hook) → marks c (filter (is_passed_on ns) events) ≡ cond (has_notice ns c) [] (arrivals (marks c events))
passed-of c ns [] = elim (has_notice ns c) as (λ b. [] ≡ cond {A = List Bool} b [] []) [ true ↦ refl | false ↦ refl ]
passed-of c ns (hook.Occupied d ∷ events) =
    let rest : List Hook = filter (is_passed_on ns) events in
    (elim (bytes_eq d c) as (λ b. bytes_eq d c ≡ b → marks c (cond (not (has_notice ns d)) (hook.Occupied d ∷ rest) rest) ≡ cond (has_notice ns c) [] (arrivals (cons_option (cond b (Some true) None) (marks c events)))) [
      | true ↦ (λ is.
          ap (λ x. marks c (cond (not (has_notice ns x)) (hook.Occupied d ∷ rest) rest)) (same_text d c is)
          ∙ (elim (has_notice ns c) as (λ t. marks c rest ≡ cond t [] (arrivals (marks c events)) → marks c (cond (not t) (hook.Occupied d ∷ rest) rest) ≡ cond t [] (true ∷ arrivals (marks c events))) [
            | true ↦ (λ so. so)
            | false ↦ (λ so. ap (λ b. cons_option (cond b (Some true) None) (marks c rest)) is ∙ ap (λ zs. true ∷ zs) so)
          ]) (passed-of c ns events))
      | false ↦ (λ other. (elim (not (has_notice ns d)) as (λ s. marks c (cond s (hook.Occupied d ∷ rest) rest) ≡ marks c rest) [
        | true ↦ ap (λ b. cons_option (cond b (Some true) None) (marks c rest)) other
        | false ↦ refl
      ]) ∙ passed-of c ns events)
    ]) refl
passed-of c ns (hook.Vacated d ∷ events) =
    passed-of c ns events
    ∙ ap (λ zs. cond (has_notice ns c) [] zs) (elim (bytes_eq d c) as (λ b. arrivals (marks c events) ≡ arrivals (cons_option (cond b (Some false) None) (marks c events))) [ true ↦ refl | false ↦ refl ])
passed-of c ns (hook.Added d id ∷ events) = passed-of c ns events
passed-of c ns (hook.Removed d id ∷ events) = passed-of c ns events
passed-of c ns (hook.Client d event body socket id ∷ events) = passed-of c ns events
passed-of c ns (hook.Miss d ∷ events) = passed-of c ns events

-- the marks of what is made
pub made-of : (c : List ℕ) (now : ℕ) (events : List Hook) (ns : List HeldNotice) → marks c (hooks_after now events ns) ≡ marks_after now (marks c events) (notices_of c ns)
made-of c now events ns =
    filter_map-append (occupancy c) (vacated_events (due now ns)) (filter (is_passed_on (not_due now ns)) events)
    ∙ ap₂ ◌++◌
    (vacated-of c (due now ns) ∙ ap (map (λ n. false)) (filter-swap (λ notice. bytes_eq notice.channel c) (is_due now) ns))
    (passed-of c (not_due now ns) events
    ∙ ap (λ b. cond b [] (arrivals (marks c events))) (has_notice-of c (not_due now ns) ∙ ap (λ zs. not (is_empty zs)) (filter-swap (λ notice. bytes_eq notice.channel c) (λ notice. not (is_due now notice)) ns))
    ∙ cond-not (is_empty (not_due now (notices_of c ns))) [] (arrivals (marks c events)))

-- whether the channel's notice is held
pub is_held-of : (h : ChanHistory) (c : List ℕ) → has_notice (held h) c ≡ not (is_empty (notices_of c (held h)))
is_held-of h c = has_notice-of c (held h)
