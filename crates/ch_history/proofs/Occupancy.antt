-- Occupied and Vacated of a channel alternate, and a channel whose vacated notice is held has no subscription.
use Rattle.std.proofs.Common.{◌≡◌, ℕ, ◌==◌, ◌≤◌, Bool, true, false, not, ◌||◌, cond, List, [], ◌∷◌, ◌++◌, Option, Some, None, length, map, refl, ap, ap₂, sym, ◌∙◌, subst, append-nil, arith}
use Rattle.std.specs.List.{cons_option}
use Rattle.std.proofs.lemmas.List.Elements.{filter_map-append}
use Rattle.ch_base.specs.declared.channel.Member.{Member}
use Rattle.ch_base.specs.declared.webhook.Hook.{Hook}
use Rattle.ch_base.specs.declared.webhook.Hook.TheVariants as hook
use Rattle.ch_history.specs.declared.rows.HeldNotice.{HeldNotice}
use Rattle.ch_history.specs.declared.rows.Subscription.{Subscription}
use Rattle.ch_history.specs.Entries.{ChanEntry, ChanHistory}
use Rattle.ch_history.specs.Subscriptions.{subs}
use Rattle.ch_history.specs.Presence.{has_user, user_in}
use Rattle.ch_history.specs.Frames.{is_gone}
use Rattle.ch_history.specs.Webhooks.{occupied, added, removed, vacated, parting, events_at}
use Rattle.ch_history.specs.Clock.{clock_with, clock}
use Rattle.ch_history.specs.Held.{is_due, held, hooks}
use Rattle.ch_history.specs.OpenRows.{is_empty}
use Rattle.ch_history.specs.Legal.{IsLegal}
use Rattle.ch_history.specs.Laws.{Goes, is_occupied, occupancy, counts_occupied, OccupancyAlternates, IsHeldOnce, HoldsNotices}
use Rattle.ch_history.proofs.Lists.{filter_map-filter, not_empty, is_empty-push}
use Rattle.ch_history.proofs.Texts.{text_itself}
use Rattle.ch_history.proofs.Legal.{legal_induction}
use Rattle.ch_history.proofs.Push.{held-push}
use Rattle.ch_history.proofs.Marks.{Goes-same, hooks_go}
use Rattle.ch_history.proofs.Held.{marks, notices_of, notices_after, marks_after, due-held, held-of, made-of, is_held-of}
use Rattle.ch_history.proofs.Change.{Change, same, opens, ends, change, concerns, about}

-- an event that doesn't concern the channel says nothing of it
unconcerned : (c : List ℕ) (k : Hook) → concerns c k ≡ false → occupancy c k ≡ None
unconcerned c (hook.Occupied d) differs = ap (λ b. cond b (Some true) None) differs
unconcerned c (hook.Vacated d) differs = ap (λ b. cond b (Some false) None) differs
unconcerned c _ differs = refl

-- events that are the same about the channel have the same marks
pub marks-about : (c : List ℕ) (xs ys : List Hook) → about c xs ≡ about c ys → marks c xs ≡ marks c ys
marks-about c xs ys alike =
    sym (filter_map-filter (occupancy c) (concerns c) xs (unconcerned c))
    ∙ ap (marks c) alike
    ∙ filter_map-filter (occupancy c) (concerns c) ys (unconcerned c)

marks-added : (c : List ℕ) (xs : List Subscription) (m : Option Member) → marks c (added c xs m) ≡ []
marks-added c xs None = refl
marks-added c xs (Some m) = elim (has_user c xs m.user_id) as (λ b. marks c (cond b [] (hook.Added c m.user_id ∷ [])) ≡ []) [ true ↦ refl | false ↦ refl ]

marks-removed : (c : List ℕ) (xs ys : List Subscription) (id : Option (List ℕ)) → marks c (removed c xs ys id) ≡ []
marks-removed c xs ys None = refl
marks-removed c xs ys (Some id) = elim (is_gone c xs ys id) as (λ b. marks c (cond b (hook.Removed c id ∷ []) []) ≡ []) [ true ↦ refl | false ↦ refl ]

marks-occupied : (c : List ℕ) (xs : List Subscription) → marks c (occupied c xs) ≡ cond (is_empty xs) (true ∷ []) []
marks-occupied c xs =
    elim (is_empty xs) as (λ b. marks c (cond b (hook.Occupied c ∷ []) []) ≡ cond b (true ∷ []) []) [
      | true ↦ ap (λ b. cons_option (cond b (Some true) None) []) (text_itself c)
      | false ↦ refl
    ]

marks-vacated : (c : List ℕ) (xs : List Subscription) → marks c (vacated c xs) ≡ cond (is_empty xs) (false ∷ []) []
marks-vacated c xs =
    elim (is_empty xs) as (λ b. marks c (cond b (hook.Vacated c ∷ []) []) ≡ cond b (false ∷ []) []) [
      | true ↦ ap (λ b. cons_option (cond b (Some false) None) []) (text_itself c)
      | false ↦ refl
    ]

-- How an entry changes whether a socket is subscribed, and what its events say of the channel

data Turn (before after : Bool) (said : List Bool) : Type 0 where
  stays : after ≡ before → said ≡ [] → Turn before after said
  begins : before ≡ false → after ≡ true → said ≡ true ∷ [] → Turn before after said
  stops : before ≡ true → after ≡ false → said ≡ false ∷ [] → Turn before after said

turn : (h : ChanHistory) (e : ChanEntry) (c : List ℕ) → Change h e c → Turn (is_occupied h c) (is_occupied (h ++ e ∷ []) c) (marks c (events_at h e))
turn h e c (same still made) = stays (ap (λ xs. not (is_empty xs)) still) (marks-about c (events_at h e) [] made)
turn h e c (opens n after made) =
    let there : is_occupied (h ++ e ∷ []) c ≡ true = ap (λ xs. not (is_empty xs)) after ∙ ap not (is_empty-push (subs h c) n) in
    let said : marks c (events_at h e) ≡ cond (is_empty (subs h c)) (true ∷ []) [] =
    marks-about c (events_at h e) (occupied c (subs h c) ++ added c (subs h c) n.member) made
    ∙ filter_map-append (occupancy c) (occupied c (subs h c)) (added c (subs h c) n.member)
    ∙ ap₂ ◌++◌ (marks-occupied c (subs h c)) (marks-added c (subs h c) n.member)
    ∙ append-nil (cond (is_empty (subs h c)) (true ∷ []) []) in
    (elim (is_empty (subs h c)) as (λ b. marks c (events_at h e) ≡ cond b (true ∷ []) [] → Turn (not b) (is_occupied (h ++ e ∷ []) c) (marks c (events_at h e))) [
      | true ↦ (λ said. begins refl there said)
      | false ↦ (λ said. stays there said)
    ]) said
turn h e c (ends socket there after made) =
    let now = subs (h ++ e ∷ []) c in
    let id = user_in (subs h c) socket in
    let before : is_occupied h c ≡ true = ap not (not_empty (λ s. s.socket == socket) (subs h c) there) in
    let said : marks c (events_at h e) ≡ cond (is_empty now) (false ∷ []) [] =
    marks-about c (events_at h e) (parting c (subs h c) now socket) made
    ∙ filter_map-append (occupancy c) (removed c (subs h c) now id) (vacated c now)
    ∙ ap₂ ◌++◌ (marks-removed c (subs h c) now id) (marks-vacated c now) in
    (elim (is_empty now) as (λ b. marks c (events_at h e) ≡ cond b (false ∷ []) [] → Turn (is_occupied h c) (not b) (marks c (events_at h e))) [
      | true ↦ (λ said. stops before refl said)
      | false ↦ (λ said. stays (sym before) said)
    ]) said

-- What is held of the channel: nothing, or one notice while no socket is subscribed

data HeldState (occupied : Bool) (its : List HeldNotice) : Type 0 where
  nothing : its ≡ [] → HeldState occupied its
  one : (n : HeldNotice) → its ≡ n ∷ [] → occupied ≡ false → HeldState occupied its

-- after a turn
held_on : (c : List ℕ) (now : ℕ) (before after : Bool) (said : List Bool) (its : List HeldNotice) → Turn before after said → HeldState before its → HeldState after (notices_after c now said its)
held_on c now before after said its (stays alike are) (nothing none) = nothing (ap₂ (notices_after c now) are none)
held_on c now before after said its (stays alike are) (one n is vacant) =
    (elim (is_due now n) as (λ b. notices_after c now said its ≡ cond (not b) (n ∷ []) [] ++ [] → HeldState after (notices_after c now said its)) [
      | true ↦ (λ left. nothing left)
      | false ↦ (λ left. one n left (alike ∙ vacant))
    ]) (ap₂ (notices_after c now) are is)
held_on c now before after said its (begins vacant there are) state = nothing (ap (λ ms. notices_after c now ms its) are)
held_on c now before after said its (stops there vacant are) (nothing none) = one (record { channel = c; since = now }) (ap₂ (notices_after c now) are none) vacant
held_on c now before after said its (stops there vacant are) (one n is off) = absurd (let differs : true ≡ false = sym there ∙ off in cc)

-- whether the channel counts as occupied
abbrev counts : Bool → List HeldNotice → Bool
counts occupied its = occupied || not (is_empty its)

-- what is made goes from whether the channel counted as occupied to whether it counts so now
made_on : (c : List ℕ) (now : ℕ) (before after : Bool) (said : List Bool) (its : List HeldNotice) → Turn before after said → HeldState before its
    → Goes (counts before its) (counts after (notices_after c now said its)) (marks_after now said its)
made_on c now before after said its way state = goes way state
  where
    Made : Bool → Bool → List Bool → List HeldNotice → Type 0
    Made b a ms ns = Goes (counts b ns) (counts a (notices_after c now ms ns)) (marks_after now ms ns)

    as_said : (b a : Bool) (ms : List Bool) (ns : List HeldNotice) → before ≡ b → after ≡ a → said ≡ ms → its ≡ ns → Made b a ms ns → Made before after said its
    as_said b a ms ns from to are hold made =
        Goes-same (counts before its) (counts after (notices_after c now said its)) (counts b ns) (counts a (notices_after c now ms ns)) (marks_after now said its) (marks_after now ms ns)
        (ap₂ counts from hold) (ap₂ counts to (ap₂ (notices_after c now) are hold)) (ap₂ (marks_after now) are hold) made

    -- a notice is due, or it stays
    quiet : (n : HeldNotice) → Made false false [] (n ∷ [])
    quiet n = elim (is_due now n) as (λ b. Goes true (not (is_empty (cond (not b) (n ∷ []) [] ++ []))) (map (λ x. false) (cond b (n ∷ []) []) ++ cond (is_empty (cond (not b) (n ∷ []) [])) [] [])) [
      | true ↦ record { turns = (refl, tt); last = refl }
      | false ↦ record { turns = tt; last = refl }
    ]

    again : (n : HeldNotice) → Made false true (true ∷ []) (n ∷ [])
    again n = elim (is_due now n) as (λ b. Goes true true (map (λ x. false) (cond b (n ∷ []) []) ++ cond (is_empty (cond (not b) (n ∷ []) [])) (true ∷ []) [])) [
      | true ↦ record { turns = (refl, (refl, tt)); last = refl }
      | false ↦ record { turns = tt; last = refl }
    ]

    unheld : (b : Bool) → Made b b [] []
    unheld true = record { turns = tt; last = refl }
    unheld false = record { turns = tt; last = refl }

    goes : Turn before after said → HeldState before its → Made before after said its
    goes (stays alike are) (nothing none) = as_said before before [] [] refl alike are none (unheld before)
    goes (stays alike are) (one n is vacant) = as_said false false [] (n ∷ []) vacant (alike ∙ vacant) are is (quiet n)
    goes (begins vacant there are) (nothing none) = as_said false true (true ∷ []) [] vacant there are none (record { turns = (refl, tt); last = refl })
    goes (begins vacant there are) (one n is off) = as_said false true (true ∷ []) (n ∷ []) vacant there are is (again n)
    goes (stops there vacant are) (nothing none) = as_said true false (false ∷ []) [] there vacant are none (record { turns = tt; last = refl })
    goes (stops there vacant are) (one n is off) = absurd (let differs : true ≡ false = sym there ∙ off in cc)

-- Over a history

held_state : (h : ChanHistory) → IsLegal h → (c : List ℕ) → HeldState (is_occupied h c) (notices_of c (held h))
held_state h legal c =
    legal_induction (λ g. HeldState (is_occupied g c) (notices_of c (held g))) (nothing refl)
    (λ g e ok follows state.
    let now : ℕ = clock_with (clock g) e.call in
    subst (HeldState (is_occupied (g ++ e ∷ []) c)) (sym (ap (notices_of c) (held-push g e) ∙ held-of c now (events_at g e) (held g)))
    (held_on c now (is_occupied g c) (is_occupied (g ++ e ∷ []) c) (marks c (events_at g e)) (notices_of c (held g))
    (turn g e c (change g e.caller e.call e.answer c follows.answered)) state)) h legal

counts_is : (h : ChanHistory) (c : List ℕ) → counts_occupied h c ≡ counts (is_occupied h c) (notices_of c (held h))
counts_is h c = ap (λ b. is_occupied h c || b) (is_held-of h c)

pub occupancy_law : (h : ChanHistory) → IsLegal h → (c : List ℕ) → OccupancyAlternates h c
occupancy_law h legal c =
    hooks_go (occupancy c) (λ g. counts_occupied g c) refl
    (λ g e ok follows.
    let now : ℕ = clock_with (clock g) e.call in
    let k : ChanHistory = g ++ e ∷ [] in
    let said : List Bool = marks c (events_at g e) in
    let its : List HeldNotice = notices_of c (held g) in
    Goes-same (counts_occupied g c) (counts_occupied k c) (counts (is_occupied g c) its) (counts (is_occupied k c) (notices_after c now said its)) (marks c (hooks g e)) (marks_after now said its)
    (counts_is g c) (counts_is k c ∙ ap (counts (is_occupied k c)) (ap (notices_of c) (held-push g e) ∙ held-of c now (events_at g e) (held g)))
    (made-of c now (events_at g e) (held g))
    (made_on c now (is_occupied g c) (is_occupied k c) said its (turn g e c (change g e.caller e.call e.answer c follows.answered)) (held_state g ok c))) h legal

once : (h : ChanHistory) (c : List ℕ) → HeldState (is_occupied h c) (notices_of c (held h)) → IsHeldOnce h c
once h c (nothing none) = record {
  vacant = λ is. absurd (let differs : true ≡ false = sym is ∙ is_held-of h c ∙ ap (λ ns. not (is_empty ns)) none in cc);
  once = subst (λ ns. length ns ≤ 1) (sym none) (omega arith);
}
once h c (one n is vacant) = record { vacant = λ held. vacant; once = subst (λ ns. length ns ≤ 1) (sym is) (omega arith) }

pub held_law : (h : ChanHistory) → IsLegal h → HoldsNotices h
held_law h legal = record { none_due = due-held h; each = λ c. once h c (held_state h legal c) }
