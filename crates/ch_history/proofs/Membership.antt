-- Added and Removed of a user of a presence channel alternate.
use Rattle.std.proofs.Common.{◌≡◌, ℕ, ◌==◌, Bool, true, false, not, ◌&&◌, ◌||◌, cond, IsTrue, List, [], ◌∷◌, ◌++◌, Option, Some, None, filter, filter_map, map, bytes_eq, option_map, option_and_then, refl, ap, ap₂, sym, ◌∙◌, append-nil}
use Rattle.std.proofs.Math.Bool.{or-false}
use Rattle.std.specs.List.{list_any, cons_option}
use Rattle.std.proofs.lemmas.List.Elements.{filter_map-append}
use Rattle.std.proofs.lemmas.List.Folds.{list_any-append}
use Rattle.ch_base.specs.declared.channel.Member.{Member}
use Rattle.ch_base.specs.declared.webhook.Hook.{Hook}
use Rattle.ch_base.specs.declared.webhook.Hook.TheVariants as hook
use Rattle.ch_history.specs.declared.rows.Subscription.{Subscription}
use Rattle.ch_history.specs.Entries.{ChanEntry, ChanHistory}
use Rattle.ch_history.specs.Texts.{has_text, ascending}
use Rattle.ch_history.specs.ChannelName.{is_presence}
use Rattle.ch_history.specs.Subscriptions.{subs}
use Rattle.ch_history.specs.Presence.{members_in, has_user, user_in}
use Rattle.ch_history.specs.Frames.{is_gone}
use Rattle.ch_history.specs.Webhooks.{occupied, added, removed, vacated, parting, events_at}
use Rattle.ch_history.specs.Held.{held, hooks}
use Rattle.ch_history.specs.Pending.{hook_list}
use Rattle.ch_history.specs.Clock.{clock_with, clock}
use Rattle.ch_history.specs.OpenRows.{is_empty}
use Rattle.ch_history.specs.Legal.{IsLegal}
use Rattle.ch_history.specs.Laws.{Goes, membership, MembershipAlternates}
use Rattle.ch_history.proofs.Lists.{list_any-map, list_any-parts, filter_map-filter}
use Rattle.ch_history.proofs.Texts.{same_text, text_itself, has_text-ascending}
use Rattle.ch_history.proofs.Marks.{Goes-nowhere, Goes-same, hooks_go}
use Rattle.ch_history.proofs.Held.{hooks-silent}
use Rattle.ch_history.proofs.Subscriptions.{only_one}
use Rattle.ch_history.proofs.Change.{Change, same, opens, ends, change, concerns, about}

-- One user among the subscriptions of a channel

abbrev pub is_user : List ℕ → Option Member → Bool
is_user id None = false
is_user id (Some m) = bytes_eq m.user_id id

-- whether the user has one of the subscriptions
abbrev pub among : List Subscription → List ℕ → Bool
among xs id = list_any (λ s. is_user id s.member) xs

id_among : (id : List ℕ) (o : Option Member) (ms : List Member) → list_any (λ m. bytes_eq m.user_id id) (cons_option o ms) ≡ (is_user id o || list_any (λ m. bytes_eq m.user_id id) ms)
id_among id None ms = refl
id_among id (Some m) ms = refl

members_among : (xs : List Subscription) (id : List ℕ) → list_any (λ m. bytes_eq m.user_id id) (members_in xs) ≡ among xs id
members_among [] id = refl
members_among (s ∷ xs) id = id_among id s.member (members_in xs) ∙ ap (λ b. is_user id s.member || b) (members_among xs id)

-- on a presence channel the user is there where it has a subscription
pub has_user_is : (c : List ℕ) (xs : List Subscription) (id : List ℕ) → is_presence c ≡ true → has_user c xs id ≡ among xs id
has_user_is c xs id kind =
    ap (λ b. has_text (cond b (ascending (map (λ m. m.user_id) (members_in xs))) []) id) kind
    ∙ has_text-ascending id (map (λ m. m.user_id) (members_in xs))
    ∙ list_any-map (λ y. bytes_eq y id) (λ m. m.user_id) (members_in xs)
    ∙ members_among xs id

-- with one more subscription
among-push : (xs : List Subscription) (n : Subscription) (id : List ℕ) → among (xs ++ n ∷ []) id ≡ (among xs id || is_user id n.member)
among-push xs n id = list_any-append (λ s. is_user id s.member) xs (n ∷ []) ∙ ap (λ b. among xs id || b) (or-false (is_user id n.member))

-- with one less: the only one that passes
among-without : (p : Subscription → Bool) (xs ys : List Subscription) (s : Subscription) (id : List ℕ) → filter p xs ≡ s ∷ [] → ys ≡ filter (λ x. not (p x)) xs → among xs id ≡ (among ys id || is_user id s.member)
among-without p xs ys s id alone rest =
    list_any-parts (λ x. is_user id x.member) p xs
    ∙ ap₂ (λ zs one. list_any (λ x. is_user id x.member) zs || list_any (λ x. is_user id x.member) one) (sym rest) alone
    ∙ ap (λ b. among ys id || b) (or-false (is_user id s.member))

-- Marks of one user on one channel

abbrev pub marks : List ℕ → List ℕ → List Hook → List Bool
marks c id made = filter_map (membership c id) made

unconcerned : (c id : List ℕ) (k : Hook) → concerns c k ≡ false → membership c id k ≡ None
unconcerned c id (hook.Added d u) differs = ap (λ b. cond (b && bytes_eq u id) (Some true) None) differs
unconcerned c id (hook.Removed d u) differs = ap (λ b. cond (b && bytes_eq u id) (Some false) None) differs
unconcerned c id _ differs = refl

-- events that are the same about the channel have the same marks
marks-about : (c id : List ℕ) (xs ys : List Hook) → about c xs ≡ about c ys → marks c id xs ≡ marks c id ys
marks-about c id xs ys alike =
    sym (filter_map-filter (membership c id) (concerns c) xs (unconcerned c id))
    ∙ ap (marks c id) alike
    ∙ filter_map-filter (membership c id) (concerns c) ys (unconcerned c id)

marks-occupied : (c id : List ℕ) (xs : List Subscription) → marks c id (occupied c xs) ≡ []
marks-occupied c id xs = elim (is_empty xs) as (λ b. marks c id (cond b (hook.Occupied c ∷ []) []) ≡ []) [ true ↦ refl | false ↦ refl ]

marks-vacated : (c id : List ℕ) (xs : List Subscription) → marks c id (vacated c xs) ≡ []
marks-vacated c id xs = elim (is_empty xs) as (λ b. marks c id (cond b (hook.Vacated c ∷ []) []) ≡ []) [ true ↦ refl | false ↦ refl ]

-- where nothing was there and the user is meant, or everything was
marks-added : (c id u : List ℕ) (b : Bool) → marks c id (cond b [] (hook.Added c u ∷ [])) ≡ cond b [] (cond (bytes_eq u id) (true ∷ []) [])
marks-added c id u true = refl
marks-added c id u false =
    ap (λ x. cons_option (cond (x && bytes_eq u id) (Some true) None) []) (text_itself c)
    ∙ elim (bytes_eq u id) as (λ b. cons_option (cond b (Some true) None) [] ≡ cond b (true ∷ []) []) [ true ↦ refl | false ↦ refl ]

marks-removed : (c id u : List ℕ) (b : Bool) → marks c id (cond b (hook.Removed c u ∷ []) []) ≡ cond b (cond (bytes_eq u id) (false ∷ []) []) []
marks-removed c id u true =
    ap (λ x. cons_option (cond (x && bytes_eq u id) (Some false) None) []) (text_itself c)
    ∙ elim (bytes_eq u id) as (λ b. cons_option (cond b (Some false) None) [] ≡ cond b (false ∷ []) []) [ true ↦ refl | false ↦ refl ]
marks-removed c id u false = refl

arrives : (b : Bool) → Goes b (b || true) (cond b [] (true ∷ []))
arrives true = record { turns = tt; last = refl }
arrives false = record { turns = (refl, tt); last = refl }

leaves : (b : Bool) → Goes (b || true) b (cond ((b || true) && not b) (false ∷ []) [])
leaves true = record { turns = tt; last = refl }
leaves false = record { turns = (refl, tt); last = refl }

both_nothing : (b : Bool) → cond {A = List Bool} b [] [] ≡ []
both_nothing true = refl
both_nothing false = refl

-- A newcomer

comes : (c id : List ℕ) (xs : List Subscription) (o : Option Member) → is_presence c ≡ true → Goes (among xs id) (among xs id || is_user id o) (marks c id (added c xs o))
comes c id xs None kind = Goes-same (among xs id) (among xs id || false) (among xs id) (among xs id) [] [] refl (or-false (among xs id)) refl (Goes-nowhere (among xs id))
comes c id xs (Some m) kind =
    let u : List ℕ = m.user_id in
    let said : marks c id (added c xs (Some m)) ≡ cond (among xs u) [] (cond (bytes_eq u id) (true ∷ []) []) =
    marks-added c id u (has_user c xs u) ∙ ap (λ b. cond b [] (cond (bytes_eq u id) (true ∷ []) [])) (has_user_is c xs u kind) in
    (elim (bytes_eq u id) as (λ b. bytes_eq u id ≡ b → marks c id (added c xs (Some m)) ≡ cond (among xs u) [] (cond b (true ∷ []) []) → Goes (among xs id) (among xs id || b) (marks c id (added c xs (Some m)))) [
      | true ↦ (λ is said.
          Goes-same (among xs id) (among xs id || true) (among xs id) (among xs id || true) (marks c id (added c xs (Some m))) (cond (among xs id) [] (true ∷ [])) refl refl
          (said ∙ ap (λ x. cond (among xs x) [] (true ∷ [])) (same_text u id is)) (arrives (among xs id)))
      | false ↦ (λ differs said.
          Goes-same (among xs id) (among xs id || false) (among xs id) (among xs id) (marks c id (added c xs (Some m))) [] refl (or-false (among xs id))
          (said ∙ both_nothing (among xs u)) (Goes-nowhere (among xs id)))
    ]) refl said

-- The end of a subscription; before: what was so of each user, by what is so after

parts : (c id : List ℕ) (xs ys : List Subscription) (o : Option Member) → is_presence c ≡ true → ((v : List ℕ) → among xs v ≡ (among ys v || is_user v o)) → Goes (among xs id) (among ys id) (marks c id (removed c xs ys (option_map (λ m. m.user_id) o)))
parts c id xs ys None kind before = Goes-same (among xs id) (among ys id) (among ys id) (among ys id) [] [] (before id ∙ or-false (among ys id)) refl refl (Goes-nowhere (among ys id))
parts c id xs ys (Some m) kind before =
    let u : List ℕ = m.user_id in
    let made : List Bool = marks c id (removed c xs ys (Some u)) in
    let said : made ≡ cond (among xs u && not (among ys u)) (cond (bytes_eq u id) (false ∷ []) []) [] =
    marks-removed c id u (is_gone c xs ys u)
    ∙ ap₂ (λ p q. cond (p && not q) (cond (bytes_eq u id) (false ∷ []) []) []) (has_user_is c xs u kind) (has_user_is c ys u kind) in
    (elim (bytes_eq u id) as (λ b. bytes_eq u id ≡ b → among xs id ≡ (among ys id || b) → made ≡ cond (among xs u && not (among ys u)) (cond b (false ∷ []) []) [] → Goes (among xs id) (among ys id) made) [
      | true ↦ (λ is was said.
          Goes-same (among xs id) (among ys id) (among ys id || true) (among ys id) made (cond ((among ys id || true) && not (among ys id)) (false ∷ []) []) was refl
          (said ∙ ap (λ x. cond (among xs x && not (among ys x)) (false ∷ []) []) (same_text u id is) ∙ ap (λ b. cond (b && not (among ys id)) (false ∷ []) []) was)
          (leaves (among ys id)))
      | false ↦ (λ differs was said.
          Goes-same (among xs id) (among ys id) (among ys id) (among ys id) made [] (was ∙ or-false (among ys id)) refl
          (said ∙ both_nothing (among xs u && not (among ys u))) (Goes-nowhere (among ys id)))
    ]) refl (before id) said

-- one entry
turns : (h : ChanHistory) (e : ChanEntry) (c id : List ℕ) → is_presence c ≡ true → IsLegal h → Change h e c → Goes (among (subs h c) id) (among (subs (h ++ e ∷ []) c) id) (marks c id (events_at h e))
turns h e c id kind legal (same still made) =
    let there = among (subs h c) id in
    Goes-same there (among (subs (h ++ e ∷ []) c) id) there there (marks c id (events_at h e)) [] refl (ap (λ xs. among xs id) still) (marks-about c id (events_at h e) [] made) (Goes-nowhere there)
turns h e c id kind legal (opens n after made) =
    let xs = subs h c in
    Goes-same (among xs id) (among (subs (h ++ e ∷ []) c) id) (among xs id) (among xs id || is_user id n.member) (marks c id (events_at h e)) (marks c id (added c xs n.member)) refl
    (ap (λ ys. among ys id) after ∙ among-push xs n id)
    (marks-about c id (events_at h e) (occupied c xs ++ added c xs n.member) made
    ∙ filter_map-append (membership c id) (occupied c xs) (added c xs n.member)
    ∙ ap (λ ms. ms ++ marks c id (added c xs n.member)) (marks-occupied c id xs))
    (comes c id xs n.member kind)
turns h e c id kind legal (ends socket there after made) =
    let xs = subs h c in
    let ys = subs (h ++ e ∷ []) c in
    let only = only_one h socket c legal there in
    let gone : Option Member = (only.0).member in
    let user : user_in xs socket ≡ option_map (λ m. m.user_id) gone = ap (λ o. option_map (λ m. m.user_id) (option_and_then (λ s. s.member) o)) only.1.found in
    Goes-same (among xs id) (among ys id) (among xs id) (among ys id) (marks c id (events_at h e)) (marks c id (removed c xs ys (option_map (λ m. m.user_id) gone))) refl refl
    (marks-about c id (events_at h e) (parting c xs ys socket) made
    ∙ filter_map-append (membership c id) (removed c xs ys (user_in xs socket)) (vacated c ys)
    ∙ ap₂ (λ u ms. marks c id (removed c xs ys u) ++ ms) user (marks-vacated c id ys)
    ∙ append-nil (marks c id (removed c xs ys (option_map (λ m. m.user_id) gone))))
    (parts c id xs ys gone kind (λ v. among-without (λ s. s.socket == socket) xs ys only.0 v only.1.alone after))

pub membership_law : (h : ChanHistory) → IsLegal h → (c id : List ℕ) → IsTrue (is_presence c) → MembershipAlternates h c id
membership_law h legal c id kind =
    let made = marks c id (hook_list h) in
    Goes-same false (has_user c (subs h c) id) false (among (subs h c) id) made made refl (has_user_is c (subs h c) id kind) refl
    (hooks_go (membership c id) (λ g. among (subs g c) id) refl
    (λ g e ok follows.
    let there = among (subs g c) id in
    let then_there = among (subs (g ++ e ∷ []) c) id in
    Goes-same there then_there there then_there (marks c id (hooks g e)) (marks c id (events_at g e)) refl refl
    (hooks-silent (membership c id) (clock_with (clock g) e.call) (events_at g e) (held g) (λ d. refl) (λ d. refl))
    (turns g e c id kind ok (change g e.caller e.call e.answer c follows.answered))) h legal)
