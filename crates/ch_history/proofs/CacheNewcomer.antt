-- A newcomer of a cache channel is told once of its latest event.
use Rattle.std.proofs.Common.{◌≡◌, ℕ, ◌==◌, Bool, true, false, ◌&&◌, cond, List, [], ◌∷◌, ◌++◌, Option, Some, None, map, length, refl, ap, ap₂, ◌∙◌, arith}
use Rattle.std.proofs.lemmas.List.Elements.{filter-append}
use Rattle.std.proofs.lemmas.Bool.Decides.{nat_tests}
use Rattle.ch_base.specs.declared.channel.Member.{Member}
use Rattle.ch_base.specs.declared.channel.ChanCall.{ChanCall}
use Rattle.ch_base.specs.declared.channel.ChanCall.TheVariants.{Join, Leave, Lost, Publish, Say, Take, TakeHooks, Names, Look, Users}
use Rattle.ch_base.specs.declared.frame.Frame.TheVariants.{Succeeded, Present, Added}
use Rattle.ch_history.specs.declared.rows.Subscription.{Subscription}
use Rattle.ch_history.specs.declared.rows.Cached.{Cached}
use Rattle.ch_history.specs.declared.rows.Delivery.{Delivery}
use Rattle.ch_history.specs.Entries.{ChanEntry, ChanHistory}
use Rattle.ch_history.specs.ChannelName.{is_presence, is_cache}
use Rattle.ch_history.specs.Subscriptions.{is_joined, subscriptions, subs}
use Rattle.ch_history.specs.Presence.{has_user, rows_in}
use Rattle.ch_history.specs.Cache.{latest}
use Rattle.ch_history.specs.Frames.{to, latest_frame, welcome, member_added_frames, frames_by, frames}
use Rattle.ch_history.specs.Legal.{IsLegal}
use Rattle.ch_history.specs.Laws.{tells_latest, newcomer_frames, Greets, GreetsBy, NewcomersGreeted}
use Rattle.ch_history.proofs.Lists.{both}
use Rattle.ch_history.proofs.Steps.{AllHold-all}

itself : (n : ℕ) → (n == n) ≡ true
itself n = grind (arith, nat_tests)

-- a frame of another sort in front tells nothing
told-other : (socket : ℕ) (d : Delivery) (ds : List Delivery) → tells_latest d.item.frame ≡ false → newcomer_frames socket (d ∷ ds) ≡ newcomer_frames socket ds
told-other socket d ds silent =
    elim (d.item.socket == socket) as (λ b. cond (b && tells_latest d.item.frame) (d ∷ newcomer_frames socket ds) (newcomer_frames socket ds) ≡ newcomer_frames socket ds) [
      | true ↦ ap (λ x. cond x (d ∷ newcomer_frames socket ds) (newcomer_frames socket ds)) silent
      | false ↦ refl
    ]

told-arrival : (c : List ℕ) (socket : ℕ) (m : Member) (xs : List Subscription) → newcomer_frames socket (map (to (Added c m)) xs) ≡ []
told-arrival c socket m [] = refl
told-arrival c socket m (x ∷ xs) = told-other socket (to (Added c m) x) (map (to (Added c m)) xs) refl ∙ told-arrival c socket m xs

told-arrivals : (c : List ℕ) (socket : ℕ) (xs : List Subscription) (m : Option Member) → newcomer_frames socket (member_added_frames c xs m) ≡ []
told-arrivals c socket xs None = refl
told-arrivals c socket xs (Some m) =
    elim (has_user c xs m.user_id) as (λ b. newcomer_frames socket (cond b [] (map (to (Added c m)) xs)) ≡ []) [
      | true ↦ refl
      | false ↦ told-arrival c socket m xs
    ]

tells : (c : List ℕ) (kept : Option Cached) → tells_latest (latest_frame c kept) ≡ true
tells c None = refl
tells c (Some x) = refl

first_silent : (c : List ℕ) (b : Bool) (rows : List Member) → tells_latest (cond b (Present c rows) (Succeeded c)) ≡ false
first_silent c true rows = refl
first_silent c false rows = refl

told-welcome : (c : List ℕ) (after : List Subscription) (kept : Option Cached) (s : Subscription) → is_cache c ≡ true → newcomer_frames s.socket (welcome c after kept s) ≡ to (latest_frame c kept) s ∷ []
told-welcome c after kept s kind =
    let last : List Delivery = to (latest_frame c kept) s ∷ [] in
    told-other s.socket (to (cond (is_presence c) (Present c (rows_in c after)) (Succeeded c)) s) (cond (is_cache c) last []) (first_silent c (is_presence c) (rows_in c after))
    ∙ ap (λ b. newcomer_frames s.socket (cond b last [])) kind
    ∙ ap₂ (λ a b. cond (a && b) last []) (itself s.socket) (tells c kept)

greets : (h : ChanHistory) (e : ChanEntry) (call : ChanCall) → e.call ≡ call → GreetsBy h e call
greets h e (Join socket c m at) is = λ joined.
    let kind = both (is_joined e.answer) (is_cache c) joined in
    let s : Subscription = record { channel = c; socket = socket; owner = e.caller; member = m } in
    let k : ChanHistory = h ++ e ∷ [] in
    let made : frames h e ≡ welcome c (subs k c) (latest h e.call c) s ++ member_added_frames c (subs h c) m =
    ap (frames_by (subscriptions h) (subscriptions k) (latest h e.call) e.caller e.answer) is
    ∙ ap (λ b. cond b (welcome c (subs k c) (latest h e.call c) s ++ member_added_frames c (subs h c) m) []) kind.0 in
    ap (λ ds. length (newcomer_frames socket ds)) made
    ∙ ap length (filter-append (λ d. (d.item.socket == socket) && tells_latest d.item.frame) (welcome c (subs k c) (latest h e.call c) s) (member_added_frames c (subs h c) m)
    ∙ ap₂ ◌++◌ (told-welcome c (subs k c) (latest h e.call c) s kind.1) (told-arrivals c socket (subs h c) m))
greets h e (Leave socket c at) is = tt
greets h e (Lost socket at) is = tt
greets h e (Publish c event body except at) is = tt
greets h e (Say socket c event body at) is = tt
greets h e Take is = tt
greets h e (TakeHooks at) is = tt
greets h e (Names prefix) is = tt
greets h e (Look c at) is = tt
greets h e (Users c) is = tt

pub cache_newcomer_law : (h : ChanHistory) → IsLegal h → NewcomersGreeted h
cache_newcomer_law h legal = AllHold-all Greets (λ g e. greets g e e.call refl) [] h
