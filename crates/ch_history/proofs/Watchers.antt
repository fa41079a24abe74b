-- What a watching socket is told of a user alternates.
use Rattle.std.proofs.Common.{◌≡◌, ℕ, ◌==◌, Bool, true, false, not, ◌&&◌, ◌||◌, cond, IsTrue, List, [], ◌∷◌, ◌++◌, Option, Some, None, filter, filter_map, map, bytes_eq, option_to_list, refl, ap, ap₂, sym, ◌∙◌, subst, append-nil}
use Rattle.std.proofs.Math.Bool.{or-false}
use Rattle.std.specs.List.{list_any, cons_option}
use Rattle.std.proofs.lemmas.List.Elements.{filter_map-append}
use Rattle.std.proofs.lemmas.List.Folds.{list_any-append}
use Rattle.ch_base.specs.Growth.{entry}
use Rattle.ch_base.specs.declared.user.UserCall.{UserCall}
use Rattle.ch_base.specs.declared.user.UserCall.TheVariants.{SignIn, Watch, Lost, Terminate, SendTo, Take}
use Rattle.ch_base.specs.declared.user.UserAnswer.{UserAnswer}
use Rattle.ch_base.specs.declared.user.UserAnswer.TheVariants.{SignedIn, AlreadyIn, Watching, AlreadyWatching}
use Rattle.ch_base.specs.declared.frame.Frame.{Frame}
use Rattle.ch_base.specs.declared.frame.Frame.TheVariants as frame
use Rattle.ch_history.specs.declared.rows.UserSocket.{UserSocket}
use Rattle.ch_history.specs.declared.rows.Delivery.{Delivery}
use Rattle.ch_history.specs.Entries.{UserEntry, UserHistory}
use Rattle.ch_history.specs.Steps.{gathered_from}
use Rattle.ch_history.specs.OpenRows.{is_empty}
use Rattle.ch_history.specs.Deliveries.{delivery}
use Rattle.ch_history.specs.SignIns.{is_signed_in, is_watching, user_socket, signs_in, sign_settles, sign_ins, begins_watch, watch_settles, watches, of_user, has_one_of, users_of, has_any, watching, online}
use Rattle.ch_history.specs.UserFrames.{to_socket, tell_watchers, user_channel, user_frames}
use Rattle.ch_history.specs.UserAnswers.{user_answer_of}
use Rattle.ch_history.specs.UserLegal.{IsUserLegal}
use Rattle.ch_history.specs.Laws.{Goes}
use Rattle.ch_history.specs.UserLaws.{says_of, tells, starts_watch, told_of, WatchAlternates}
use Rattle.ch_history.proofs.Lists.{list_any-part, filter-none, filter-swap, filter_map-flat_map, not_empty, is_empty-push}
use Rattle.ch_history.proofs.Texts.{same_text, text_itself, flat_map-ascending}
use Rattle.ch_history.proofs.Steps.{gathered_from-push}
use Rattle.ch_history.proofs.OpenRows.{opens_nothing, rows-same, none_settled, named-after, in_names, not_among, only}
use Rattle.ch_history.proofs.Marks.{Goes-nowhere, Goes-append, Goes-same}
use Rattle.ch_history.proofs.UserPush.{sign_ins-push, watches-push}
use Rattle.ch_history.proofs.SignIns.{socket_of, user_of, AreApart, watches_apart}
use Rattle.ch_history.proofs.UserLegal.{IsUserLegal-push, user_legal_induction}

-- What frames tell a socket of a user

abbrev pub marks : ℕ → List ℕ → List Delivery → List Bool
marks socket user ds = filter_map (tells socket user) ds

nothing_told : (b : Bool) (xs : List Bool) → cons_option (cond b None None) xs ≡ xs
nothing_told true xs = refl
nothing_told false xs = refl

-- frames that say nothing of the user
marks-silent : (socket : ℕ) (user : List ℕ) (f : Frame) → says_of user f ≡ None → (xs : List UserSocket) → marks socket user (map (to_socket f) xs) ≡ []
marks-silent socket user f silent [] = refl
marks-silent socket user f silent (x ∷ xs) =
    ap (λ o. cons_option (cond (x.socket == socket) o None) (marks socket user (map (to_socket f) xs))) silent
    ∙ nothing_told (x.socket == socket) (marks socket user (map (to_socket f) xs))
    ∙ marks-silent socket user f silent xs

-- frames that say one thing of the user: one mark for each that is for the socket
marks-said : (socket : ℕ) (user : List ℕ) (f : Frame) (b : Bool) → says_of user f ≡ Some b → (xs : List UserSocket) → marks socket user (map (to_socket f) xs) ≡ map (λ r. b) (filter (λ r. r.socket == socket) xs)
marks-said socket user f b said [] = refl
marks-said socket user f b said (x ∷ xs) =
    let rest = filter (λ r. r.socket == socket) xs in
    ap₂ (λ o ms. cons_option (cond (x.socket == socket) o None) ms) said (marks-said socket user f b said xs)
    ∙ elim (x.socket == socket) as (λ t. cons_option (cond t (Some b) None) (map (λ r. b) rest) ≡ map (λ r. b) (cond t (x ∷ rest) rest)) [ true ↦ refl | false ↦ refl ]

says_other : (user v : List ℕ) (b : Bool) → bytes_eq v user ≡ false → says_of user (frame.Watch b v) ≡ None
says_other user v b differs = ap (λ x. cond x (Some b) None) differs

says_itself : (user : List ℕ) (b : Bool) → says_of user (frame.Watch b user) ≡ Some b
says_itself user b = ap (λ x. cond x (Some b) None) (text_itself user)

-- what watchers of another user are told
told-other : (socket : ℕ) (user v : List ℕ) (b : Bool) (signs seen : List UserSocket) → bytes_eq v user ≡ false → marks socket user (tell_watchers b signs seen v) ≡ []
told-other socket user v b signs seen differs =
    elim (has_any signs v) as (λ t. marks socket user (cond t [] (map (to_socket (frame.Watch b v)) (of_user seen v))) ≡ []) [
      | true ↦ refl
      | false ↦ marks-silent socket user (frame.Watch b v) (says_other user v b differs) (of_user seen v)
    ]

-- what a watcher of the user is told: the one thing, once
told-own : (socket : ℕ) (user : List ℕ) (b : Bool) (signs seen : List UserSocket) → AreApart seen → has_one_of seen socket user ≡ true → marks socket user (tell_watchers b signs seen user) ≡ cond (has_any signs user) [] (b ∷ [])
told-own socket user b signs seen apart there =
    elim (has_any signs user) as (λ t. marks socket user (cond t [] (map (to_socket (frame.Watch b user)) (of_user seen user))) ≡ cond t [] (b ∷ [])) [
      | true ↦ refl
      | false ↦
          marks-said socket user (frame.Watch b user) b (says_itself user b) (of_user seen user)
          ∙ ap (map (λ r. b)) (only socket_of user_of socket user seen apart there).1.alone
    ]

arrives : (b : Bool) → Goes b true (cond b [] (true ∷ []))
arrives true = record { turns = tt; last = refl }
arrives false = record { turns = (refl, tt); last = refl }

leaves : (b : Bool) → Goes true b (cond b [] (false ∷ []))
leaves true = record { turns = tt; last = refl }
leaves false = record { turns = (refl, tt); last = refl }

begins : (b : Bool) → Goes false b (cond b (true ∷ []) [])
begins true = record { turns = (refl, tt); last = refl }
begins false = record { turns = tt; last = refl }

-- One entry more, while the socket watches

-- the entry doesn't begin the watch
goes_on : (h : UserHistory) (e : UserEntry) (socket : ℕ) (user : List ℕ) → starts_watch socket user e ≡ false → WatchAlternates h socket user → (IsTrue (watching (h ++ e ∷ []) socket user) → IsTrue (watching h socket user) × Goes (online h user) (online (h ++ e ∷ []) user) (marks socket user (user_frames h e))) → WatchAlternates (h ++ e ∷ []) socket user
goes_on h e socket user on so_far more watches_on =
    let step = more watches_on in
    let before : List Delivery = gathered_from (starts_watch socket user) user_frames [] h in
    Goes-same false (online (h ++ e ∷ []) user) false (online (h ++ e ∷ []) user) (told_of (h ++ e ∷ []) socket user) (told_of h socket user ++ marks socket user (user_frames h e)) refl refl
    (ap (marks socket user) (gathered_from-push (starts_watch socket user) user_frames [] h e ∙ ap (λ b. cond b [] before ++ user_frames h e) on)
    ∙ filter_map-append (tells socket user) before (user_frames h e))
    (Goes-append false (online h user) (online (h ++ e ∷ []) user) (told_of h socket user) (marks socket user (user_frames h e)) (so_far step.0) step.1)

-- an entry that changes no sign-in and no watch, and tells nothing of the user
quiet : (h : UserHistory) (e : UserEntry) (socket : ℕ) (user : List ℕ) → starts_watch socket user e ≡ false → signs_in e ≡ None → ((r : UserSocket) → sign_settles r e ≡ false) → begins_watch e ≡ None → ((r : UserSocket) → watch_settles r e ≡ false) → marks socket user (user_frames h e) ≡ [] → WatchAlternates h socket user → WatchAlternates (h ++ e ∷ []) socket user
quiet h e socket user on no_sign none_signed no_watch none_watched silent so_far =
    let signs : sign_ins (h ++ e ∷ []) ≡ sign_ins h = sign_ins-push h e ∙ rows-same signs_in sign_settles (sign_ins h) e no_sign (none_settled sign_settles (sign_ins h) e none_signed) in
    let seen : watches (h ++ e ∷ []) ≡ watches h = watches-push h e ∙ rows-same begins_watch watch_settles (watches h) e no_watch (none_settled watch_settles (watches h) e none_watched) in
    goes_on h e socket user on so_far (λ there. (
      ap (λ xs. has_one_of xs socket user) (sym seen) ∙ there,
      Goes-same (online h user) (online (h ++ e ∷ []) user) (online h user) (online h user) (marks socket user (user_frames h e)) [] refl (ap (λ xs. has_any xs user) signs) silent (Goes-nowhere (online h user)),
    ))

-- a sign-in as v
signs : (h : UserHistory) (w x : ℕ) (v : List ℕ) (at : ℕ) (socket : ℕ) (user : List ℕ) → AreApart (watches h) → has_one_of (sign_ins h) x v ≡ false → WatchAlternates h socket user → WatchAlternates (h ++ entry w (SignIn x v at) SignedIn ∷ []) socket user
signs h w x v at socket user apart off so_far =
    let e : UserEntry = entry w (SignIn x v at) SignedIn in
    let k : UserHistory = h ++ e ∷ [] in
    let n : UserSocket = user_socket w x v in
    let seen : watches k ≡ watches h = watches-push h e ∙ rows-same begins_watch watch_settles (watches h) e refl (none_settled watch_settles (watches h) e (λ r. refl)) in
    let kept : list_any (λ r. sign_settles r e) (of_user (sign_ins h) user) ≡ false =
    list_any-part (λ r. (r.socket == x) && bytes_eq r.user v) (λ r. bytes_eq r.user user) (sign_ins h) (not_among socket_of user_of (sign_ins h) x v off) in
    let after : of_user (sign_ins k) user ≡ of_user (sign_ins h) user ++ cond (bytes_eq v user) (n ∷ []) [] =
    ap (λ xs. of_user xs user) (sign_ins-push h e)
    ∙ named-after socket_of user_of signs_in sign_settles (sign_ins h) e user
    ∙ ap (λ xs. xs ++ cond (bytes_eq v user) (n ∷ []) []) (filter-none (λ r. sign_settles r e) (of_user (sign_ins h) user) kept) in
    goes_on h e socket user refl so_far (λ there.
    let was : watching h socket user ≡ true = ap (λ xs. has_one_of xs socket user) (sym seen) ∙ there in (
      was,
      (elim (bytes_eq v user) as (λ b. bytes_eq v user ≡ b → of_user (sign_ins k) user ≡ of_user (sign_ins h) user ++ cond b (n ∷ []) [] → Goes (online h user) (online k user) (marks socket user (user_frames h e))) [
        | true ↦ (λ is after.
            let same : v ≡ user = same_text v user is in
            Goes-same (online h user) (online k user) (online h user) true (marks socket user (user_frames h e)) (cond (online h user) [] (true ∷ [])) refl
            (ap (λ xs. not (is_empty xs)) after ∙ ap not (is_empty-push (of_user (sign_ins h) user) n))
            (ap (λ y. marks socket user (tell_watchers true (sign_ins h) (watches h) y)) same ∙ told-own socket user true (sign_ins h) (watches h) apart was)
            (arrives (online h user)))
        | false ↦ (λ differs after.
            Goes-same (online h user) (online k user) (online h user) (online h user) (marks socket user (user_frames h e)) [] refl
            (ap (λ xs. not (is_empty xs)) (after ∙ append-nil (of_user (sign_ins h) user)))
            (told-other socket user v true (sign_ins h) (watches h) differs)
            (Goes-nowhere (online h user)))
      ]) refl after,
    ))

cond-nothing : {A : Type 0} (b : Bool) → cond {A = List A} b [] [] ≡ []
cond-nothing true = refl
cond-nothing false = refl

-- what was told goes on, where the watch isn't the one that begins
and_on : (now b was : Bool) (so_far made all : List Bool) → all ≡ so_far ++ made → made ≡ cond b [] [] → (was ≡ true → Goes false now so_far) → (was || false) ≡ true → Goes false now all
and_on now b was so_far made all is nothing goes there =
    Goes-same false now false now all so_far refl refl (is ∙ ap (λ ms. so_far ++ ms) (nothing ∙ cond-nothing b) ∙ append-nil so_far) (goes (sym (or-false was) ∙ there))

-- p: it is the socket that begins a watch; q: it is the user that is watched; b: whether that user is online
from_watch : (p q now b was : Bool) (so_far made all : List Bool) → all ≡ cond (p && q) [] so_far ++ made → made ≡ cond b (cons_option (cond p (cond q (Some true) None) None) []) [] → (was ≡ true → Goes false now so_far) → (q ≡ true → now ≡ b) → (was || (q && p)) ≡ true → Goes false now all
from_watch true true now b was so_far made all is said goes same there = Goes-same false now false b all (cond b (true ∷ []) []) refl (same refl) (is ∙ said) (begins b)
from_watch true false now b was so_far made all is said goes same there = and_on now b was so_far made all is said goes there
from_watch false true now b was so_far made all is said goes same there = and_on now b was so_far made all is said goes there
from_watch false false now b was so_far made all is said goes same there = and_on now b was so_far made all is said goes there

-- a watch of v by x
looks : (h : UserHistory) (w x : ℕ) (v : List ℕ) (at : ℕ) (socket : ℕ) (user : List ℕ) → has_one_of (watches h) x v ≡ false → WatchAlternates h socket user → WatchAlternates (h ++ entry w (Watch x v at) Watching ∷ []) socket user
looks h w x v at socket user off so_far =
    let e : UserEntry = entry w (Watch x v at) Watching in
    let k : UserHistory = h ++ e ∷ [] in
    let n : UserSocket = user_socket w x v in
    let b = has_any (sign_ins h) v in
    let first : Delivery = delivery w x (frame.Watch true v) in
    let signs : sign_ins k ≡ sign_ins h = sign_ins-push h e ∙ rows-same signs_in sign_settles (sign_ins h) e refl (none_settled sign_settles (sign_ins h) e (λ r. refl)) in
    let kept : list_any (λ r. watch_settles r e) (of_user (watches h) user) ≡ false =
    list_any-part (λ r. (r.socket == x) && bytes_eq r.user v) (λ r. bytes_eq r.user user) (watches h) (not_among socket_of user_of (watches h) x v off) in
    let after : of_user (watches k) user ≡ of_user (watches h) user ++ cond (bytes_eq v user) (n ∷ []) [] =
    ap (λ xs. of_user xs user) (watches-push h e)
    ∙ named-after socket_of user_of begins_watch watch_settles (watches h) e user
    ∙ ap (λ xs. xs ++ cond (bytes_eq v user) (n ∷ []) []) (filter-none (λ r. watch_settles r e) (of_user (watches h) user) kept) in
    let there_by : watching k socket user ≡ (watching h socket user || (bytes_eq v user && (x == socket))) =
    ap (list_any (λ r. r.socket == socket)) after
    ∙ list_any-append (λ r. r.socket == socket) (of_user (watches h) user) (cond (bytes_eq v user) (n ∷ []) [])
    ∙ ap (λ t. watching h socket user || t) (elim (bytes_eq v user) as (λ t. list_any (λ r. r.socket == socket) (cond t (n ∷ []) []) ≡ (t && (x == socket))) [ true ↦ or-false (x == socket) | false ↦ refl ]) in
    let told : marks socket user (user_frames h e) ≡ cond b (cons_option (cond (x == socket) (cond (bytes_eq v user) (Some true) None) None) []) [] =
    elim b as (λ t. marks socket user (cond t (first ∷ []) []) ≡ cond t (cons_option (cond (x == socket) (cond (bytes_eq v user) (Some true) None) None) []) []) [ true ↦ refl | false ↦ refl ] in
    let before : List Delivery = gathered_from (starts_watch socket user) user_frames [] h in
    let all : told_of k socket user ≡ cond ((x == socket) && bytes_eq v user) [] (told_of h socket user) ++ marks socket user (user_frames h e) =
    ap (marks socket user) (gathered_from-push (starts_watch socket user) user_frames [] h e)
    ∙ filter_map-append (tells socket user) (cond ((x == socket) && bytes_eq v user) [] before) (user_frames h e)
    ∙ ap (λ ms. ms ++ marks socket user (user_frames h e)) (elim ((x == socket) && bytes_eq v user) as (λ t. marks socket user (cond t [] before) ≡ cond t [] (marks socket user before)) [ true ↦ refl | false ↦ refl ]) in
    let same_online : online k user ≡ online h user = ap (λ xs. has_any xs user) signs in
    λ there.
    from_watch (x == socket) (bytes_eq v user) (online k user) b (watching h socket user) (told_of h socket user) (marks socket user (user_frames h e)) (told_of k socket user) all told
    (λ was. Goes-same false (online k user) false (online h user) (told_of h socket user) (told_of h socket user) refl same_online refl (so_far was))
    (λ is. same_online ∙ ap (has_any (sign_ins h)) (sym (same_text v user is)))
    (sym there_by ∙ there)

-- what is found among part of the rows is found among all
among_more : (p kept : UserSocket → Bool) (user : List ℕ) (xs : List UserSocket) → list_any p (of_user (filter kept xs) user) ≡ true → list_any p (of_user xs user) ≡ true
among_more p kept user xs there =
    (elim (list_any p (of_user xs user)) as (λ b. list_any p (of_user xs user) ≡ b → b ≡ true) [
      | true ↦ (λ is. refl)
      | false ↦ (λ none.
          let no : list_any p (of_user (filter kept xs) user) ≡ false = ap (list_any p) (filter-swap (λ r. bytes_eq r.user user) kept xs) ∙ list_any-part p kept (of_user xs user) none in
          cc)
    ]) refl

-- the loss of x
loses : (h : UserHistory) (w x at : ℕ) (a : UserAnswer) (socket : ℕ) (user : List ℕ) → AreApart (watches (h ++ entry w (Lost x at) a ∷ [])) → WatchAlternates h socket user → WatchAlternates (h ++ entry w (Lost x at) a ∷ []) socket user
loses h w x at a socket user apart so_far =
    let e : UserEntry = entry w (Lost x at) a in
    let k : UserHistory = h ++ e ∷ [] in
    let gone : UserSocket → Bool = λ r. not (r.socket == x) in
    let left : (xs : List UserSocket) → filter gone xs ++ option_to_list (cond {A = Option UserSocket} (is_signed_in a) None None) ≡ filter gone xs =
    λ xs. ap (λ o. filter gone xs ++ option_to_list o) (opens_nothing (is_signed_in a)) ∙ append-nil (filter gone xs) in
    let signs : of_user (sign_ins k) user ≡ filter gone (of_user (sign_ins h) user) =
    ap (λ xs. of_user xs user) (sign_ins-push h e ∙ left (sign_ins h)) ∙ filter-swap (λ r. bytes_eq r.user user) gone (sign_ins h) in
    let seen : watches k ≡ filter gone (watches h) =
    watches-push h e ∙ ap (λ o. filter gone (watches h) ++ option_to_list o) (opens_nothing (is_watching a)) ∙ append-nil (filter gone (watches h)) in
    let of_one : List ℕ → List Bool = λ v. marks socket user (tell_watchers false (sign_ins k) (watches k) v) in
    let its : List (List ℕ) = map user_of (filter (λ r. r.socket == x) (sign_ins h)) in
    let was_in = has_one_of (sign_ins h) x user in
    let told : marks socket user (user_frames h e) ≡ cond was_in (of_one user) [] =
    filter_map-flat_map (tells socket user) (tell_watchers false (sign_ins k) (watches k)) (users_of (sign_ins h) x)
    ∙ flat_map-ascending of_one user (λ v differs. told-other socket user v false (sign_ins k) (watches k) differs) its
    ∙ ap (λ b. cond b (of_one user) []) (in_names socket_of user_of (sign_ins h) x user) in
    goes_on h e socket user refl so_far (λ there.
    let was : watching h socket user ≡ true = among_more (λ r. r.socket == socket) gone user (watches h) (ap (λ xs. has_one_of xs socket user) (sym seen) ∙ there) in
    let own : of_one user ≡ cond (online k user) [] (false ∷ []) = told-own socket user false (sign_ins k) (watches k) apart there in (
      was,
      (elim was_in as (λ b. was_in ≡ b → marks socket user (user_frames h e) ≡ cond b (of_one user) [] → Goes (online h user) (online k user) (marks socket user (user_frames h e))) [
        | true ↦ (λ is told.
            Goes-same (online h user) (online k user) true (online k user) (marks socket user (user_frames h e)) (cond (online k user) [] (false ∷ []))
            (ap not (not_empty (λ r. r.socket == x) (of_user (sign_ins h) user) is)) refl (told ∙ own) (leaves (online k user)))
        | false ↦ (λ off told.
            Goes-same (online h user) (online k user) (online h user) (online h user) (marks socket user (user_frames h e)) [] refl
            (ap (λ xs. not (is_empty xs)) (signs ∙ filter-none (λ r. r.socket == x) (of_user (sign_ins h) user) off)) told (Goes-nowhere (online h user)))
      ]) refl told,
    ))

-- each entry that may follow
tells_on : (h : UserHistory) (w : ℕ) (call : UserCall) (a : UserAnswer) (socket : ℕ) (user : List ℕ) → a ≡ user_answer_of h w call → IsUserLegal h → AreApart (watches (h ++ entry w call a ∷ [])) → WatchAlternates h socket user → WatchAlternates (h ++ entry w call a ∷ []) socket user
tells_on h w (SignIn x v at) a socket user answered legal apart so_far =
    let P : UserAnswer → Type 0 = λ a. WatchAlternates (h ++ entry w (SignIn x v at) a ∷ []) socket user in
    subst P (sym answered) ((elim (has_one_of (sign_ins h) x v) as (λ b. has_one_of (sign_ins h) x v ≡ b → P (cond b AlreadyIn SignedIn)) [
      | true ↦ (λ is_in. quiet h (entry w (SignIn x v at) AlreadyIn) socket user refl refl (λ r. refl) refl (λ r. refl) refl so_far)
      | false ↦ (λ off. signs h w x v at socket user (watches_apart h legal) off so_far)
    ]) refl)
tells_on h w (Watch x v at) a socket user answered legal apart so_far =
    let P : UserAnswer → Type 0 = λ a. WatchAlternates (h ++ entry w (Watch x v at) a ∷ []) socket user in
    subst P (sym answered) ((elim (has_one_of (watches h) x v) as (λ b. has_one_of (watches h) x v ≡ b → P (cond b AlreadyWatching Watching)) [
      | true ↦ (λ there. quiet h (entry w (Watch x v at) AlreadyWatching) socket user refl refl (λ r. refl) refl (λ r. refl) refl so_far)
      | false ↦ (λ off. looks h w x v at socket user off so_far)
    ]) refl)
tells_on h w (Lost x at) a socket user answered legal apart so_far = loses h w x at a socket user apart so_far
tells_on h w (Terminate v at) a socket user answered legal apart so_far =
    quiet h (entry w (Terminate v at) a) socket user refl (opens_nothing (is_signed_in a)) (λ r. refl) (opens_nothing (is_watching a)) (λ r. refl)
    (marks-silent socket user frame.Kill refl (of_user (sign_ins h) v)) so_far
tells_on h w (SendTo v event body at) a socket user answered legal apart so_far =
    quiet h (entry w (SendTo v event body at) a) socket user refl (opens_nothing (is_signed_in a)) (λ r. refl) (opens_nothing (is_watching a)) (λ r. refl)
    (marks-silent socket user (frame.Event (user_channel v) event body None) refl (of_user (sign_ins h) v)) so_far
tells_on h w Take a socket user answered legal apart so_far =
    quiet h (entry w Take a) socket user refl (opens_nothing (is_signed_in a)) (λ r. refl) (opens_nothing (is_watching a)) (λ r. refl) refl so_far

pub watchers_law : (h : UserHistory) → IsUserLegal h → (socket : ℕ) (user : List ℕ) → WatchAlternates h socket user
watchers_law h legal socket user =
    user_legal_induction (λ g. WatchAlternates g socket user)
    (λ there. absurd (let no : false ≡ true = there in cc))
    (λ g e ok follows so_far.
    tells_on g e.caller e.call e.answer socket user follows.answered ok (watches_apart (g ++ e ∷ []) (IsUserLegal-push g e ok follows)) so_far) h legal
