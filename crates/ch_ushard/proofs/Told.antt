-- Frames for the sockets of a user, and their owners.
use Rattle.std.proofs.Common.{◌≡◌, ℕ, zero, suc, ◌+◌, ◌<◌, ◌==◌, Bool, true, false, not, cond, List, [], ◌∷◌, ◌++◌, Option, Some, None, All, filter, map, flat_map, take, slice_get, bytes_eq, refl, ap, sym, ◌∙◌, subst, append-nil, arith}
use Rattle.std.proofs.lemmas.Grind.{flat_map-append}
use Rattle.std.proofs.lemmas.List.Elements.{All-filter, All-map}
use Rattle.ch_base.specs.declared.frame.Frame.{Frame}
use Rattle.ch_base.specs.declared.frame.Frame.TheVariants.{Watch}
use Rattle.ch_base.specs.declared.limits.TheConstants.{MAX_CALLERS}
use Rattle.ch_history.specs.declared.rows.UserSocket.{UserSocket}
use Rattle.ch_history.specs.declared.rows.Delivery.{Delivery}
use Rattle.ch_history.specs.SignIns.{of_user, has_any}
use Rattle.ch_history.specs.UserFrames.{to_socket, tell_watchers}
use Rattle.ch_history.proofs.Lists.{filter-swap}
use Rattle.ch_index.specs.declared.holder.Holder.{Holder}
use Rattle.ch_index.specs.Holders.{holder_of}
use Rattle.ch_outbox.specs.Handed.{handed}
use Rattle.ch_outbox.proofs.HandedRows.{handed-rows}
use Rattle.ch_watch.specs.Watches.{SignsAndWatches, holders_of, without}
use Rattle.ch_ushard.specs.Effects.{HasOwners, told, farewell}

-- One more

take_suc : {X : Type 0} (xs : List X) (i : ℕ) (x : X) → slice_get xs i ≡ Some x → take (suc i) xs ≡ take i xs ++ x ∷ []
take_suc [] i x is = cc
take_suc (y ∷ ys) zero x is = let same : y ≡ x = cc in ap (λ z. z ∷ []) same
take_suc (y ∷ ys) (suc i) x is = ap (λ zs. y ∷ zs) (take_suc ys i x is)

take_next : {X : Type 0} (xs : List X) (i : ℕ) (x : X) → slice_get xs i ≡ Some x → take (i + 1) xs ≡ take i xs ++ x ∷ []
take_next xs i x is = let more : i + 1 ≡ suc i = omega arith in ap (λ n. take n xs) more ∙ take_suc xs i x is

pub flat_map_next : {X Y : Type 0} (f : X → List Y) (xs : List X) (i : ℕ) (x : X) → slice_get xs i ≡ Some x → flat_map f (take (i + 1) xs) ≡ flat_map f (take i xs) ++ f x
flat_map_next f xs i x is =
    ap (flat_map f) (take_next xs i x is) ∙ flat_map-append f (take i xs) (x ∷ []) ∙ ap (λ ys. flat_map f (take i xs) ++ ys) (append-nil (f x))

-- Owners

-- the owner of a socket is a caller's number
abbrev pub IsCaller : Holder → Type 0
IsCaller h = h.owner < MAX_CALLERS

-- the owners of the user's sockets are among the owners of all
pub owners_below : (xs : List UserSocket) (user : List ℕ) → All (λ r. r.owner < MAX_CALLERS) xs → All IsCaller (holders_of xs user)
owners_below xs user all =
    All-map IsCaller (holder_of (λ (r : UserSocket). r.socket) (λ r. r.owner)) (of_user xs user) (All-filter (λ r. bytes_eq r.user user) (λ r. r.owner < MAX_CALLERS) xs all)

-- The holders of rows

-- the frames for the sockets of the user but the excepted one
pub handed_told : (frame : Frame) (except : Option ℕ) (xs : List UserSocket) (user : List ℕ) → handed frame except (holders_of xs user) ≡ told frame except (of_user xs user)
handed_told frame except xs user = handed-rows (λ (r : UserSocket). r.socket) (λ r. r.owner) frame except (of_user xs user)

-- Watchers

keep_all : (xs : List UserSocket) → filter (λ r. true) xs ≡ xs
keep_all [] = refl
keep_all (x ∷ xs) = ap (λ ys. x ∷ ys) (keep_all xs)

-- each of the user's sockets gets the frame, where none is excepted
pub handed_all : (frame : Frame) (xs : List UserSocket) (user : List ℕ) → handed frame None (holders_of xs user) ≡ map (to_socket frame) (of_user xs user)
handed_all frame xs user = handed_told frame None xs user ∙ ap (map (to_socket frame)) (keep_all (of_user xs user))

-- where a socket is signed in as the user, nobody hears of it
pub tells_none : (online : Bool) (signs seen : List UserSocket) (user : List ℕ) → has_any signs user ≡ true → tell_watchers online signs seen user ≡ []
tells_none online signs seen user there = ap (λ b. cond b [] (map (to_socket (Watch online user)) (of_user seen user))) there

-- where no socket watches the user, nobody hears of it
pub tells_nobody : (online : Bool) (signs seen : List UserSocket) (user : List ℕ) → of_user seen user ≡ [] → tell_watchers online signs seen user ≡ []
tells_nobody online signs seen user none =
    let f : UserSocket → Delivery = to_socket (Watch online user) in
    ap (λ rs. cond (has_any signs user) [] (map f rs)) none
    ∙ elim (has_any signs user) as (λ b. cond b [] (map f []) ≡ []) [ true ↦ refl | false ↦ refl ]

-- where no socket watches the user, none does without the socket
pub unwatched_still : (seen : List UserSocket) (socket : ℕ) (user : List ℕ) → of_user seen user ≡ [] → of_user (without seen socket) user ≡ []
unwatched_still seen socket user none =
    let kept : UserSocket → Bool = λ r. not (r.socket == socket) in
    sym (filter-swap kept (λ r. bytes_eq r.user user) seen) ∙ ap (filter kept) none

-- where no socket is signed in as the user yet, each watcher hears of it
pub tells_all : (signs seen : List UserSocket) (user : List ℕ) → has_any signs user ≡ false → told (Watch true user) None (of_user seen user) ≡ tell_watchers true signs seen user
tells_all signs seen user none =
    ap (map (to_socket (Watch true user))) (keep_all (of_user seen user))
    ∙ sym (ap (λ b. cond b [] (map (to_socket (Watch true user)) (of_user seen user))) none)

-- where no other socket is signed in as the user, each other watcher hears of it
pub tells_others : (w : SignsAndWatches) (socket : ℕ) (user : List ℕ) → has_any (without w.signs socket) user ≡ false → told (Watch false user) (Some socket) (of_user w.watches user) ≡ farewell w socket user
tells_others w socket user none =
    ap (map (to_socket (Watch false user))) (filter-swap (λ r. not (r.socket == socket)) (λ r. bytes_eq r.user user) w.watches)
    ∙ sym (ap (λ b. cond b [] (map (to_socket (Watch false user)) (of_user (without w.watches socket) user))) none)

-- without a socket's rows the owners are still callers' numbers
pub HasOwners-without : (old new : SignsAndWatches) (socket : ℕ) → new.signs ≡ without old.signs socket → new.watches ≡ without old.watches socket → HasOwners old → HasOwners new
HasOwners-without old new socket signs watches owners = record {
  signs = subst (All (λ r. r.owner < MAX_CALLERS)) (sym signs) (All-filter (λ r. not (r.socket == socket)) (λ r. r.owner < MAX_CALLERS) old.signs owners.signs);
  watches = subst (All (λ r. r.owner < MAX_CALLERS)) (sym watches) (All-filter (λ r. not (r.socket == socket)) (λ r. r.owner < MAX_CALLERS) old.watches owners.watches);
}
