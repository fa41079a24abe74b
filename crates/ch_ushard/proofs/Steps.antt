-- What each call changes is what the definitions say of its entry.
use Rattle.std.proofs.Common.{◌≡◌, ◌≢◌, ℕ, Bool, true, false, ◌==◌, cond, List, [], ◌∷◌, ◌++◌, refl, ap, sym, subst, ◌∙◌, append-nil, arith, MatchBool, None, ap₂, flat_map, option_to_list}
use Rattle.std.specs.List.{list_any}
use Rattle.std.proofs.lemmas.Bool.Decides.{nat_tests}
use Rattle.ch_base.specs.Growth.{entry}
use Rattle.ch_base.specs.declared.user.UserCall.TheVariants.{SignIn, Watch, Lost, Terminate, SendTo, Take}
use Rattle.ch_base.specs.declared.user.UserAnswer.{UserAnswer}
use Rattle.ch_base.specs.declared.user.UserAnswer.TheVariants.{SignedIn, AlreadyIn, Watching, AlreadyWatching}
use Rattle.ch_base.specs.declared.frame.Frame.TheVariants as frame
use Rattle.ch_history.specs.declared.rows.UserSocket.{UserSocket}
use Rattle.ch_history.specs.Entries.{UserEntry}
use Rattle.ch_history.specs.Deliveries.{delivery, for_owner}
use Rattle.ch_history.specs.SignIns.{is_signed_in, is_watching, user_socket, signs_in, sign_settles, sign_ins_after, begins_watch, watch_settles, watches_after, has_one_of, has_any, users_of}
use Rattle.ch_history.specs.UserFrames.{tell_watchers}
use Rattle.ch_history.proofs.Lists.{filter-none}
use Rattle.ch_history.proofs.OpenRows.{opens_nothing, rows-same, none_settled, not_among}
use Rattle.ch_history.proofs.SignIns.{socket_of, user_of}
use Rattle.ch_outbox.specs.Outbox.{frames_of}
use Rattle.ch_watch.specs.Watches.{without}
use Rattle.ch_ushard.specs.UserShardState.{UserShardState, Changes, IsUnchanged, SignInGives, WatchGives, LostGives, TerminateGives, SendToGives, TakeGives}
use Rattle.ch_ushard.proofs.Simulation.{Moves}

-- an entry that makes no sign-in and settles none
signs_stay : (xs : List UserSocket) (e : UserEntry) → ((r : UserSocket) → sign_settles r e ≡ false) → signs_in e ≡ None → xs ≡ sign_ins_after xs e
signs_stay xs e none nothing = sym (rows-same signs_in sign_settles xs e nothing (none_settled sign_settles xs e none))

-- an entry that begins no watch and settles none
watches_stay : (xs : List UserSocket) (e : UserEntry) → ((r : UserSocket) → watch_settles r e ≡ false) → begins_watch e ≡ None → xs ≡ watches_after xs e
watches_stay xs e none nothing = sym (rows-same begins_watch watch_settles xs e nothing (none_settled watch_settles xs e none))

-- an entry that makes no frames, of a call that is no Take
no_frames : (old new : UserShardState) (w : ℕ) → frames_of new.outbox w ≡ frames_of old.outbox w → frames_of new.outbox w ≡ frames_of old.outbox w ++ []
no_frames old new w same = same ∙ sym (append-nil (frames_of old.outbox w))

-- SignIn

signs_anew : (old new : UserShardState) (w socket : ℕ) (u : List ℕ) (at : ℕ) → has_one_of old.users.signs socket u ≡ false
    → Changes old new (old.users.signs ++ user_socket w socket u ∷ []) old.users.watches (tell_watchers true old.users.signs old.users.watches u) → Moves old new (entry w (SignIn socket u at) SignedIn)
signs_anew old new w socket u at off changes =
    let e : UserEntry = entry w (SignIn socket u at) SignedIn in
    let none : list_any (λ r. sign_settles r e) old.users.signs ≡ false = not_among socket_of user_of old.users.signs socket u off in
    record {
      answered = sym (ap (λ b. cond b AlreadyIn SignedIn) off);
      signs = changes.signs ∙ ap (λ ys. ys ++ user_socket w socket u ∷ []) (sym (filter-none (λ r. sign_settles r e) old.users.signs none));
      watches = changes.watches ∙ watches_stay old.users.watches e (λ r. refl) refl;
      frames = changes.frames;
    }

signs_again : (old new : UserShardState) (w socket : ℕ) (u : List ℕ) (at : ℕ) → has_one_of old.users.signs socket u ≡ true → IsUnchanged old new → Moves old new (entry w (SignIn socket u at) AlreadyIn)
signs_again old new w socket u at there same =
    let e : UserEntry = entry w (SignIn socket u at) AlreadyIn in
    record {
      answered = sym (ap (λ b. cond b AlreadyIn SignedIn) there);
      signs = same.signs ∙ signs_stay old.users.signs e (λ r. refl) refl;
      watches = same.watches ∙ watches_stay old.users.watches e (λ r. refl) refl;
      frames = λ v. no_frames old new v (same.frames v);
    }

signs_by : (old new : UserShardState) (w socket : ℕ) (u : List ℕ) (at : ℕ) (a : UserAnswer) (there : Bool) → has_one_of old.users.signs socket u ≡ there
    → MatchBool there ((a ≡ AlreadyIn) × IsUnchanged old new) ((a ≡ SignedIn) × Changes old new (old.users.signs ++ user_socket w socket u ∷ []) old.users.watches (tell_watchers true old.users.signs old.users.watches u))
    → Moves old new (entry w (SignIn socket u at) a)
signs_by old new w socket u at a true is gives =
    let P : UserAnswer → Type 0 = λ x. Moves old new (entry w (SignIn socket u at) x) in subst P (sym gives.0) (signs_again old new w socket u at is gives.1)
signs_by old new w socket u at a false is gives =
    let P : UserAnswer → Type 0 = λ x. Moves old new (entry w (SignIn socket u at) x) in subst P (sym gives.0) (signs_anew old new w socket u at is gives.1)

pub signs : (old new : UserShardState) (w socket : ℕ) (u : List ℕ) (at : ℕ) (a : UserAnswer) → SignInGives old new w socket u a → Moves old new (entry w (SignIn socket u at) a)
signs old new w socket u at a gives = signs_by old new w socket u at a (has_one_of old.users.signs socket u) refl gives

-- Watch

watches_anew : (old new : UserShardState) (w socket : ℕ) (u : List ℕ) (at : ℕ) → has_one_of old.users.watches socket u ≡ false
    → Changes old new old.users.signs (old.users.watches ++ user_socket w socket u ∷ []) (cond (has_any old.users.signs u) (delivery w socket (frame.Watch true u) ∷ []) []) → Moves old new (entry w (Watch socket u at) Watching)
watches_anew old new w socket u at off changes =
    let e : UserEntry = entry w (Watch socket u at) Watching in
    let none : list_any (λ r. watch_settles r e) old.users.watches ≡ false = not_among socket_of user_of old.users.watches socket u off in
    record {
      answered = sym (ap (λ b. cond b AlreadyWatching Watching) off);
      signs = changes.signs ∙ signs_stay old.users.signs e (λ r. refl) refl;
      watches = changes.watches ∙ ap (λ ys. ys ++ user_socket w socket u ∷ []) (sym (filter-none (λ r. watch_settles r e) old.users.watches none));
      frames = changes.frames;
    }

watches_again : (old new : UserShardState) (w socket : ℕ) (u : List ℕ) (at : ℕ) → has_one_of old.users.watches socket u ≡ true → IsUnchanged old new → Moves old new (entry w (Watch socket u at) AlreadyWatching)
watches_again old new w socket u at there same =
    let e : UserEntry = entry w (Watch socket u at) AlreadyWatching in
    record {
      answered = sym (ap (λ b. cond b AlreadyWatching Watching) there);
      signs = same.signs ∙ signs_stay old.users.signs e (λ r. refl) refl;
      watches = same.watches ∙ watches_stay old.users.watches e (λ r. refl) refl;
      frames = λ v. no_frames old new v (same.frames v);
    }

watches_by : (old new : UserShardState) (w socket : ℕ) (u : List ℕ) (at : ℕ) (a : UserAnswer) (there : Bool) → has_one_of old.users.watches socket u ≡ there
    → MatchBool there ((a ≡ AlreadyWatching) × IsUnchanged old new) ((a ≡ Watching) × Changes old new old.users.signs (old.users.watches ++ user_socket w socket u ∷ []) (cond (has_any old.users.signs u) (delivery w socket (frame.Watch true u) ∷ []) []))
    → Moves old new (entry w (Watch socket u at) a)
watches_by old new w socket u at a true is gives =
    let P : UserAnswer → Type 0 = λ x. Moves old new (entry w (Watch socket u at) x) in subst P (sym gives.0) (watches_again old new w socket u at is gives.1)
watches_by old new w socket u at a false is gives =
    let P : UserAnswer → Type 0 = λ x. Moves old new (entry w (Watch socket u at) x) in subst P (sym gives.0) (watches_anew old new w socket u at is gives.1)

pub watches : (old new : UserShardState) (w socket : ℕ) (u : List ℕ) (at : ℕ) (a : UserAnswer) → WatchGives old new w socket u a → Moves old new (entry w (Watch socket u at) a)
watches old new w socket u at a gives = watches_by old new w socket u at a (has_one_of old.users.watches socket u) refl gives

-- Lost

-- a loss opens nothing, whatever it is answered
less_signs : (xs : List UserSocket) (w socket at : ℕ) (a : UserAnswer) → without xs socket ≡ sign_ins_after xs (entry w (Lost socket at) a)
less_signs xs w socket at a =
    sym (append-nil (without xs socket)) ∙ ap (λ o. without xs socket ++ option_to_list o) (sym (opens_nothing (is_signed_in a)))

less_watches : (xs : List UserSocket) (w socket at : ℕ) (a : UserAnswer) → without xs socket ≡ watches_after xs (entry w (Lost socket at) a)
less_watches xs w socket at a =
    sym (append-nil (without xs socket)) ∙ ap (λ o. without xs socket ++ option_to_list o) (sym (opens_nothing (is_watching a)))

pub loses : (old new : UserShardState) (w socket at : ℕ) (a : UserAnswer) → LostGives old new socket a → Moves old new (entry w (Lost socket at) a)
loses old new w socket at a gives = record {
  answered = gives.0;
  signs = gives.1.signs ∙ less_signs old.users.signs w socket at a;
  watches = gives.1.watches ∙ less_watches old.users.watches w socket at a;
  frames = λ v. gives.1.frames v
      ∙ sym (ap₂ (λ xs ys. frames_of old.outbox v ++ for_owner v (flat_map (tell_watchers false xs ys) (users_of old.users.signs socket))) gives.1.signs gives.1.watches);
}

-- Terminate and SendTo

pub terminates : (old new : UserShardState) (w : ℕ) (u : List ℕ) (at : ℕ) (a : UserAnswer) → TerminateGives old new u a → Moves old new (entry w (Terminate u at) a)
terminates old new w u at a gives =
    let e : UserEntry = entry w (Terminate u at) a in
    record {
      answered = gives.0;
      signs = gives.1.signs ∙ signs_stay old.users.signs e (λ r. refl) (opens_nothing (is_signed_in a));
      watches = gives.1.watches ∙ watches_stay old.users.watches e (λ r. refl) (opens_nothing (is_watching a));
      frames = gives.1.frames;
    }

pub sends : (old new : UserShardState) (w : ℕ) (u event body : List ℕ) (at : ℕ) (a : UserAnswer) → SendToGives old new u event body a → Moves old new (entry w (SendTo u event body at) a)
sends old new w u event body at a gives =
    let e : UserEntry = entry w (SendTo u event body at) a in
    record {
      answered = gives.0;
      signs = gives.1.signs ∙ signs_stay old.users.signs e (λ r. refl) (opens_nothing (is_signed_in a));
      watches = gives.1.watches ∙ watches_stay old.users.watches e (λ r. refl) (opens_nothing (is_watching a));
      frames = gives.1.frames;
    }

-- Take

pub takes_frames : (old new : UserShardState) (w : ℕ) (a : UserAnswer) → TakeGives old new w a → Moves old new (entry w Take a)
takes_frames old new w a gives =
    let e : UserEntry = entry w Take a in
    record {
      answered = gives.answered;
      signs = gives.signs ∙ signs_stay old.users.signs e (λ r. refl) (opens_nothing (is_signed_in a));
      watches = gives.watches ∙ watches_stay old.users.watches e (λ r. refl) (opens_nothing (is_watching a));
      frames = λ v.
          (elim (w == v) as (λ b. (w == v) ≡ b → frames_of new.outbox v ≡ cond b [] (frames_of old.outbox v ++ [])) [
            | true ↦ (λ is. let same : v ≡ w = grind (arith, nat_tests) in rw same gives.emptied)
            | false ↦ (λ is. let other : v ≢ w = grind (arith, nat_tests) in gives.others v other ∙ sym (append-nil (frames_of old.outbox v)))
          ]) refl;
    }
