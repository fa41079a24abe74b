-- In a legal history a socket watches a user at most once.
use Rattle.std.proofs.Common.{◌≡◌, ℕ, true, false, cond, List, [], ◌∷◌, ◌++◌, None, refl, sym, subst}
use Rattle.ch_base.specs.Growth.{entry}
use Rattle.ch_base.specs.declared.user.UserCall.{UserCall}
use Rattle.ch_base.specs.declared.user.UserCall.TheVariants.{SignIn, Watch, Lost, Terminate, SendTo, Take}
use Rattle.ch_base.specs.declared.user.UserAnswer.{UserAnswer}
use Rattle.ch_base.specs.declared.user.UserAnswer.TheVariants.{Watching, AlreadyWatching}
use Rattle.ch_history.specs.declared.rows.UserSocket.{UserSocket}
use Rattle.ch_history.specs.Entries.{UserEntry, UserHistory}
use Rattle.ch_history.specs.SignIns.{is_watching, user_socket, begins_watch, watch_settles, watches, watching}
use Rattle.ch_history.specs.UserAnswers.{user_answer_of}
use Rattle.ch_history.specs.UserLegal.{IsUserLegal}
use Rattle.ch_history.proofs.OpenRows.{opens_nothing, AreDistinct, AreDistinct-less, AreDistinct-more}
use Rattle.ch_history.proofs.UserPush.{watches-push}
use Rattle.ch_history.proofs.UserLegal.{user_legal_induction}

abbrev pub socket_of : UserSocket → ℕ
socket_of r = r.socket

abbrev pub user_of : UserSocket → List ℕ
user_of r = r.user

-- the rows are of different sockets or of different users
abbrev pub AreApart : List UserSocket → Type 0
AreApart xs = AreDistinct socket_of user_of xs

-- an entry that begins no watch
ends_only : (h : UserHistory) (e : UserEntry) → begins_watch e ≡ None → AreApart (watches h) → AreApart (watches (h ++ e ∷ []))
ends_only h e nothing apart =
    subst AreApart (sym (watches-push h e)) (AreDistinct-less socket_of user_of begins_watch watch_settles (watches h) e nothing apart)

stays_apart : (h : UserHistory) (w : ℕ) (call : UserCall) (a : UserAnswer) → a ≡ user_answer_of h w call → AreApart (watches h) → AreApart (watches (h ++ entry w call a ∷ []))
stays_apart h w (Watch socket v at) a answered apart =
    let P : UserAnswer → Type 0 = λ a. AreApart (watches (h ++ entry w (Watch socket v at) a ∷ [])) in
    subst P (sym answered) ((elim (watching h socket v) as (λ b. watching h socket v ≡ b → P (cond b AlreadyWatching Watching)) [
      | true ↦ (λ there. ends_only h (entry w (Watch socket v at) AlreadyWatching) refl apart)
      | false ↦ (λ off.
          let e : UserEntry = entry w (Watch socket v at) Watching in
          subst AreApart (sym (watches-push h e)) (AreDistinct-more socket_of user_of begins_watch watch_settles (watches h) e (user_socket w socket v) refl off apart))
    ]) refl)
stays_apart h w (SignIn socket v at) a answered apart = ends_only h (entry w (SignIn socket v at) a) (opens_nothing (is_watching a)) apart
stays_apart h w (Lost socket at) a answered apart = ends_only h (entry w (Lost socket at) a) (opens_nothing (is_watching a)) apart
stays_apart h w (Terminate v at) a answered apart = ends_only h (entry w (Terminate v at) a) (opens_nothing (is_watching a)) apart
stays_apart h w (SendTo v event body at) a answered apart = ends_only h (entry w (SendTo v event body at) a) (opens_nothing (is_watching a)) apart
stays_apart h w Take a answered apart = ends_only h (entry w Take a) (opens_nothing (is_watching a)) apart

-- the watches of a legal history are of different places
pub watches_apart : (h : UserHistory) → IsUserLegal h → AreApart (watches h)
watches_apart h legal =
    user_legal_induction (λ g. AreApart (watches g)) tt (λ g e ok follows apart. stays_apart g e.caller e.call e.answer follows.answered apart) h legal
