-- Nothing on a shard outlives its socket.
use Rattle.std.proofs.Common.{◌≡◌, ◌≢◌, ℕ, Bool, true, false, cond, List, [], ◌∷◌, ◌++◌, All, ap, sym, subst, refl, ◌∙◌, append_assoc, inl, inr, arith}
use Rattle.std.specs.Prelude.{Option, Some, None, ◌&&◌, ◌||◌}
use Rattle.std.specs.List.{list_any, cons_option}
use Rattle.std.proofs.lemmas.Bool.{eq-eqb, false≢true}
use Rattle.std.proofs.lemmas.List.Elements.{All-append, All-cons, All-head, All-nil, All-tail, All-weaker}
use Rattle.std.proofs.lemmas.List.Folds.{list_any-append, list_any_at}
use Rattle.ch_base.specs.Growth.{entry}
use Rattle.ch_base.specs.declared.channel.ChanAnswer.{ChanAnswer}
use Rattle.ch_base.specs.declared.channel.ChanAnswer.TheVariants as chan_answer
use Rattle.ch_base.specs.declared.channel.ChanCall.{ChanCall}
use Rattle.ch_base.specs.declared.channel.ChanCall.TheVariants as chan
use Rattle.ch_base.specs.declared.user.UserAnswer.{UserAnswer}
use Rattle.ch_base.specs.declared.user.UserAnswer.TheVariants as user_answer
use Rattle.ch_base.specs.declared.user.UserCall.{UserCall}
use Rattle.ch_base.specs.declared.user.UserCall.TheVariants as user
use Rattle.ch_history.specs.Entries.{UserEntry, UserHistory}
use Rattle.ch_history.specs.OpenRows.{open_rows, unsettled}
use Rattle.ch_history.specs.SignIns.{begins_watch, is_signed_in, is_watching, sign_ins, sign_settles, signs_in, watch_settles, watches}
use Rattle.ch_history.specs.Subscriptions.{is_joined, opened_by, settles, subscriptions}
use Rattle.ch_history.specs.declared.rows.UserSocket.{UserSocket}
use Rattle.ch_protocol.specs.Settling.{SettledAsk, holds, is_on_chan, is_on_user, uses_chan, uses_user}
use Rattle.ch_protocol.specs.declared.ask.Ask.TheVariants.{Chan, User}
use Rattle.ch_protocol.specs.declared.ask.Made.TheVariants as made
use Rattle.ch_live.specs.LossLaws.{Ended, IsAloneWithNumber, IsLostOnChan, IsLostOnUser, NothingOutlives, OpensFor, SignsFor, WasSettled}
use Rattle.ch_live.specs.LossRuns.{IsLater}
use Rattle.ch_live.proofs.LossesOnce.{decide}
use Rattle.ch_live.proofs.LossesStand.{later_over, losses_stand}

-- ---- rows of a socket

or_true : (a : Bool) → (a || true) ≡ true
or_true true = refl
or_true false = refl

any_there : {S : Type 0} (p : S → Bool) (before after : List S) (e : S) → p e ≡ true → list_any p (before ++ e ∷ after) ≡ true
any_there p before after e passes =
    list_any-append p before (e ∷ after) ∙ ap (λ b. list_any p before || b) (list_any_at p (e ∷ after) 0 e (omega arith) passes)
    ∙ or_true (list_any p before)

all_back : {S : Type 0} (P : S → Type 0) (xs ys : List S) → All P (xs ++ ys) → All P ys
all_back P [] ys all = all
all_back P (x ∷ xs) ys all = all_back P xs ys (All-tail P x (xs ++ ys) all)

kept_row : {R : Type 0} (b : Bool) (q r : R) → cond b None (Some q) ≡ Some r → (b ≡ false) × (q ≡ r)
kept_row true q r is = cc
kept_row false q r is = (refl, cc)

some_row : {R : Type 0} (b : Bool) (o : Option R) (r : R) → cond b o None ≡ Some r → b ≡ true
some_row true o r is = refl
some_row false o r is = cc

module _ {S R : Type 0} (opens : S → Option R) (settles_row : R → S → Bool) (socket_of : R → ℕ) (socket : ℕ) where
  abbrev Opens : S → Type 0
  Opens x = (r : R) × (opens x ≡ Some r) × (socket_of r ≡ socket)

  abbrev Others : List R → Type 0
  Others rows = All (λ r. socket_of r ≢ socket) rows

  other_row : (o : Option R) (rows : List R) → ((r : R) → o ≡ Some r → socket_of r ≢ socket) → Others rows → Others (cons_option o rows)
  other_row None rows other all = all
  other_row (Some r) rows other all = All-cons (λ q. socket_of q ≢ socket) r rows (other r refl) all

  unsettled_is : (o : Option R) (later : List S) (r : R) → unsettled settles_row later o ≡ Some r → o ≡ Some r
  unsettled_is None later r is = cc
  unsettled_is (Some q) later r is = ap Some (kept_row (list_any (settles_row q) later) q r is).1

  settled_row : (o : Option R) (later : List S) (r : R) → unsettled settles_row later o ≡ Some r → list_any (settles_row r) later ≡ true → ⊥
  settled_row None later r is settled = cc
  settled_row (Some q) later r is settled =
      let k = kept_row (list_any (settles_row q) later) q r is in
      false≢true (sym (subst (λ z. list_any (settles_row z) later ≡ false) k.1 k.0) ∙ settled)

  -- where nothing is opened for the socket, no row is the socket's
  none_open : (h : List S) → All (λ x. Opens x → ⊥) h → Others (open_rows opens settles_row h)
  none_open [] none = All-nil (λ r. socket_of r ≢ socket)
  none_open (x ∷ h) none =
      other_row (unsettled settles_row h (opens x)) (open_rows opens settles_row h)
      (λ r is mine. All-head (λ y. Opens y → ⊥) x h none (r, unsettled_is (opens x) h r is, mine))
      (none_open h (All-tail (λ y. Opens y → ⊥) x h none))

  -- and so after an entry that settles all rows of the socket
  none_after : (before after : List S) (e : S) → ((r : R) → socket_of r ≡ socket → settles_row r e ≡ true) → All (λ x. Opens x → ⊥) (e ∷ after)
      → Others (open_rows opens settles_row (before ++ e ∷ after))
  none_after [] after e ends none = none_open (e ∷ after) none
  none_after (x ∷ before) after e ends none =
      other_row (unsettled settles_row (before ++ e ∷ after) (opens x)) (open_rows opens settles_row (before ++ e ∷ after))
      (λ r is mine. settled_row (opens x) (before ++ e ∷ after) r is (any_there (settles_row r) before after e (ends r mine)))
      (none_after before after e ends none)

-- ---- the shards that a session uses

joined_holds : (a : ChanAnswer) → is_joined a ≡ true → holds (made.Chan a) ≡ true
joined_holds chan_answer.Joined is = refl
joined_holds chan_answer.Already is = cc
joined_holds chan_answer.Crowded is = cc
joined_holds chan_answer.Left is = cc
joined_holds chan_answer.NotOn is = cc
joined_holds (chan_answer.Gone count) is = cc
joined_holds (chan_answer.Sent subs users) is = cc
joined_holds chan_answer.Said is = cc
joined_holds (chan_answer.Frames frames) is = cc
joined_holds (chan_answer.Hooks hooks) is = cc
joined_holds (chan_answer.Rows rows) is = cc
joined_holds (chan_answer.Looked subs users cache) is = cc
joined_holds (chan_answer.Ids ids) is = cc

signed_holds : (a : UserAnswer) → is_signed_in a ≡ true → holds (made.User a) ≡ true
signed_holds user_answer.SignedIn is = refl
signed_holds user_answer.AlreadyIn is = cc
signed_holds user_answer.Watching is = cc
signed_holds user_answer.AlreadyWatching is = cc
signed_holds (user_answer.Gone signs watches) is = cc
signed_holds (user_answer.Killed count) is = cc
signed_holds (user_answer.SentTo count) is = cc
signed_holds (user_answer.Frames frames) is = cc

watching_holds : (a : UserAnswer) → is_watching a ≡ true → holds (made.User a) ≡ true
watching_holds user_answer.Watching is = refl
watching_holds user_answer.SignedIn is = cc
watching_holds user_answer.AlreadyIn is = cc
watching_holds user_answer.AlreadyWatching is = cc
watching_holds (user_answer.Gone signs watches) is = cc
watching_holds (user_answer.Killed count) is = cc
watching_holds (user_answer.SentTo count) is = cc
watching_holds (user_answer.Frames frames) is = cc

chan_used : (asks : List SettledAsk) (k : ℕ) (call : ChanCall) (answer : ChanAnswer) → WasSettled asks (Chan k call) (made.Chan answer)
    → holds (made.Chan answer) ≡ true → uses_chan asks k ≡ true
chan_used asks k call answer w held =
    let x = w.0 in
    let both : (holds x.answer && is_on_chan k x.ask) ≡ true =
    ap (λ a. holds a && is_on_chan k x.ask) w.3 ∙ ap (λ b. b && is_on_chan k x.ask) held ∙ ap (λ a. true && is_on_chan k a) w.2 ∙ eq-eqb k k refl in
    list_any_at (λ (y : SettledAsk). holds y.answer && is_on_chan k y.ask) asks w.1.0 x w.1.1
    (subst (λ (y : SettledAsk). (holds y.answer && is_on_chan k y.ask) ≡ true) (sym w.1.2) both)

user_used : (asks : List SettledAsk) (k : ℕ) (call : UserCall) (answer : UserAnswer) → WasSettled asks (User k call) (made.User answer)
    → holds (made.User answer) ≡ true → uses_user asks k ≡ true
user_used asks k call answer w held =
    let x = w.0 in
    let both : (holds x.answer && is_on_user k x.ask) ≡ true =
    ap (λ a. holds a && is_on_user k x.ask) w.3 ∙ ap (λ b. b && is_on_user k x.ask) held ∙ ap (λ a. true && is_on_user k a) w.2 ∙ eq-eqb k k refl in
    list_any_at (λ (y : SettledAsk). holds y.answer && is_on_user k y.ask) asks w.1.0 x w.1.1
    (subst (λ (y : SettledAsk). (holds y.answer && is_on_user k y.ask) ≡ true) (sym w.1.2) both)

-- ---- one shard

module _ (e : Ended) (alone : IsAloneWithNumber e) (later : IsLater e.old e.new) (k : ℕ) where
  chan_lost : IsLostOnChan e k → All (λ r. r.socket ≢ e.session.number) (subscriptions (e.new.chans k))
  chan_lost lost =
      let x = entry e.old.caller (chan.Lost e.session.number lost.0) lost.1 in
      let more : e.new.chans k ≡ e.old.chans k ++ (lost.2.0 ++ x ∷ lost.2.1) = lost.2.2 ∙ append_assoc (e.old.chans k) lost.2.0 (x ∷ lost.2.1) in
      subst (λ h. All (λ r. r.socket ≢ e.session.number) (subscriptions h)) (sym lost.2.2)
      (none_after opened_by settles (λ r. r.socket) e.session.number (e.old.chans k ++ lost.2.0) lost.2.1 x
      (λ r mine. eq-eqb r.socket e.session.number mine)
      (all_back (λ y. OpensFor e.session.number y → ⊥) lost.2.0 (x ∷ lost.2.1) (alone.no_more k (lost.2.0 ++ x ∷ lost.2.1) more)))

  chan_unused : uses_chan e.asks k ≡ false → All (λ r. r.socket ≢ e.session.number) (subscriptions (e.new.chans k))
  chan_unused unused =
      let grew = later.chans k in
      subst (λ h. All (λ r. r.socket ≢ e.session.number) (subscriptions h)) (sym grew.1)
      (none_open opened_by settles (λ r. r.socket) e.session.number (e.old.chans k ++ grew.0)
      (All-append (λ y. OpensFor e.session.number y → ⊥) (e.old.chans k) grew.0
      (All-weaker (λ y. OpensFor e.session.number y → WasSettled e.asks (Chan k y.call) (made.Chan y.answer)) (λ y. OpensFor e.session.number y → ⊥)
      (λ y settled opens. false≢true (sym unused ∙ chan_used e.asks k y.call y.answer (settled opens)
      (joined_holds y.answer (some_row (is_joined y.answer) _ opens.0 opens.1)))) (e.old.chans k) (alone.chans k))
      (alone.no_more k grew.0 grew.1)))

  -- an entry of either kind on a user shard
  held : (y : UserEntry) → SignsFor e.session.number y → holds (made.User y.answer) ≡ true
  held y opens = elim opens.1 [
    | inl signs ↦ signed_holds y.answer (some_row (is_signed_in y.answer) _ opens.0 signs)
    | inr begins ↦ watching_holds y.answer (some_row (is_watching y.answer) _ opens.0 begins)
  ]

  user_none : uses_user e.asks k ≡ false → All (λ y. SignsFor e.session.number y → ⊥) (e.new.users k)
  user_none unused =
      let grew = later.users k in
      subst (λ h. All (λ y. SignsFor e.session.number y → ⊥) h) (sym grew.1)
      (All-append (λ y. SignsFor e.session.number y → ⊥) (e.old.users k) grew.0
      (All-weaker (λ y. SignsFor e.session.number y → WasSettled e.asks (User k y.call) (made.User y.answer)) (λ y. SignsFor e.session.number y → ⊥)
      (λ y settled opens. false≢true (sym unused ∙ user_used e.asks k y.call y.answer (settled opens) (held y opens))) (e.old.users k) (alone.users k))
      (alone.none_more k grew.0 grew.1))

  signs_none : (h : UserHistory) → All (λ y. SignsFor e.session.number y → ⊥) h → All (λ y. ((r : UserSocket) × (signs_in y ≡ Some r) × (r.socket ≡ e.session.number)) → ⊥) h
  signs_none h none = All-weaker (λ y. SignsFor e.session.number y → ⊥) (λ y. ((r : UserSocket) × (signs_in y ≡ Some r) × (r.socket ≡ e.session.number)) → ⊥)
      (λ y never opens. never (opens.0, inl opens.1, opens.2)) h none

  begins_none : (h : UserHistory) → All (λ y. SignsFor e.session.number y → ⊥) h → All (λ y. ((r : UserSocket) × (begins_watch y ≡ Some r) × (r.socket ≡ e.session.number)) → ⊥) h
  begins_none h none = All-weaker (λ y. SignsFor e.session.number y → ⊥) (λ y. ((r : UserSocket) × (begins_watch y ≡ Some r) × (r.socket ≡ e.session.number)) → ⊥)
      (λ y never opens. never (opens.0, inr opens.1, opens.2)) h none

  user_unused : uses_user e.asks k ≡ false
      → All (λ r. r.socket ≢ e.session.number) (sign_ins (e.new.users k)) × All (λ r. r.socket ≢ e.session.number) (watches (e.new.users k))
  user_unused unused =
      let none = user_none unused in (
        none_open signs_in sign_settles (λ r. r.socket) e.session.number (e.new.users k) (signs_none (e.new.users k) none),
        none_open begins_watch watch_settles (λ r. r.socket) e.session.number (e.new.users k) (begins_none (e.new.users k) none),
      )

  user_lost : IsLostOnUser e k
      → All (λ r. r.socket ≢ e.session.number) (sign_ins (e.new.users k)) × All (λ r. r.socket ≢ e.session.number) (watches (e.new.users k))
  user_lost lost =
      let x = entry e.old.caller (user.Lost e.session.number lost.0) lost.1 in
      let more : e.new.users k ≡ e.old.users k ++ (lost.2.0 ++ x ∷ lost.2.1) = lost.2.2 ∙ append_assoc (e.old.users k) lost.2.0 (x ∷ lost.2.1) in
      let none = all_back (λ y. SignsFor e.session.number y → ⊥) lost.2.0 (x ∷ lost.2.1) (alone.none_more k (lost.2.0 ++ x ∷ lost.2.1) more) in (
        subst (λ h. All (λ r. r.socket ≢ e.session.number) (sign_ins h)) (sym lost.2.2)
            (none_after signs_in sign_settles (λ r. r.socket) e.session.number (e.old.users k ++ lost.2.0) lost.2.1 x
            (λ r mine. eq-eqb r.socket e.session.number mine) (signs_none (x ∷ lost.2.1) none)),
        subst (λ h. All (λ r. r.socket ≢ e.session.number) (watches h)) (sym lost.2.2)
            (none_after begins_watch watch_settles (λ r. r.socket) e.session.number (e.old.users k ++ lost.2.0) lost.2.1 x
            (λ r mine. eq-eqb r.socket e.session.number mine) (begins_none (x ∷ lost.2.1) none)),
      )

-- ---- all shards

pub nothing_outlives : NothingOutlives
nothing_outlives calls c peer old new start number asks is over all alone =
    let e : Ended = record { session = c.session; asks = asks; old = old; new = new } in
    let later = later_over calls c peer old new over in
    let lost = losses_stand calls c peer old new start number asks is over all in (
      (λ k below. elim (decide (uses_chan asks k)) [
        | inl used ↦ chan_lost e alone later k (lost.0 k below used)
        | inr unused ↦ chan_unused e alone later k unused
      ]),
      (λ k below. elim (decide (uses_user asks k)) [
        | inl used ↦ user_lost e alone later k (lost.1 k below used)
        | inr unused ↦ user_unused e alone later k unused
      ]),
    )
