-- The losses of a socket, made one after another over the row of the channel shards and then the user shards.
use Rattle.std.proofs.Common.{◌≡◌, ◌≢◌, ◌∙◌, ℕ, zero, suc, ◌<◌, ◌≤◌, ◌+◌, ◌-◌, Bool, true, false, eqb, cond, List, ◌∷◌, length, ap, sym, subst, refl, inl, inr, arith}
use Rattle.std.specs.Prelude.{nat_lt, Result, Ok, Err, OnOk}
use Rattle.std.proofs.lemmas.Bool.{cases_eq, cases_lt, lt-ltb, le-ltb, eq-eqb, ne_eqb, cond-true, cond-false}
use Rattle.ch_base.specs.declared.channel.ChanCall.TheVariants.{Lost}
use Rattle.ch_base.specs.declared.user.UserCall.TheVariants as user
use Rattle.ch_base.specs.declared.memory.Memory.{Memory}
use Rattle.ch_desk.specs.AloneCalls.{CallsAlone, IsAlone, IsAt}
use Rattle.ch_desk.specs.Views.{DeskView}
use Rattle.ch_dispatch.specs.Losses.{AreAllLosses, MakesLosses}
use Rattle.ch_history.specs.Alone.{with_call, with_user_call}
use Rattle.ch_protocol.specs.Asks.{Asked, asks_of}
use Rattle.ch_protocol.specs.Settling.{uses_chan, uses_user}
use Rattle.ch_protocol.specs.Shards.{Shards, after_ask, after_asks, loses}
use Rattle.ch_protocol.specs.declared.ask.Ask.{Ask}
use Rattle.ch_session.specs.Kept.{Kept}
use Rattle.ch_session.specs.Losses.{losses_from, loss_at}
use Rattle.ch_session.specs.Told.{uses_place}
use Rattle.ch_socket.specs.Sockets.{IsOpen}
use Rattle.ch_socket.specs.Turns.{MayTurn}
use Rattle.ch_transcript.specs.declared.start.TheConstants.{START_SECOND}
use Rattle.ch_transcript.specs.Progress.{Socket}

-- ---- one loss

peel_by : (b : Bool) (ask : Ask) (rest : List Ask) (shards : Shards) → after_asks shards (cond b (ask ∷ rest) rest) ≡ after_asks (cond b (after_ask shards ask) shards) rest
peel_by true ask rest shards = refl
peel_by false ask rest shards = refl

module _ (n number at : ℕ) where
  -- the shards with the loss at this place, if there is one
  abbrev pub stepped : Bool → ℕ → Shards → Shards
  stepped b place shards = cond b (after_ask shards (loss_at n number at place)) shards

  chan_other : (b : Bool) (place k : ℕ) (shards : Shards) → k ≢ place → (stepped b place shards).chans k ≡ shards.chans k
  chan_other false place k shards other = refl
  chan_other true place k shards other = elim (cases_lt place n) [
    | inl low ↦ rw (lt-ltb place n low) (cond-false (eqb k place) (with_call (shards.chans place) (Lost number at)) (shards.chans k) (ne_eqb k place other))
    | inr high ↦ rw (le-ltb place n high) refl
  ]

  chan_here : (b : Bool) (k : ℕ) (shards : Shards) → k < n → (stepped b k shards).chans k ≡ cond b (with_call (shards.chans k) (Lost number at)) (shards.chans k)
  chan_here false k shards low = refl
  chan_here true k shards low = rw (lt-ltb k n low) (cond-true (eqb k k) (with_call (shards.chans k) (Lost number at)) (shards.chans k) (eq-eqb k k refl))

  user_other : (b : Bool) (place k : ℕ) (shards : Shards) → place ≢ n + k → (stepped b place shards).users k ≡ shards.users k
  user_other false place k shards other = refl
  user_other true place k shards other = elim (cases_lt place n) [
    | inl low ↦ rw (lt-ltb place n low) refl
    | inr high ↦ rw (le-ltb place n high)
        (cond-false (eqb k (place - n)) (with_user_call (shards.users (place - n)) (user.Lost number at)) (shards.users k) (ne_eqb k (place - n) (λ same. other (omega (arith, same, high)))))
  ]

  user_at : (k j : ℕ) (shards : Shards) → j ≡ k → cond (eqb k j) (with_user_call (shards.users j) (user.Lost number at)) (shards.users k) ≡ with_user_call (shards.users k) (user.Lost number at)
  user_at k j shards same =
      cond-true (eqb k j) (with_user_call (shards.users j) (user.Lost number at)) (shards.users k) (eq-eqb k j (sym same)) ∙ ap (λ i. with_user_call (shards.users i) (user.Lost number at)) same

  user_here : (b : Bool) (k : ℕ) (shards : Shards) → (stepped b (n + k) shards).users k ≡ cond b (with_user_call (shards.users k) (user.Lost number at)) (shards.users k)
  user_here false k shards = refl
  user_here true k shards = let j = n + k - n in
      let back : j ≡ k = omega arith in
      rw (le-ltb (n + k) n (omega arith)) (user_at k j shards back)

  -- ---- all losses

  module _ (uses : ℕ → Bool) where
    abbrev pub at_end : ℕ → ℕ → Shards → Shards
    at_end left place shards = after_asks shards (losses_from uses (loss_at n number at) left place)

    peel : (left place : ℕ) (shards : Shards) → at_end (suc left) place shards ≡ at_end left (place + 1) (stepped (uses place) place shards)
    peel left place shards = peel_by (uses place) (loss_at n number at place) (losses_from uses (loss_at n number at) left (place + 1)) shards

    -- a shard that is behind is as it was
    chan_behind : (left place k : ℕ) (shards : Shards) → k < place → (at_end left place shards).chans k ≡ shards.chans k
    chan_behind zero place k shards behind = refl
    chan_behind (suc left) place k shards behind =
        ap (λ (z : Shards). z.chans k) (peel left place shards) ∙ chan_behind left (place + 1) k (stepped (uses place) place shards) (omega (arith, behind))
        ∙ chan_other (uses place) place k shards (λ same. omega (arith, same, behind))

    pub chan_ahead : (left place k : ℕ) (shards : Shards) → place ≤ k → k < place + left → k < n
        → (at_end left place shards).chans k ≡ cond (uses k) (with_call (shards.chans k) (Lost number at)) (shards.chans k)
    chan_ahead zero place k shards ahead within low = absurd (omega (arith, ahead, within))
    chan_ahead (suc left) place k shards ahead within low =
        ap (λ (z : Shards). z.chans k) (peel left place shards) ∙ elim (cases_eq k place) [
          | inl same ↦ chan_behind left (place + 1) k (stepped (uses place) place shards) (omega (arith, same))
              ∙ subst (λ p. (stepped (uses p) p shards).chans k ≡ cond (uses k) (with_call (shards.chans k) (Lost number at)) (shards.chans k)) same (chan_here (uses k) k shards low)
          | inr other ↦ chan_ahead left (place + 1) k (stepped (uses place) place shards) (omega (arith, ahead, other)) (omega (arith, within)) low
              ∙ ap (λ h. cond (uses k) (with_call h (Lost number at)) h) (chan_other (uses place) place k shards other)
        ]

    user_behind : (left place k : ℕ) (shards : Shards) → n + k < place → (at_end left place shards).users k ≡ shards.users k
    user_behind zero place k shards behind = refl
    user_behind (suc left) place k shards behind =
        ap (λ (z : Shards). z.users k) (peel left place shards) ∙ user_behind left (place + 1) k (stepped (uses place) place shards) (omega (arith, behind))
        ∙ user_other (uses place) place k shards (λ same. omega (arith, same, behind))

    pub user_ahead : (left place k : ℕ) (shards : Shards) → place ≤ n + k → n + k < place + left
        → (at_end left place shards).users k ≡ cond (uses (n + k)) (with_user_call (shards.users k) (user.Lost number at)) (shards.users k)
    user_ahead zero place k shards ahead within = absurd (omega (arith, ahead, within))
    user_ahead (suc left) place k shards ahead within =
        ap (λ (z : Shards). z.users k) (peel left place shards) ∙ elim (cases_eq place (n + k)) [
          | inl same ↦ user_behind left (place + 1) k (stepped (uses place) place shards) (omega (arith, same))
              ∙ subst (λ p. (stepped (uses p) p shards).users k ≡ cond (uses (n + k)) (with_user_call (shards.users k) (user.Lost number at)) (shards.users k)) (sym same) (user_here (uses (n + k)) k shards)
          | inr other ↦ user_ahead left (place + 1) k (stepped (uses place) place shards) (omega (arith, ahead, other)) (omega (arith, within))
              ∙ ap (λ h. cond (uses (n + k)) (with_user_call h (user.Lost number at)) h) (user_other (uses place) place k shards other)
        ]

-- ---- the losses of a session

pub are_lost : CallsAlone → (number at : ℕ) (asked : List Asked) (old_session session : Kept) (old desk : DeskView) (s : Socket) (shards : Shards) → MayTurn number old_session old
    → MakesLosses at asked old_session session old desk → AreAllLosses at asked old_session → IsOpen number old_session s → IsAt old shards → IsAlone desk
    → IsAt desk (loses number at s.asks shards)
are_lost law number at asked old_session session old desk s shards may made all socket lists alone =
    let come = law asked old desk shards made.calls made.answered alone lists in
    let n = old.chan_shards in
    let m = old.user_shards in
    let counts = made.calls.same in
    let chans : old_session.chans ≡ n = may.ready.over.chans ∙ sym may.shards.chan_shards in
    let row : length old_session.told.used ≡ n + m = omega (arith, may.ready.over.shards, may.shards.chan_shards, may.shards.user_shards) in
    let left : length old_session.told.used - old_session.lost ≡ n + m = omega (arith, row, may.ready.owes) in
    let uses = uses_place n s.asks in
    let asks_are : asks_of asked ≡ losses_from uses (loss_at n number at) (n + m) 0 =
    all START_SECOND number s.asks socket.session
    ∙ ap (λ c. losses_from (uses_place c s.asks) (loss_at c old_session.number at) (length old_session.told.used - old_session.lost) old_session.lost) chans
    ∙ ap (λ i. losses_from uses (loss_at n i at) (length old_session.told.used - old_session.lost) old_session.lost) may.ready.numbered
    ∙ ap (λ l. losses_from uses (loss_at n number at) l old_session.lost) left
    ∙ ap (λ p. losses_from uses (loss_at n number at) (n + m) p) may.ready.owes in
    record {
      chans = λ k below.
          let low : k < n = subst (λ c. k < c) counts.chan_shards below in
          come.lists.chans k below ∙ ap (λ l. (after_asks shards l).chans k) asks_are
          ∙ chan_ahead n number at uses (n + m) 0 k shards (omega arith) (omega (arith, low)) low
          ∙ ap (λ b. cond b (with_call (shards.chans k) (Lost number at)) (shards.chans k)) (cond-true (nat_lt k n) (uses_chan s.asks k) (uses_user s.asks (k - n)) (lt-ltb k n low));
      users = λ k below.
          let low : k < m = subst (λ c. k < c) counts.user_shards below in
          let back : n + k - n ≡ k = omega arith in
          come.lists.users k below ∙ ap (λ l. (after_asks shards l).users k) asks_are
          ∙ user_ahead n number at uses (n + m) 0 k shards (omega arith) (omega (arith, low))
          ∙ ap (λ b. cond b (with_user_call (shards.users k) (user.Lost number at)) (shards.users k))
          (cond-false (nat_lt (n + k) n) (uses_chan s.asks (n + k)) (uses_user s.asks (n + k - n)) (le-ltb (n + k) n (omega arith)) ∙ ap (uses_user s.asks) back);
    }

-- where all were made
pub lost_all : {T X : Type 0} (r : Result T Memory) (at : ℕ) (asked : List Asked) (s : Kept) → OnOk r (AreAllLosses at asked s) → (AreAllLosses at asked s → X) → OnOk r X
lost_all (Ok x) at asked s all next = next all
lost_all (Err m) at asked s all next = tt
