-- Calls of a caller that is alone.
use Rattle.std.proofs.Common.{◌≡◌, ℕ, ◌<◌, eqb, cond, List, [], ◌∷◌, ◌++◌, All, true, false, ap, sym, subst, refl, ◌∙◌, append_assoc, append-nil, inl, inr}
use Rattle.std.proofs.lemmas.Bool.{cases_eq, eq-eqb, ne_eqb, cond-true, cond-false, false≢true}
use Rattle.std.proofs.lemmas.List.Elements.{All-head, All-tail}
use Rattle.ch_history.proofs.Placement.{IsLegalAt-front, IsUserLegalAt-front}
use Rattle.ch_desk.proofs.OwnEntries.{gains_front, own_gain}
use Rattle.ch_base.specs.Growth.{entry}
use Rattle.ch_base.specs.declared.channel.ChanAnswer.{ChanAnswer}
use Rattle.ch_base.specs.declared.channel.ChanCall.{ChanCall}
use Rattle.ch_base.specs.declared.user.UserAnswer.{UserAnswer}
use Rattle.ch_base.specs.declared.user.UserCall.{UserCall}
use Rattle.ch_history.specs.Alone.{with_call, with_user_call}
use Rattle.ch_history.specs.Answers.{answer_of}
use Rattle.ch_history.specs.Entries.{ChanHistory, UserHistory}
use Rattle.ch_history.specs.Placement.{IsLegalAt, IsUserLegalAt}
use Rattle.ch_history.specs.UserAnswers.{user_answer_of}
use Rattle.ch_history.proofs.Legal.{IsLegal-next}
use Rattle.ch_history.proofs.UserLegal.{IsUserLegal-next}
use Rattle.ch_protocol.specs.Asks.{ComesOf, Asked, asks_of, came_of}
use Rattle.ch_protocol.specs.Shards.{Shards, after_ask, after_asks, calls, user_calls, made_of, made_of_all}
use Rattle.ch_protocol.specs.declared.ask.Ask.{Ask}
use Rattle.ch_protocol.specs.declared.ask.Ask.TheVariants.{Chan, User}
use Rattle.ch_protocol.specs.declared.ask.Made.{Made}
use Rattle.ch_protocol.specs.declared.ask.Made.TheVariants as made
use Rattle.ch_desk.specs.AloneCalls.{AloneBefore, CallsAlone}
use Rattle.ch_desk.specs.OwnEntries.{Gains, IsAnswered, entries_on_chan, entries_on_user, entry_on_chan, entry_on_user, was_made}
use Rattle.ch_desk.specs.Views.{DeskView, MayAsk}

-- ---- one ask

-- the lists that are left to come are legal at their ends
pub record Ends (n m : ℕ) (g : ℕ → ChanHistory) (v : ℕ → UserHistory) : Type 0 where
  pub chans : (k : ℕ) → k < n → IsLegalAt (k, n) (g k)
  pub users : (k : ℕ) → k < m → IsUserLegalAt (k, m) (v k)

-- the lists at the end are these with what the asks leave
pub record Reaches (n m : ℕ) (asked : List Asked) (shards : Shards) (g : ℕ → ChanHistory) (v : ℕ → UserHistory) : Type 0 where
  pub chans : (k : ℕ) → k < n → g k ≡ shards.chans k ++ entries_on_chan 0 k asked
  pub users : (k : ℕ) → k < m → v k ≡ shards.users k ++ entries_on_user 0 k asked

called_at : (shard : ℕ) (call : ChanCall) (a : ChanAnswer) (shards : Shards) → a ≡ answer_of (shards.chans shard) 0 call
    → (k : ℕ) → shards.chans k ++ entry_on_chan 0 k (Chan shard call) (made.Chan a) ≡ (calls shards shard call).chans k
called_at shard call a shards is k = elim (cases_eq shard k) [
  | inl same ↦
      ap (λ z. shards.chans k ++ z) (cond-true (eqb shard k) (entry 0 call a ∷ []) [] (eq-eqb shard k same))
      ∙ subst (λ i. shards.chans i ++ entry 0 call a ∷ [] ≡ with_call (shards.chans shard) call) same
      (ap (λ z. shards.chans shard ++ entry 0 call z ∷ []) is)
      ∙ sym (cond-true (eqb k shard) (with_call (shards.chans shard) call) (shards.chans k) (eq-eqb k shard (sym same)))
  | inr other ↦
      ap (λ z. shards.chans k ++ z) (cond-false (eqb shard k) (entry 0 call a ∷ []) [] (ne_eqb shard k other))
      ∙ append-nil (shards.chans k)
      ∙ sym (cond-false (eqb k shard) (with_call (shards.chans shard) call) (shards.chans k) (ne_eqb k shard (λ same. other (sym same))))
]

user_called_at : (shard : ℕ) (call : UserCall) (a : UserAnswer) (shards : Shards) → a ≡ user_answer_of (shards.users shard) 0 call
    → (k : ℕ) → shards.users k ++ entry_on_user 0 k (User shard call) (made.User a) ≡ (user_calls shards shard call).users k
user_called_at shard call a shards is k = elim (cases_eq shard k) [
  | inl same ↦
      ap (λ z. shards.users k ++ z) (cond-true (eqb shard k) (entry 0 call a ∷ []) [] (eq-eqb shard k same))
      ∙ subst (λ i. shards.users i ++ entry 0 call a ∷ [] ≡ with_user_call (shards.users shard) call) same
      (ap (λ z. shards.users shard ++ entry 0 call z ∷ []) is)
      ∙ sym (cond-true (eqb k shard) (with_user_call (shards.users shard) call) (shards.users k) (eq-eqb k shard (sym same)))
  | inr other ↦
      ap (λ z. shards.users k ++ z) (cond-false (eqb shard k) (entry 0 call a ∷ []) [] (ne_eqb shard k other))
      ∙ append-nil (shards.users k)
      ∙ sym (cond-false (eqb k shard) (with_user_call (shards.users shard) call) (shards.users k) (ne_eqb k shard (λ same. other (sym same))))
]

-- an entry that is the next of a legal list has the definitions' answer
answer_is : (n shard : ℕ) (h more g : ChanHistory) (call : ChanCall) (a : ChanAnswer) → IsLegalAt (shard, n) g → g ≡ h ++ entry 0 call a ∷ more → a ≡ answer_of h 0 call
answer_is n shard h more g call a legal is = (IsLegal-next h (entry 0 call a) more (subst (IsLegalAt (shard, n)) is legal).legal).answered

user_answer_is : (n shard : ℕ) (h more g : UserHistory) (call : UserCall) (a : UserAnswer) → IsUserLegalAt (shard, n) g → g ≡ h ++ entry 0 call a ∷ more → a ≡ user_answer_of h 0 call
user_answer_is n shard h more g call a legal is = (IsUserLegal-next h (entry 0 call a) more (subst (IsUserLegalAt (shard, n)) is legal).legal).answered

-- what comes of the first ask, and what the others reach from there
pub record Steps (n m : ℕ) (ask : Ask) (came : Made) (xs : List Asked) (shards : Shards) (g : ℕ → ChanHistory) (v : ℕ → UserHistory) : Type 0 where
  pub is : came ≡ made_of shards ask
  pub others : Reaches n m xs (after_ask shards ask) g v

here : (shard : ℕ) (call : ChanCall) (a : ChanAnswer) → entry_on_chan 0 shard (Chan shard call) (made.Chan a) ≡ entry 0 call a ∷ []
here shard call a = cond-true (eqb shard shard) (entry 0 call a ∷ []) [] (eq-eqb shard shard refl)

user_here : (shard : ℕ) (call : UserCall) (a : UserAnswer) → entry_on_user 0 shard (User shard call) (made.User a) ≡ entry 0 call a ∷ []
user_here shard call a = cond-true (eqb shard shard) (entry 0 call a ∷ []) [] (eq-eqb shard shard refl)

step_at : (n m : ℕ) (ask : Ask) (came : Made) (xs : List Asked) (shards : Shards) (g : ℕ → ChanHistory) (v : ℕ → UserHistory) → Ends n m g v
    → Reaches n m (record { ask = ask; came = came } ∷ xs) shards g v → (desk : DeskView) → desk.chan_shards ≡ n → desk.user_shards ≡ m
    → MayAsk desk ask → ComesOf ask came → was_made came ≡ true → Steps n m ask came xs shards g v
step_at n m (Chan shard call) (made.Chan a) xs shards g v ends reaches desk chans users may comes done =
    let within : shard < n = subst (λ i. shard < i) chans may.1 in
    let at : g shard ≡ shards.chans shard ++ entry 0 call a ∷ entries_on_chan 0 shard xs =
    reaches.chans shard within ∙ ap (λ z. shards.chans shard ++ (z ++ entries_on_chan 0 shard xs)) (here shard call a) in
    let is : a ≡ answer_of (shards.chans shard) 0 call =
    answer_is n shard (shards.chans shard) (entries_on_chan 0 shard xs) (g shard) call a (ends.chans shard within) at in
    record {
      is = ap made.Chan is;
      others = record {
        chans = λ k below. reaches.chans k below
            ∙ sym (append_assoc (shards.chans k) (entry_on_chan 0 k (Chan shard call) (made.Chan a)) (entries_on_chan 0 k xs))
            ∙ ap (λ z. z ++ entries_on_chan 0 k xs) (called_at shard call a shards is k);
        users = reaches.users;
      };
    }
step_at n m (User shard call) (made.User a) xs shards g v ends reaches desk chans users may comes done =
    let within : shard < m = subst (λ i. shard < i) users may.1 in
    let at : v shard ≡ shards.users shard ++ entry 0 call a ∷ entries_on_user 0 shard xs =
    reaches.users shard within ∙ ap (λ z. shards.users shard ++ (z ++ entries_on_user 0 shard xs)) (user_here shard call a) in
    let is : a ≡ user_answer_of (shards.users shard) 0 call =
    user_answer_is m shard (shards.users shard) (entries_on_user 0 shard xs) (v shard) call a (ends.users shard within) at in
    record {
      is = ap made.User is;
      others = record {
        chans = reaches.chans;
        users = λ k below. reaches.users k below
            ∙ sym (append_assoc (shards.users k) (entry_on_user 0 k (User shard call) (made.User a)) (entries_on_user 0 k xs))
            ∙ ap (λ z. z ++ entries_on_user 0 k xs) (user_called_at shard call a shards is k);
      };
    }
step_at n m (Chan shard call) (made.User a) xs shards g v ends reaches desk chans users may comes done = absurd comes
step_at n m (User shard call) (made.Chan a) xs shards g v ends reaches desk chans users may comes done = absurd comes
step_at n m ask made.Memory xs shards g v ends reaches desk chans users may comes done = absurd (false≢true done)

-- ---- all asks

pub record Comes (n m : ℕ) (asked : List Asked) (shards : Shards) (g : ℕ → ChanHistory) (v : ℕ → UserHistory) : Type 0 where
  pub came : came_of asked ≡ made_of_all shards (asks_of asked)
  pub chans : (k : ℕ) → k < n → g k ≡ (after_asks shards (asks_of asked)).chans k
  pub users : (k : ℕ) → k < m → v k ≡ (after_asks shards (asks_of asked)).users k

all_come : (desk : DeskView) (asked : List Asked) (shards : Shards) (g : ℕ → ChanHistory) (v : ℕ → UserHistory) → Ends desk.chan_shards desk.user_shards g v
    → All (MayAsk desk) (asks_of asked) → All IsAnswered asked → Reaches desk.chan_shards desk.user_shards asked shards g v
    → Comes desk.chan_shards desk.user_shards asked shards g v
all_come desk [] shards g v ends may answered reaches = record {
  came = refl;
  chans = λ k below. reaches.chans k below ∙ append-nil (shards.chans k);
  users = λ k below. reaches.users k below ∙ append-nil (shards.users k);
}
all_come desk (x ∷ xs) shards g v ends may answered reaches =
    let one = All-head IsAnswered x xs answered in
    let step = step_at desk.chan_shards desk.user_shards x.ask x.came xs shards g v ends reaches desk refl refl (All-head (MayAsk desk) x.ask (asks_of xs) may) one.0 one.1 in
    let rest = all_come desk xs (after_ask shards x.ask) g v ends (All-tail (MayAsk desk) x.ask (asks_of xs) may) (All-tail IsAnswered x xs answered) step.others in
    record {
      came = ap (λ z. z ∷ came_of xs) step.is ∙ ap (λ z. made_of shards x.ask ∷ z) rest.came;
      chans = rest.chans;
      users = rest.users;
    }

pub calls_alone : CallsAlone
calls_alone asked old new shards makes answered alone at =
    let zero : old.caller ≡ 0 = sym makes.same.caller ∙ alone.caller in
    let chans : (k : ℕ) → Gains 0 (entries_on_chan 0 k asked) (old.chans k) (new.chans k) =
    subst (λ w. (k : ℕ) → Gains w (entries_on_chan w k asked) (old.chans k) (new.chans k)) zero makes.chans in
    let users : (k : ℕ) → Gains 0 (entries_on_user 0 k asked) (old.users k) (new.users k) =
    subst (λ w. (k : ℕ) → Gains w (entries_on_user w k asked) (old.users k) (new.users k)) zero makes.users in
    let reaches : Reaches old.chan_shards old.user_shards asked shards new.chans new.users = record {
      chans = λ k below. own_gain 0 (entries_on_chan 0 k asked) (old.chans k) (new.chans k) (alone.chans k) (chans k)
          ∙ ap (λ z. z ++ entries_on_chan 0 k asked) (at.chans k below);
      users = λ k below. own_gain 0 (entries_on_user 0 k asked) (old.users k) (new.users k) (alone.users k) (users k)
          ∙ ap (λ z. z ++ entries_on_user 0 k asked) (at.users k below);
    } in
    let ends : Ends old.chan_shards old.user_shards new.chans new.users = record {
      chans = subst (λ n. (k : ℕ) → k < n → IsLegalAt (k, n) (new.chans k)) makes.same.chan_shards alone.legal.chans;
      users = subst (λ m. (k : ℕ) → k < m → IsUserLegalAt (k, m) (new.users k)) makes.same.user_shards alone.legal.users;
    } in
    let come = all_come old asked shards new.chans new.users ends makes.may answered reaches in
    record {
      came = come.came;
      lists = record {
        chans = λ k below. come.chans k (subst (λ n. k < n) makes.same.chan_shards below);
        users = λ k below. come.users k (subst (λ m. k < m) makes.same.user_shards below);
      };
    }

pub alone_before : AloneBefore
alone_before asked old new makes alone = record {
  caller = sym makes.same.caller ∙ alone.caller;
  chans = λ k. gains_front 0 old.caller (entries_on_chan old.caller k asked) (old.chans k) (new.chans k) (alone.chans k) (makes.chans k);
  users = λ k. gains_front 0 old.caller (entries_on_user old.caller k asked) (old.users k) (new.users k) (alone.users k) (makes.users k);
  legal = record {
    chans = λ k below. let g = makes.chans k in IsLegalAt-front (k, old.chan_shards) (old.chans k) g.0
        (subst (IsLegalAt (k, old.chan_shards)) g.1 (subst (λ n. (j : ℕ) → j < n → IsLegalAt (j, n) (new.chans j)) makes.same.chan_shards alone.legal.chans k below));
    users = λ k below. let g = makes.users k in IsUserLegalAt-front (k, old.user_shards) (old.users k) g.0
        (subst (IsUserLegalAt (k, old.user_shards)) g.1 (subst (λ m. (j : ℕ) → j < m → IsUserLegalAt (j, m) (new.users j)) makes.same.user_shards alone.legal.users k below));
  };
}
