-- The webhook events of all shards, taken one shard after another by a caller that is alone, and the batches that are cut of them.
use Rattle.std.proofs.Common.{◌≡◌, ℕ, zero, suc, ◌+◌, ◌<◌, ◌≤◌, ◌==◌, nat_le, true, false, cond, length, map, All, List, [], ◌∷◌, ◌++◌, arith, refl, ap, ap₂, sym, subst, ◌∙◌, inl, inr}
use Rattle.std.specs.List.{flat_map, range_with_len}
use Rattle.std.proofs.lemmas.Bool.{cases_eq, eq-eqb, ne_eqb, cond-true, cond-false}
use Rattle.std.proofs.lemmas.List.Folds.{flat_map-map}
use Rattle.ch_base.specs.declared.channel.ChanCall.TheVariants.{TakeHooks}
use Rattle.ch_base.specs.declared.webhook.Hook.{Hook}
use Rattle.ch_config.specs.declared.config.Config.{Config}
use Rattle.ch_history.specs.Alone.{with_call}
use Rattle.ch_history.specs.Entries.{ChanHistory}
use Rattle.ch_history.specs.Pending.{pending}
use Rattle.ch_protocol.specs.Asks.{Asked, asks_of, came_of}
use Rattle.ch_protocol.specs.Shards.{Shards, after_ask, after_asks, calls, made_of, made_of_all}
use Rattle.ch_protocol.specs.declared.ask.Ask.{Ask}
use Rattle.ch_protocol.specs.declared.ask.Ask.TheVariants.{Chan}
use Rattle.ch_desk.specs.AloneCalls.{CallsAlone, IsAlone}
use Rattle.ch_desk.specs.Bench.{BenchModel, view_of}
use Rattle.ch_desk.specs.OwnEntries.{IsAnswered, Makes}
use Rattle.ch_batch.specs.Gathers.{events_of, taken, takes}
use Rattle.ch_webhooks.specs.Batches.{Content, batch_of, contents, piece_count}
use Rattle.ch_webhooks.specs.Batching.{Batching, after_cut, cut_now, new_batch, with_events}
use Rattle.ch_webhooks.specs.declared.batch.Sender.{Sender}
use Rattle.ch_webhooks.specs.declared.limits.TheConstants.{GREATEST_NUMBER}
use Rattle.ch_webhooks.specs.declared.batch.Waiting.{Waiting}
use Rattle.ch_transcript.specs.Gathering.{batch_line, batching_of, events_waiting, sender_of, taken_hooks, with_all_events}
use Rattle.ch_transcript.specs.Progress.{Progress}
use Rattle.ch_player.specs.Benches.{IsAtShards}
use Rattle.ch_player.specs.Hooks.{Gathers, Prints}

-- ---- the events

-- the events that come of asks that are made one after another
abbrev made_events : Shards → List Ask → List Hook
made_events shards [] = []
made_events shards (ask ∷ asks) = events_of ask (made_of shards ask) ++ made_events (after_ask shards ask) asks

taken_is : (asked : List Asked) (shards : Shards) → came_of asked ≡ made_of_all shards (asks_of asked) → taken asked ≡ made_events shards (asks_of asked)
taken_is [] shards came = refl
taken_is (x ∷ asked) shards came =
    let first : x.came ≡ made_of shards x.ask = cc in
    let rest : came_of asked ≡ made_of_all (after_ask shards x.ask) (asks_of asked) = cc in
    ap₂ (λ (xs ys : List Hook). xs ++ ys) (ap (events_of x.ask) first) (taken_is asked (after_ask shards x.ask) rest)

same_events : (f g : ℕ → List Hook) (a n : ℕ) → ((k : ℕ) → a ≤ k → f k ≡ g k) → flat_map f (range_with_len a n) ≡ flat_map g (range_with_len a n)
same_events f g a zero same = refl
same_events f g a (suc n) same =
    ap₂ (λ (xs ys : List Hook). xs ++ ys) (same a (omega arith)) (same_events f g (a + 1) n (λ k above. same k (omega arith)))

-- one TakeHooks on each of n shards, from the shard a on
abbrev takes_from : ℕ → ℕ → ℕ → List Ask
takes_from at a n = map (λ k. Chan k (TakeHooks at)) (range_with_len a n)

other_shard : (shards : Shards) (at a k : ℕ) → a < k → (calls shards a (TakeHooks at)).chans k ≡ shards.chans k
other_shard shards at a k above =
    let differs : (k ≡ a → ⊥) = λ e. absurd (omega arith) in
    cond-false (k == a) (with_call (shards.chans a) (TakeHooks at)) (shards.chans k) (ne_eqb k a differs)

same_shard : (shards : Shards) (at a : ℕ) → (calls shards a (TakeHooks at)).chans a ≡ with_call (shards.chans a) (TakeHooks at)
same_shard shards at a = cond-true (a == a) (with_call (shards.chans a) (TakeHooks at)) (shards.chans a) (eq-eqb a a refl)

events_are : (at a n : ℕ) (shards : Shards) → made_events shards (takes_from at a n) ≡ flat_map (λ k. pending (shards.chans k) (TakeHooks at)) (range_with_len a n)
events_are at a zero shards = refl
events_are at a (suc n) shards =
    let after : Shards = calls shards a (TakeHooks at) in
    ap (λ (z : List Hook). pending (shards.chans a) (TakeHooks at) ++ z)
    (events_are at (a + 1) n after
    ∙ same_events (λ k. pending (after.chans k) (TakeHooks at)) (λ k. pending (shards.chans k) (TakeHooks at)) (a + 1) n
    (λ k above. ap (λ (h : ChanHistory). pending h (TakeHooks at)) (other_shard shards at a k (omega arith))))

-- ---- the shards

before_stays : (at a n : ℕ) (shards : Shards) (j : ℕ) → j < a → (after_asks shards (takes_from at a n)).chans j ≡ shards.chans j
before_stays at a zero shards j below = refl
before_stays at a (suc n) shards j below =
    let differs : (j ≡ a → ⊥) = λ e. absurd (omega arith) in
    before_stays at (a + 1) n (calls shards a (TakeHooks at)) j (omega arith)
    ∙ cond-false (j == a) (with_call (shards.chans a) (TakeHooks at)) (shards.chans j) (ne_eqb j a differs)

each_taken : (at a n : ℕ) (shards : Shards) (j : ℕ) → a ≤ j → j < a + n → (after_asks shards (takes_from at a n)).chans j ≡ with_call (shards.chans j) (TakeHooks at)
each_taken at a zero shards j above below = absurd (omega arith)
each_taken at a (suc n) shards j above below = elim (cases_eq j a) [
  | inl same ↦
      subst (λ i. (after_asks (calls shards a (TakeHooks at)) (takes_from at (a + 1) n)).chans i ≡ with_call (shards.chans i) (TakeHooks at)) (sym same)
      (before_stays at (a + 1) n (calls shards a (TakeHooks at)) a (omega arith) ∙ same_shard shards at a)
  | inr other ↦
      each_taken at (a + 1) n (calls shards a (TakeHooks at)) j (omega arith) (omega arith)
      ∙ ap (λ (h : ChanHistory). with_call h (TakeHooks at)) (other_shard shards at a j (omega arith))
]

users_stay : (at a n : ℕ) (shards : Shards) (k : ℕ) → (after_asks shards (takes_from at a n)).users k ≡ shards.users k
users_stay at a zero shards k = refl
users_stay at a (suc n) shards k = users_stay at (a + 1) n (calls shards a (TakeHooks at)) k

-- all events that were pending were taken, and so are the bench's shards then
pub record AllTaken (at : ℕ) (asked : List Asked) (old new : BenchModel) (shards : Shards) : Type 0 where
  pub events : taken asked ≡ events_waiting at shards (length old.shards)
  pub at_shards : IsAtShards new (taken_hooks at shards)

pub all_taken : CallsAlone → (at : ℕ) (asked : List Asked) (old new : BenchModel) (shards : Shards) → Makes asked (view_of old) (view_of new)
    → asks_of asked ≡ takes at (length old.shards) → All IsAnswered asked → IsAlone (view_of new) → IsAtShards old shards → AllTaken at asked old new shards
all_taken law at asked old new shards makes order answered alone lists =
    let n : ℕ = length old.shards in
    let come = law asked (view_of old) (view_of new) shards makes answered alone lists in
    let same : length new.shards ≡ n = makes.same.chan_shards in
    let after : IsAtShards new (after_asks shards (takes_from at 0 n)) = subst (λ (asks : List Ask). IsAtShards new (after_asks shards asks)) order come.lists in
    record {
      events = taken_is asked shards come.came ∙ ap (made_events shards) order ∙ events_are at 0 n shards;
      at_shards = record {
        chans = λ k below. after.chans k below ∙ each_taken at 0 n shards k (omega arith) (omega (arith, same));
        users = λ k below. after.users k below ∙ users_stay at 0 n shards k;
      };
    }

-- ---- the batches

-- what was printed after the cut
pub gathers_as : (at : ℕ) (asked : List Asked) (old new : BenchModel) (before mid after : Batching) (wrote written : List ℕ) (shards : Shards) → AllTaken at asked old new shards
    → mid ≡ after_cut (with_events before (taken asked)) at → Prints mid after wrote written
    → Gathers at (with_events before (events_waiting at shards (length old.shards))) new after wrote written shards
gathers_as at asked old new before mid after wrote written shards all cut prints = record {
  prints = subst (λ (b : Batching). Prints b after wrote written) (cut ∙ ap (λ (events : List Hook). after_cut (with_events before events) at) all.events) prints;
  at_shards = all.at_shards;
}

-- the lines of the batches that wait
abbrev pub lines : List Waiting → List ℕ
lines ws = flat_map (λ w. batch_line w.batch) ws

-- of a batcher for which no batch waits, a cut leaves those that it makes
lines_of_cut : (b : Batching) (at : ℕ) → b.waiting ≡ [] → lines (after_cut b at).waiting ≡ flat_map (λ c. batch_line (batch_of b.sender c)) (cut_now b at)
lines_of_cut b at none =
    let makes : List Content = contents at b.next b.uncut in
    elim (nat_le (b.next + piece_count b.uncut) (GREATEST_NUMBER + 1)) as
    (λ t. lines (cond t (record { sender = b.sender; uncut = []; waiting = b.waiting ++ map (λ c. new_batch (batch_of b.sender c)) makes; next = b.next + piece_count b.uncut }) b).waiting
    ≡ flat_map (λ c. batch_line (batch_of b.sender c)) (cond t makes [])) [
      | true ↦ ap (λ (ws : List Waiting). lines (ws ++ map (λ c. new_batch (batch_of b.sender c)) makes)) none
          ∙ flat_map-map (λ (w : Waiting). batch_line w.batch) (λ (c : Content). new_batch (batch_of b.sender c)) makes
      | false ↦ ap lines none
    ]

same_sender : (b : Batching) (at : ℕ) → (after_cut b at).sender ≡ b.sender
same_sender b at =
    elim (nat_le (b.next + piece_count b.uncut) (GREATEST_NUMBER + 1)) as
    (λ t. (cond t (record { sender = b.sender; uncut = []; waiting = b.waiting ++ map (λ c. new_batch (batch_of b.sender c)) (contents at b.next b.uncut); next = b.next + piece_count b.uncut }) b).sender ≡ b.sender) [
      | true ↦ refl
      | false ↦ refl
    ]

-- the player's batcher, after the events of all shards were taken
pub record IsGathered (config : Config) (p : Progress) (at : ℕ) (after : Batching) (wrote written : List ℕ) : Type 0 where
  pub text : written ≡ wrote ++ flat_map (λ c. batch_line (batch_of (sender_of config) c)) (cut_now (with_all_events config p at) at)
  pub state : after ≡ batching_of config (record { uncut = (after_cut (with_all_events config p at) at).uncut; next = (after_cut (with_all_events config p at) at).next })

pub is_gathered : (config : Config) (p : Progress) (at count : ℕ) (before after : Batching) (bench : BenchModel) (wrote written : List ℕ) → before ≡ batching_of config p.webhooks
    → count ≡ config.chan_shards → Gathers at (with_events before (events_waiting at p.shards count)) bench after wrote written p.shards → IsGathered config p at after wrote written
is_gathered config p at count before after bench wrote written is many gathers =
    let b : Batching = with_all_events config p at in
    let same : with_events before (events_waiting at p.shards count) ≡ b = ap₂ (λ (x : Batching) (n : ℕ). with_events x (events_waiting at p.shards n)) is many in
    let prints : Prints (after_cut b at) after wrote written = subst (λ (x : Batching). Prints (after_cut x at) after wrote written) same gathers.prints in
    record {
      text = prints.text ∙ ap (λ (z : List ℕ). wrote ++ z) (lines_of_cut b at refl);
      state = prints.state ∙ ap (λ (s : Sender). record { sender = s; uncut = (after_cut b at).uncut; waiting = []; next = (after_cut b at).next }) (same_sender b at);
    }
