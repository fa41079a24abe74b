-- Occupied and Vacated of a channel alternate over all webhooks of a batcher that alone takes the events.
use Rattle.std.proofs.Common.{◌≡◌, ◌≢◌, ℕ, ◌==◌, ◌<◌, ◌≤◌, Bool, true, false, cond, All, List, [], ◌∷◌, ◌++◌, inl, inr, refl, ap, ap₂, sym, subst, ◌∙◌, append-nil}
use Rattle.std.proofs.Math.Nat.{mod-lt}
use Rattle.std.proofs.lemmas.Bool.{cases_eq, eq-eqb, ne_eqb, cond-true, cond-false}
use Rattle.std.proofs.lemmas.List.Elements.{All-head, All-tail}
use Rattle.ch_base.specs.declared.webhook.Hook.{Hook}
use Rattle.ch_history.specs.Entries.{ChanEntry, ChanHistory}
use Rattle.ch_history.specs.Laws.{Goes, counts_occupied}
use Rattle.ch_history.specs.Placement.{fnv_from, shard_of}
use Rattle.ch_history.specs.declared.limits.TheConstants.{FNV_OFFSET}
use Rattle.ch_history.specs.Pending.{hook_list, is_take_hooks, since_take}
use Rattle.ch_history.proofs.Occupancy.{occupancy_law}
use Rattle.ch_protocol.specs.Asks.{Asked, asks_of}
use Rattle.ch_protocol.specs.declared.ask.Ask.{Ask}
use Rattle.ch_protocol.specs.declared.ask.Ask.TheVariants.{Chan, User}
use Rattle.ch_protocol.specs.declared.ask.Made.{Made}
use Rattle.ch_protocol.specs.declared.ask.Made.TheVariants as made
use Rattle.ch_desk.specs.OwnEntries.{Makes, entries_on_chan, entry_on_chan}
use Rattle.ch_desk.specs.Views.{DeskView, IsLegalDesk, MayAsk}
use Rattle.ch_webhooks.specs.Batching.{nothing_yet}
use Rattle.ch_batch.specs.Deeds.{after_all, made as made_of}
use Rattle.ch_batch.specs.Gathers.{events_in, events_of, taken}
use Rattle.ch_batch.specs.Laws.{TakesAlone, WebhooksLaw, events_from, events_in_all, taken_from}
use Rattle.ch_batch.proofs.BatchLaws.{batches_law}
use Rattle.ch_batch.proofs.OtherShards.{marks, marks_both, none_elsewhere}
use Rattle.ch_batch.proofs.TakenEvents.{AreSilent, legal_silent, none_taken, own_taken, silent_front, silent_more, taken_and_waiting, taken_in, taken_in_both}

-- ---- one shard

all_more : {X : Type 0} (P : X → Type 0) (xs ys : List X) → All P (xs ++ ys) → All P ys
all_more P [] ys all = all
all_more P (x ∷ xs) ys all = all_more P xs ys (All-tail P x (xs ++ ys) all)

either : (b : Bool) (xs : List Hook) → xs ≡ cond b xs xs
either true xs = refl
either false xs = refl

-- the entry that an ask leaves has the events that came of it
one_entry : (w k : ℕ) (ask : Ask) (came : Made) → taken_in (entry_on_chan w k ask came) ≡ events_from k ask came
one_entry w k (Chan shard call) (made.Chan answer) =
    elim (shard == k) as (λ b. taken_in (cond b (record { caller = w; call = call; answer = answer } ∷ []) []) ≡ cond b (events_in answer) []) [
      | true ↦ append-nil (events_in answer)
      | false ↦ refl
    ]
one_entry w k (Chan shard call) (made.User answer) = either (shard == k) []
one_entry w k (Chan shard call) made.Memory = either (shard == k) []
one_entry w k (User shard call) came = refl

own_entries : (w k : ℕ) (asked : List Asked) → taken_in (entries_on_chan w k asked) ≡ taken_from k asked
own_entries w k [] = refl
own_entries w k (x ∷ asked) =
    taken_in_both (entry_on_chan w k x.ask x.came) (entries_on_chan w k asked)
    ∙ ap₂ (λ (xs ys : List Hook). xs ++ ys) (one_entry w k x.ask x.came) (own_entries w k asked)

of_one_shard : (asked : List Asked) (old new : DeskView) (k : ℕ) → Makes asked old new → IsLegalDesk new → TakesAlone old new → k < old.chan_shards → k < new.chan_shards
    → taken_from k asked ++ since_take (new.chans k) ≡ hook_list (new.chans k)
of_one_shard asked old new k calls legal alone inside here =
    let w : ℕ = old.caller in
    let h : ChanHistory = old.chans k in
    let gains = calls.chans k in
    let more : ChanHistory = gains.0 in
    let is : new.chans k ≡ h ++ more = gains.1 in
    let quiet : AreSilent (h ++ more) = subst AreSilent is (legal_silent (new.chans k) (legal.chans k here).legal) in
    let only : All (λ (e : ChanEntry). is_take_hooks e.call ≡ true → e.caller ≡ w) more =
    all_more (λ (e : ChanEntry). is_take_hooks e.call ≡ true → e.caller ≡ w) h more
    (subst (λ (g : ChanHistory). All (λ (e : ChanEntry). is_take_hooks e.call ≡ true → e.caller ≡ w) g) is (alone.since k inside)) in
    let whole : taken_in (new.chans k) ≡ taken_from k asked =
    ap taken_in is ∙ taken_in_both h more
    ∙ ap₂ (λ (xs ys : List Hook). xs ++ ys) (none_taken h (silent_front h more quiet) (alone.before k inside)) (own_taken w more (silent_more h more quiet) only)
    ∙ ap taken_in gains.2 ∙ own_entries w k asked in
    ap (λ (z : List Hook). z ++ since_take (new.chans k)) (sym whole) ∙ taken_and_waiting (new.chans k) (legal.chans k here).legal

-- ---- one channel

first_nothing : {X : Type 0} (xs ys : List X) → xs ++ ys ≡ [] → xs ≡ []
first_nothing [] ys none = refl
first_nothing (x ∷ xs) ys none = cc

rest_nothing : {X : Type 0} (xs ys : List X) → xs ++ ys ≡ [] → ys ≡ []
rest_nothing [] ys none = none
rest_nothing (x ∷ xs) ys none = cc

-- nothing was taken from the other shards that tells of the channel
abbrev IsAlone : List ℕ → ℕ → ℕ → List Asked → Type 0
IsAlone c k n asked = (j : ℕ) → j < n → j ≢ k → marks c (taken_from j asked) ≡ []

alone_rest : (c : List ℕ) (k n : ℕ) (x : Asked) (asked : List Asked) → IsAlone c k n (x ∷ asked) → IsAlone c k n asked
alone_rest c k n x asked alone = λ j below other.
    rest_nothing (marks c (events_from j x.ask x.came)) (marks c (taken_from j asked))
    (sym (marks_both c (events_from j x.ask x.came) (taken_from j asked)) ∙ alone j below other)

-- what came of one ask tells of the channel only where it came from the channel's shard
one_ask : (c : List ℕ) (k n : ℕ) (desk : DeskView) (ask : Ask) (came : Made) → n ≡ desk.chan_shards → MayAsk desk ask
    → ((j : ℕ) → j < n → j ≢ k → marks c (events_from j ask came) ≡ []) → marks c (events_of ask came) ≡ marks c (events_from k ask came)
one_ask c k n desk (Chan shard call) came is may alone = elim (cases_eq shard k) [
  | inl same ↦ ap (marks c) (sym (cond-true (shard == k) (events_of (Chan shard call) came) [] (eq-eqb shard k same)))
  | inr other ↦
      ap (marks c) (sym (cond-true (shard == shard) (events_of (Chan shard call) came) [] (eq-eqb shard shard refl)))
      ∙ alone shard (subst (λ m. shard < m) (sym is) may.1) other
      ∙ ap (marks c) (sym (cond-false (shard == k) (events_of (Chan shard call) came) [] (ne_eqb shard k other)))
]
one_ask c k n desk (User shard call) came is may alone = refl

one_channel : (c : List ℕ) (k n : ℕ) (desk : DeskView) (asked : List Asked) → n ≡ desk.chan_shards → All (MayAsk desk) (asks_of asked) → IsAlone c k n asked
    → marks c (taken asked) ≡ marks c (taken_from k asked)
one_channel c k n desk [] is may alone = refl
one_channel c k n desk (x ∷ asked) is may alone =
    marks_both c (events_of x.ask x.came) (taken asked)
    ∙ ap₂ (λ (xs ys : List Bool). xs ++ ys)
    (one_ask c k n desk x.ask x.came is (All-head (MayAsk desk) x.ask (asks_of asked) may)
    (λ j below other. first_nothing (marks c (events_from j x.ask x.came)) (marks c (taken_from j asked))
    (sym (marks_both c (events_from j x.ask x.came) (taken_from j asked)) ∙ alone j below other)))
    (one_channel c k n desk asked is (All-tail (MayAsk desk) x.ask (asks_of asked) may) (alone_rest c k n x asked alone))
    ∙ sym (marks_both c (events_from k x.ask x.came) (taken_from k asked))

-- ---- the law

pub webhooks_law : WebhooksLaw
webhooks_law sender asked deeds old new now some collects legal alone =
    let calls : Makes asked old new = collects.calls in
    let n : ℕ = new.chan_shards in
    let same : new.chan_shards ≡ old.chan_shards = calls.same.chan_shards in
    let law = batches_law sender deeds in
    let all : events_in_all (made_of (nothing_yet sender) deeds) ++ (after_all (nothing_yet sender) deeds).uncut ≡ taken asked = law.events ∙ collects.events in
    let shards : (k : ℕ) → k < n → taken_from k asked ++ since_take (new.chans k) ≡ hook_list (new.chans k) =
    λ k here. of_one_shard asked old new k calls legal alone (subst (λ m. k < m) same here) here in
    record {
      taken = all;
      shards = shards;
      occupancy = λ c.
          let k : ℕ = shard_of c n in
          let here : k < n = mod-lt (fnv_from FNV_OFFSET c) (subst (λ m. 1 ≤ m) (sym same) some) in
          let h : ChanHistory = new.chans k in
          let others : IsAlone c k n asked = λ j below other.
          first_nothing (marks c (taken_from j asked)) (marks c (since_take (new.chans j)))
          (sym (marks_both c (taken_from j asked) (since_take (new.chans j))) ∙ ap (marks c) (shards j below)
          ∙ (none_elsewhere (new.chans j) j n c (λ e. other (sym e)) (legal.chans j below)).untold) in
          let are : marks c (events_in_all (made_of (nothing_yet sender) deeds) ++ (after_all (nothing_yet sender) deeds).uncut ++ since_take h) ≡ marks c (hook_list h) =
          ap (λ (z : List Hook). marks c (z ++ since_take h)) all
          ∙ marks_both c (taken asked) (since_take h)
          ∙ ap (λ (z : List Bool). z ++ marks c (since_take h)) (one_channel c k n old asked same calls.may others)
          ∙ sym (marks_both c (taken_from k asked) (since_take h))
          ∙ ap (marks c) (shards k here) in
          subst (λ (ms : List Bool). Goes false (counts_occupied h c) ms) (sym are) (occupancy_law h (legal.chans k here).legal c);
    }
