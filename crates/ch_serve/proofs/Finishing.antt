-- What the threads did, put together.
use Rattle.std.proofs.Common.{◌≡◌, ℕ, ◌+◌, ◌*◌, ◌^◌, ◌<◌, ◌≤◌, List, [], length, get_or, set, Option, Some, None, IsSome, All, sym, refl, ap, ◌∙◌, subst, arith, get_or-set_other}
use Rattle.std.specs.Prelude.{slice_get}
use Rattle.std.proofs.lemmas.List.{get_or-set_same, length-map}
use Rattle.std.proofs.lemmas.Option.{same_Some, slice_get_within}
use mathlib.Core.Logic.{dite}
use native.Mathlib.Decide.{dec_lt}
use Rattle.ch_config.specs.declared.config.Config.{Config}
use Rattle.ch_house.proofs.Places.{get_within}
use Rattle.ch_house.specs.Closes.{ClosedModel, ChanClosed, UserClosed}
use Rattle.ch_house.specs.DeskViews.{view_of}
use Rattle.ch_house.specs.Houses.{HouseModel, PassesListModel, PassesModel, ArePassesOf, chan_count, user_count, fresh_passes}
use Rattle.ch_house.specs.declared.counts.ShardCount.{ShardCount}
use Rattle.ch_io.specs.Counts.{raised}
use Rattle.ch_webhooks.specs.Batching.{Batching, nothing_yet}
use Rattle.ch_worker.specs.Workers.{WorkerView, new_worker}
use Rattle.ch_serve.proofs.NewThreads.{AreNew}
use Rattle.ch_serve.proofs.Places.{there}
use Rattle.ch_serve.specs.GivenBack.{GivenBack}
use Rattle.ch_serve.specs.Served.{AllTurned, EachHas, IsSeated, IsShardedBy, Seat, Served, Turned, WebhooksRan, Worked, seat}
use Rattle.ch_serve.specs.Webhooks.{Rounds, SendsFor, Gathers, sender_of}
use Rattle.ch_serve.specs.declared.posting.Sending.{Sending}

seated_new : (config : Config) (start : ℕ) (house : HouseModel) (i : ℕ) → IsShardedBy config house → IsSeated (seat (new_worker config start) (fresh_passes house i))
seated_new config start house i s = record {
  chan_shards = length-map house.chans.locks (λ l. []) ∙ s.chans;
  user_shards = length-map house.users.locks (λ l. []) ∙ s.users;
}

pub all_seated : (config : Config) (start : ℕ) (house : HouseModel) (threads : List Seat) → IsShardedBy config house → AreNew config start house threads → All IsSeated threads
all_seated config start house threads s new k d below =
    subst IsSeated (sym (new k (get_or threads k d) (there threads k d below))) (seated_new config start house k s)

-- a thread that has ended still has the passes of its number
pub still_own : (config : Config) (start turns : ℕ) (house : HouseModel) (threads done : List Seat) → AreNew config start house threads → AllTurned turns threads done
    → (i : ℕ) (t : Seat) → slice_get done i ≡ Some t → ArePassesOf house i t.passes
still_own config start turns house threads done new turned i t at =
    let old = get_within threads i (omega (arith, slice_get_within done i t at, turned.0)) in
    let same = new i old.0 old.1 in
    let went = turned.1 i old.0 t old.1 at in (
      went.house ∙ ap (λ (s : Seat). s.passes.house) same,
      went.caller ∙ ap (λ (s : Seat). s.passes.caller) same,
    )

pub worked : (config : Config) (turns start : ℕ) (house : HouseModel) (threads done : List Seat) (workers : List WorkerView) (mid back new : PassesListModel)
    (W : PassesModel → PassesModel → Type 0) (own last : PassesModel) → AreNew config start house threads → length threads ≡ config.workers → AllTurned turns threads done
    → GivenBack (length done) done mid back workers → length mid.slots ≡ config.workers + 1 → last.caller ≡ config.workers
    → new ≡ record back { slots = set back.slots last.caller (Some last) } → own ≡ fresh_passes house config.workers → W own last
    → Worked config turns house start workers new.slots W
worked config turns start house threads done workers mid back new W own last fresh many turned given size caller is first did =
    let all : length done ≡ config.workers = turned.0 ∙ many in
    let slots : new.slots ≡ set back.slots config.workers (Some last) = ap (λ (l : PassesListModel). l.slots) is ∙ ap (λ (k : ℕ). set back.slots k (Some last)) caller in
    record {
      count = given.count ∙ all;
      each = λ i w at.
          let within : i < length done = omega (arith, slice_get_within workers i w at, given.count) in
          let t = get_within done i within in
          let old = get_within threads i (omega (arith, turned.0)) in
          let back_i = given.each i t.0 within t.1 in
          let worker : t.0.worker ≡ w = same_Some t.0.worker w (sym back_i.1 ∙ at) in
          let went : Turned turns (seat (new_worker config start) (fresh_passes house i)) t.0 = subst (λ (s : Seat). Turned turns s t.0) (fresh i old.0 old.1) (turned.1 i old.0 t.0 old.1 t.1) in (
            t.0.passes,
            ap (λ l. get_or l i None) slots ∙ (get_or-set_other back.slots config.workers i (Some last) None (λ e. omega arith) ∙ back_i.0),
            subst (λ (v : WorkerView). Turned turns (seat (new_worker config start) (fresh_passes house i)) (seat v t.0.passes)) worker went,
          );
      webhooks = (
        last,
        ap (λ l. get_or l config.workers None) slots ∙ get_or-set_same back.slots config.workers (Some last) None (omega (arith, given.size)),
        subst (λ (p : PassesModel). W p last) first did,
      );
    }

-- all passes were given back
pub whole : (config : Config) (turns start : ℕ) (house : HouseModel) (workers : List WorkerView) (passes : List (Option PassesModel)) (W : PassesModel → PassesModel → Type 0)
    → Worked config turns house start workers passes W → (i : ℕ) → i < config.workers + 1 → IsSome (get_or passes i None)
whole config turns start house workers passes W w i below = dite (dec_lt i config.workers)
    (λ h. let worker = get_within workers i (omega (arith, w.count)) in subst (λ (o : Option PassesModel). IsSome o) (sym (w.each i worker.0 worker.1).1) refl)
    (λ h. let e : config.workers ≡ i = omega arith in subst (λ (o : Option PassesModel). IsSome o) (sym (ap (λ (k : ℕ). get_or passes k None) (sym e) ∙ w.webhooks.1)) refl)

module _ {P : Type 0} where
  ran : (config : Config) (start turns : ℕ) (post : Option P) (sending : Option (Sending P)) (first last : PassesModel) → SendsFor config start post sending → Rounds turns sending first last
      → WebhooksRan post config start turns first last
  ran config start turns None None first last sends rounds = rounds.did
  ran config start turns None (Some s) first last sends rounds = absurd (cc)
  ran config start turns (Some p) None first last sends rounds = let e = sends.1 in absurd (cc)
  ran config start turns (Some p) (Some s) first last (t, e, new) rounds =
      let same : t ≡ s = same_Some t s (sym e) in
      let state : s.batcher.state ≡ nothing_yet (sender_of config start) = ap (λ (x : Sending P). x.batcher.state) (sym same) ∙ new in
      (rounds.did.0, subst (λ (b : Batching). Gathers (view_of first) (view_of last) b rounds.did.0) state rounds.did.1)

  pub served : (config : Config) (turns start : ℕ) (post : Option P) (sending : Option (Sending P)) (house : HouseModel) (workers : List WorkerView)
      (passes : List (Option PassesModel)) (closed : ClosedModel) → IsShardedBy config house → turns ≤ 2 ^ 48 → SendsFor config start post sending
      → Worked config turns house start workers passes (Rounds turns sending)
      → (length closed.chans ≡ chan_count house) × (length closed.users ≡ user_count house)
      → ((k : ℕ) (n : ShardCount) → slice_get closed.chans k ≡ Some n → ChanClosed house passes k n)
      → ((k : ℕ) (n : ShardCount) → slice_get closed.users k ≡ Some n → UserClosed house passes k n)
      → EachHas (config.workers * turns + turns) closed.chans → EachHas (config.workers * turns) closed.users → Served config turns post workers closed
  served config turns start post sending house workers passes closed sharded few sends w count chans users chan_entries user_entries = record {
    start = start;
    house = house;
    sharded = sharded;
    passes = passes;
    worked = record {
      count = w.count;
      each = w.each;
      webhooks = (w.webhooks.0, w.webhooks.1, ran config start turns post sending _ w.webhooks.0 sends w.webhooks.2);
    };
    turns_now = λ k d below.
        let one = w.each k (get_or workers k d) (there workers k d below) in
        let fits : raised 0 turns ≡ turns = omega arith in
        one.2.turns_now ∙ fits;
    chans = chans;
    users = users;
    chan_shards = count.0 ∙ sharded.chans;
    chan_entries = chan_entries;
    user_shards = count.1 ∙ sharded.users;
    user_entries = user_entries;
  }
