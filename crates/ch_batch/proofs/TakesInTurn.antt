-- Takes that are made one after another, and the cut after them.
use Rattle.std.proofs.Common.{◌≡◌, ℕ, ◌+◌, ◌<◌, ◌≤◌, length, drop, List, [], ◌∷◌, ◌++◌, arith, refl, ap, ap₂, sym, subst, ◌∙◌, append_assoc, append-nil}
use Rattle.std.specs.Prelude.{All, Result, Ok, Err, IfOk, OnOk, OnErr}
use Rattle.std.proofs.lemmas.List.{map-append, take-append-drop}
use Rattle.std.proofs.lemmas.List.Concat.{flat_map-append}
use Rattle.std.proofs.lemmas.List.Elements.{All-nil, All-append}
use Rattle.std.proofs.lemmas.List.FromFn.{map-range_with_len_more, take-map-range_with_len}
use Rattle.ch_base.specs.declared.channel.ChanCall.TheVariants.{TakeHooks}
use Rattle.ch_base.specs.declared.memory.Memory.{Memory}
use Rattle.ch_base.specs.declared.webhook.Hook.{Hook}
use Rattle.ch_protocol.specs.Asks.{Asked, asks_of}
use Rattle.ch_protocol.specs.declared.ask.Ask.{Ask}
use Rattle.ch_protocol.specs.declared.ask.Ask.TheVariants.{Chan}
use Rattle.ch_desk.specs.OwnEntries.{IsAnswered, Makes}
use Rattle.ch_desk.specs.Views.{DeskView}
use Rattle.ch_desk.proofs.OwnEntries.{Makes-none, Makes-then}
use Rattle.ch_webhooks.specs.Batching.{Batching, after_cut, cut_now, with_events}
use Rattle.ch_batch.specs.Gathers.{AreTaken, IsCutOr, IsGathered, events_of, taken, takes}

-- ---- events that are accepted

pub with_nothing : (b : Batching) → b ≡ with_events b []
with_nothing b = ap (λ (u : List Hook). record { sender = b.sender; uncut = u; waiting = b.waiting; next = b.next }) (sym (append-nil b.uncut))

pub with_both : (b : Batching) (xs ys : List Hook) → with_events (with_events b xs) ys ≡ with_events b (xs ++ ys)
with_both b xs ys = ap (λ (u : List Hook). record { sender = b.sender; uncut = u; waiting = b.waiting; next = b.next }) (append_assoc b.uncut xs ys)

pub taken_both : (xs ys : List Asked) → taken (xs ++ ys) ≡ taken xs ++ taken ys
taken_both xs ys = flat_map-append (λ (x : Asked). events_of x.ask x.came) xs ys

pub asks_both : (xs ys : List Asked) → asks_of (xs ++ ys) ≡ asks_of xs ++ asks_of ys
asks_both xs ys = map-append (λ (x : Asked). x.ask) xs ys

-- ---- shard after shard

take_from : ℕ → ℕ → Ask
take_from now k = Chan k (TakeHooks now)

takes-next : (now k : ℕ) → takes now (k + 1) ≡ takes now k ++ Chan k (TakeHooks now) ∷ []
takes-next now k = map-range_with_len_more (λ j. Chan j (TakeHooks now)) 0 k k (omega arith)

takes-front : (now k n : ℕ) → k ≤ n → takes now k ++ drop k (takes now n) ≡ takes now n
takes-front now k n below =
    ap (λ (front : List Ask). front ++ drop k (takes now n)) (sym (take-map-range_with_len (λ j. Chan j (TakeHooks now)) 0 n k below)) ∙ take-append-drop k (takes now n)

-- the events of the first k shards were taken and accepted
pub record Begun (now k : ℕ) (old new : DeskView) (before b : Batching) : Type 0 where
  pub asked : List Asked
  pub calls : Makes asked old new
  pub asks : asks_of asked ≡ takes now k
  pub answered : All IsAnswered asked
  pub state : b ≡ with_events before (taken asked)

pub Begun-none : (now : ℕ) (desk : DeskView) (b : Batching) → Begun now 0 desk desk b b
Begun-none now desk b = record { asked = []; calls = Makes-none desk; asks = refl; answered = All-nil IsAnswered; state = with_nothing b }

joined_state : (before mid new : Batching) (xs ys : List Asked) → mid ≡ with_events before (taken xs) → new ≡ with_events mid (taken ys) → new ≡ with_events before (taken (xs ++ ys))
joined_state before mid new xs ys first then_ =
    then_ ∙ ap (λ (b : Batching). with_events b (taken ys)) first ∙ with_both before (taken xs) (taken ys) ∙ ap (with_events before) (sym (taken_both xs ys))

pub Begun-next : (now k : ℕ) (old mid new : DeskView) (before b c : Batching) (more : List Asked) → Begun now k old mid before b → Makes more mid new
    → asks_of more ≡ Chan k (TakeHooks now) ∷ [] → All IsAnswered more → c ≡ with_events b (taken more) → Begun now (k + 1) old new before c
Begun-next now k old mid new before b c more begun calls asks answered state = record {
  asked = begun.asked ++ more;
  calls = Makes-then begun.asked more old mid new begun.calls calls;
  asks = asks_both begun.asked more ∙ ap₂ ◌++◌ begun.asks asks ∙ sym (takes-next now k);
  answered = All-append IsAnswered begun.asked more begun.answered answered;
  state = joined_state before b c begun.asked more begun.state state;
}

-- the events of the first shards were taken, and then there was no memory
pub Begun-stop : (now k n : ℕ) (old mid new : DeskView) (before b c : Batching) (more : List Asked) (m : Memory) → k < n → Begun now k old mid before b → Makes more mid new
    → (rest : List Ask) × (Chan k (TakeHooks now) ∷ [] ≡ asks_of more ++ rest) → c ≡ with_events b (taken more)
    → (asked : List Asked) × Makes asked old new × IsGathered before now n asked (Err m) c
Begun-stop now k n old mid new before b c more m inside begun calls stop state =
    let tail : List Ask = drop (k + 1) (takes now n) in
    let order : takes now n ≡ asks_of (begun.asked ++ more) ++ (stop.0 ++ tail) =
    sym (takes-front now (k + 1) n (omega arith))
    ∙ ap (λ (z : List Ask). z ++ tail) (takes-next now k ∙ ap₂ ◌++◌ (sym begun.asks) stop.1 ∙ sym (append_assoc (asks_of begun.asked) (asks_of more) stop.0)
    ∙ ap (λ (z : List Ask). z ++ stop.0) (sym (asks_both begun.asked more)))
    ∙ append_assoc (asks_of (begun.asked ++ more)) stop.0 tail in (
      begun.asked ++ more,
      Makes-then begun.asked more old mid new begun.calls calls,
      ((stop.0 ++ tail, order), joined_state before b c begun.asked more begun.state state),
    )

all_taken : {A : Type 0} (asks : List Ask) (asked : List Asked) (result : Result A Memory) → asks_of asked ≡ asks → All IsAnswered asked → AreTaken asks asked result
all_taken asks asked (Ok x) order answered = (order, answered)
all_taken asks asked (Err m) order answered = ([], sym order ∙ sym (append-nil (asks_of asked)))

cut_or : (b : Batching) (now : ℕ) (result : Result ℕ Memory) (new : Batching) → IfOk result (λ count. count ≡ length (cut_now b now)) → OnOk result (new ≡ after_cut b now)
    → OnErr result (new ≡ b) → IsCutOr b now result new
cut_or b now (Ok count) new counted cut stays = (counted, cut)
cut_or b now (Err m) new counted cut stays = stays

-- the events of all shards were taken, and then they were cut, or there was no memory
pub Begun-all : (now k n : ℕ) (old new : DeskView) (before b c : Batching) (result : Result ℕ Memory) → k ≡ n → Begun now k old new before b
    → IfOk result (λ count. count ≡ length (cut_now b now)) → OnOk result (c ≡ after_cut b now) → OnErr result (c ≡ b)
    → (asked : List Asked) × Makes asked old new × IsGathered before now n asked result c
Begun-all now k n old new before b c result all begun counted cut stays = (
  begun.asked,
  begun.calls,
  (
    all_taken (takes now n) begun.asked result (begun.asks ∙ ap (takes now) all) begun.answered,
    subst (λ (x : Batching). IsCutOr x now result c) begun.state (cut_or b now result c counted cut stays),
  ),
)
