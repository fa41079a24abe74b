-- What a gather does at its caller's desk: it takes the webhook events of each channel shard.
use Rattle.std.specs.Prelude.{◌≡◌, ℕ, List, [], ◌++◌, length, map, flat_map, All, Result, Ok, Err}
use Rattle.std.specs.List.{range_with_len}
use Rattle.ch_base.specs.declared.channel.ChanAnswer.{ChanAnswer}
use Rattle.ch_base.specs.declared.channel.ChanAnswer.TheVariants.{Hooks}
use Rattle.ch_base.specs.declared.channel.ChanCall.TheVariants.{TakeHooks}
use Rattle.ch_base.specs.declared.memory.Memory.{Memory}
use Rattle.ch_base.specs.declared.webhook.Hook.{Hook}
use Rattle.ch_protocol.specs.Asks.{Asked, asks_of}
use Rattle.ch_protocol.specs.declared.ask.Ask.{Ask}
use Rattle.ch_protocol.specs.declared.ask.Ask.TheVariants.{Chan}
use Rattle.ch_protocol.specs.declared.ask.Made.{Made}
use Rattle.ch_protocol.specs.declared.ask.Made.TheVariants as made
use Rattle.ch_desk.specs.OwnEntries.{IsAnswered}
use Rattle.ch_webhooks.specs.Batching.{Batching, after_cut, cut_now, with_events}

-- one TakeHooks on each of so many channel shards, ascending
abbrev pub takes : ℕ → ℕ → List Ask
takes now shards = map (λ k. Chan k (TakeHooks now)) (range_with_len 0 shards)

-- the events that an answer has
abbrev pub events_in : ChanAnswer → List Hook
events_in (Hooks events) = events
events_in _ = []

-- the events that came of an ask
abbrev pub events_of : Ask → Made → List Hook
events_of (Chan shard call) (made.Chan answer) = events_in answer
events_of _ _ = []

-- the events that came of asks, in their order
abbrev pub taken : List Asked → List Hook
taken asked = flat_map (λ x. events_of x.ask x.came) asked

-- all asks were made and answered; or the first of them were made, and then there was no memory
abbrev pub AreTaken : {A : Type 0} → List Ask → List Asked → Result A Memory → Type 0
AreTaken asks asked (Ok x) = (asks_of asked ≡ asks) × All IsAnswered asked
AreTaken asks asked (Err m) = (rest : List Ask) × (asks ≡ asks_of asked ++ rest)

-- a cut was made, of which so many batches came; or there was no memory, and nothing changed
abbrev pub IsCutOr : Batching → ℕ → Result ℕ Memory → Batching → Type 0
IsCutOr b now (Ok count) new = (count ≡ length (cut_now b now)) × (new ≡ after_cut b now)
IsCutOr b now (Err m) new = new ≡ b

-- Every shard was asked, what came was accepted, and a cut was made. Or the first shards were asked, what came was accepted, and
-- then there was no memory.
abbrev pub IsGathered : Batching → ℕ → ℕ → List Asked → Result ℕ Memory → Batching → Type 0
IsGathered old now shards asked result new =
    AreTaken (takes now shards) asked result × IsCutOr (with_events old (taken asked)) now result new
