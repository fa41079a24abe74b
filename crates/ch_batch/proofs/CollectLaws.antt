-- What a batcher does at its caller's desk, one call after another.
use Rattle.std.proofs.Common.{◌≡◌, ℕ, List, [], ◌∷◌, ◌++◌, refl, ap, ap₂, sym, ◌∙◌, append-nil}
use Rattle.std.specs.Prelude.{Result, Ok, Err}
use Rattle.std.proofs.lemmas.List.Concat.{flat_map-append}
use Rattle.ch_base.specs.declared.memory.Memory.{Memory}
use Rattle.ch_base.specs.declared.webhook.Hook.{Hook}
use Rattle.ch_protocol.specs.Asks.{Asked}
use Rattle.ch_desk.specs.OwnEntries.{Makes}
use Rattle.ch_desk.specs.Views.{DeskView}
use Rattle.ch_desk.proofs.OwnEntries.{Makes-none, Makes-then}
use Rattle.ch_webhooks.specs.Batching.{Batching}
use Rattle.ch_batch.specs.Deeds.{Deed, accepts, cuts, accepted_by, after, after_all}
use Rattle.ch_batch.specs.Gathers.{IsGathered, taken}
use Rattle.ch_batch.specs.Laws.{Collects, CollectsChain}
use Rattle.ch_batch.proofs.TakesInTurn.{taken_both}

gathered : (asked : List Asked) (old new : DeskView) (before now : Batching) (moment : ℕ) (result : Result ℕ Memory) → Makes asked old new
    → IsGathered before moment old.chan_shards asked result now → (deeds : List Deed) × Collects asked deeds old new before now
gathered asked old new before now moment (Ok count) calls is = (
  accepts (taken asked) ∷ cuts moment ∷ [],
  record { calls = calls; events = append-nil (taken asked); batching = is.1.1 },
)
gathered asked old new before now moment (Err m) calls is = (
  accepts (taken asked) ∷ [],
  record { calls = calls; events = append-nil (taken asked); batching = is.1 },
)

after_both : (b : Batching) (ds es : List Deed) → after_all b (ds ++ es) ≡ after_all (after_all b ds) es
after_both b [] es = refl
after_both b (d ∷ ds) es = after_both (after b d) ds es

pub collects_chain : CollectsChain
collects_chain = record {
  gather = gathered;
  step = λ answer desk before. record { calls = Makes-none desk; events = refl; batching = refl };
  chain = λ xs ys ds es a b c p q r first then_. record {
    calls = Makes-then xs ys a b c first.calls then_.calls;
    events = flat_map-append accepted_by ds es ∙ ap₂ (λ (x y : List Hook). x ++ y) first.events then_.events ∙ sym (taken_both xs ys);
    batching = then_.batching ∙ ap (λ (s : Batching). after_all s es) first.batching ∙ sym (after_both p ds es);
  };
}
