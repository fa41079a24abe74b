-- What the webhook thread does at its desk, one thing after another.
use Rattle.std.proofs.Common.{◌≡◌, ℕ, ◌+◌, List, [], ◌∷◌, ◌++◌, refl, ap, ap₂, sym, ◌∙◌, subst, append-nil, length-append, arith}
use Rattle.std.specs.Prelude.{Result}
use Rattle.std.proofs.lemmas.List.{map-append}
use Rattle.std.proofs.lemmas.List.Concat.{flat_map-append}
use Rattle.std.proofs.lemmas.List.FromFn.{map-range_with_len_more}
use Rattle.ch_base.specs.declared.channel.ChanCall.TheVariants.{TakeHooks}
use Rattle.ch_base.specs.declared.memory.Memory.{Memory}
use Rattle.ch_batch.specs.Deeds.{steps}
use Rattle.ch_batch.specs.Gathers.{IsGathered, takes}
use Rattle.ch_batch.specs.Laws.{CollectsChain}
use Rattle.ch_batch.specs.Steps.{after_step}
use Rattle.ch_batch.specs.declared.step.Step.{Step}
use Rattle.ch_desk.proofs.OwnEntries.{Makes-none}
use Rattle.ch_desk.specs.Laws.{CallsChain}
use Rattle.ch_desk.specs.OwnEntries.{Makes}
use Rattle.ch_desk.specs.Views.{DeskView}
use Rattle.ch_protocol.specs.Asks.{Asked, asks_of}
use Rattle.ch_protocol.specs.declared.ask.Ask.{Ask}
use Rattle.ch_protocol.specs.declared.ask.Ask.TheVariants.{Chan}
use Rattle.ch_webhooks.specs.Batching.{Batching}
use Rattle.ch_serve.specs.Webhooks.{Drops, Gathers}

-- ---- batches

pub gathers_none : (desk : DeskView) (b : Batching) → Gathers desk desk b b
gathers_none desk b = record { asked = []; deeds = []; collects = record { calls = Makes-none desk; events = refl; batching = refl } }

pub gathers_then : (x y z : DeskView) (p q r : Batching) → CollectsChain → Gathers x y p q → Gathers y z q r → Gathers x z p r
gathers_then x y z p q r law first then_ = record {
  asked = first.asked ++ then_.asked;
  deeds = first.deeds ++ then_.deeds;
  collects = law.chain first.asked then_.asked first.deeds then_.deeds x y z p q r first.collects then_.collects;
}

-- a gather, and a step after it
pub gathers_round : (asked : List Asked) (old new : DeskView) (before mid now : Batching) (moment : ℕ) (result : Result ℕ Memory) (answer : Step) → CollectsChain
    → Makes asked old new → IsGathered before moment old.chan_shards asked result mid → now ≡ after_step mid answer → Gathers old new before now
gathers_round asked old new before mid now moment result answer law calls is left =
    let g = law.gather asked old new before mid moment result calls is in
    let gathered : Gathers old new before mid = record { asked = asked; deeds = g.0; collects = g.1 } in
    let stepped : Gathers new new mid (after_step mid answer) = record { asked = []; deeds = steps answer ∷ []; collects = law.step answer new mid } in
    subst (λ (b : Batching). Gathers old new before b) (sym left) (gathers_then old new new before mid (after_step mid answer) law gathered stepped)

-- ---- events that are dropped

-- the events of the first k shards were taken
pub record DropsTo (now k : ℕ) (old new : DeskView) : Type 0 where
  pub asked : List Asked
  pub calls : Makes asked old new
  pub asks : asks_of asked ≡ takes now k

pub drops_to_none : (now : ℕ) (desk : DeskView) → DropsTo now 0 desk desk
drops_to_none now desk = record { asked = []; calls = Makes-none desk; asks = refl }

asks_both : (xs ys : List Asked) → asks_of (xs ++ ys) ≡ asks_of xs ++ asks_of ys
asks_both xs ys = map-append (λ (x : Asked). x.ask) xs ys

pub drops_to_next : (now k : ℕ) (old mid new : DeskView) (one : Asked) → CallsChain → DropsTo now k old mid → one.ask ≡ Chan k (TakeHooks now) → Makes (one ∷ []) mid new
    → DropsTo now (k + 1) old new
drops_to_next now k old mid new one chain begun is calls = record {
  asked = begun.asked ++ one ∷ [];
  calls = chain begun.asked (one ∷ []) old mid new begun.calls calls;
  asks = asks_both begun.asked (one ∷ []) ∙ ap₂ ◌++◌ begun.asks (ap (λ (a : Ask). a ∷ []) is)
      ∙ sym (map-range_with_len_more (λ j. Chan j (TakeHooks now)) 0 k k (omega arith));
}

pub drops_none : (desk : DeskView) → Drops 0 desk desk
drops_none desk = record { asked = []; moments = []; count = refl; asks = refl; calls = Makes-none desk }

pub drops_more : (n now : ℕ) (old mid new : DeskView) (asked : List Asked) → CallsChain → Drops n old mid → asks_of asked ≡ takes now mid.chan_shards → Makes asked mid new
    → Drops (n + 1) old new
drops_more n now old mid new asked chain begun is calls =
    let f = λ (at : ℕ). takes at old.chan_shards in
    record {
      asked = begun.asked ++ asked;
      moments = begun.moments ++ now ∷ [];
      count = omega (arith, length-append begun.moments (now ∷ []), begun.count);
      asks = asks_both begun.asked asked ∙ ap₂ ◌++◌ begun.asks (is ∙ ap (takes now) begun.calls.same.chan_shards ∙ sym (append-nil (takes now old.chan_shards)))
          ∙ sym (flat_map-append f begun.moments (now ∷ []));
      calls = chain begun.asked asked old mid new begun.calls calls;
    }
