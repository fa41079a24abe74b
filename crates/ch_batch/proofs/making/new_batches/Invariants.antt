use Rattle.std.proofs.Common.{◌≡◌, ◌+◌, map}
use Rattle.std.specs.List.{range_with_len}
use Rattle.ch_webhooks.specs.Batches.{batch_of, piece}
use Rattle.ch_webhooks.specs.Batching.{new_batch}
use Rattle.ch_batch.proofs.making.new_batches.Given as goal

abbrev pub invariant-loop-k : goal.invariant-loop-k
invariant-loop-k l =
    l.batches.items ≡ map (λ k. new_batch (batch_of l.sender (record { number = l.next + k; moment = l.moment; events = piece l.events k }))) (range_with_len 0 l.k)
