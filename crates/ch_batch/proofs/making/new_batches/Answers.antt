use Rattle.std.proofs.Common.{ℕ, ◌+◌, List, ap, ◌∙◌, arith}
use Rattle.ch_base.specs.declared.webhook.Hook.{Hook}
use Rattle.ch_webhooks.specs.declared.batch.Batch.{Batch}
use Rattle.ch_webhooks.specs.Batches.{Content, batch_of, piece, piece_count}
use Rattle.ch_webhooks.specs.Batching.{new_batch}
use Rattle.ch_batch.proofs.Pieces.{all_made, one_more}
use Rattle.ch_batch.proofs.making.new_batches.Goals as goal

pub loop-k-preserved : goal.loop-k-preserved
loop-k-preserved c =
    let content : ℕ → List Hook → Content = λ k events. record { number = c.args.next + k; moment = c.args.moment; events = events } in
    let k = c.loop-k.k in
    one_more (λ i. new_batch (batch_of c.args.sender.now (content i (piece c.args.events.now i)))) c.loop-k.batches.items c.push.new.self.items (new_batch c.in_ok-batch.batch) k
    c.in_ok-push.ensures.items c.loop-k.invariant
    (ap (λ (b : Batch). new_batch b) (c.in_ok-batch.ensures ∙ ap (λ (events : List Hook). batch_of c.args.sender.now (content k events)) c.piece.ensures))

pub returns : goal.returns
returns c =
    let content : ℕ → Content = λ k. record { number = c.args.next + k; moment = c.args.moment; events = piece c.args.events.now k } in
    all_made (λ x. new_batch (batch_of c.args.sender.now x)) content c.loop-k.batches.items c.loop-k.k (piece_count c.args.events.now) c.loop-k.invariant
    (omega arith) (omega arith)
