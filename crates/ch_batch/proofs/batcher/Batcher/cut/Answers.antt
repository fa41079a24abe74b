use Rattle.std.proofs.Common.{◌+◌, ◌++◌, List, length, map, ap, ◌∙◌, arith}
use Rattle.std.specs.List.{flat_map}
use Rattle.ch_base.specs.declared.webhook.Hook.{Hook}
use Rattle.ch_webhooks.specs.Batches.{batch_of, contents, piece_count}
use Rattle.ch_webhooks.specs.Batching.{Batching, BatcherModel, after_cut, cut_now, new_batch}
use Rattle.ch_batch.proofs.Cuts.{cut_counts, cut_is_made, merged_all, nothing_left, open_with_new}
use Rattle.ch_batch.proofs.batcher.Batcher.cut.Goals as goal

pub invariant_of-self-2 : goal.invariant_of-self-2
invariant_of-self-2 c = (
  open_with_new c.self.inside.sender (contents c.args.now c.self.inside.next c.as_slice-2.result.now) c.self.inside.waiting.items c.from_vec.result.items c.append.new.self.items
      (c.from_vec.ensures.items ∙ c.in_ok-made.ensures) c.in_ok-append.ensures.items c.self.invariant.0,
  omega (arith, c.self.invariant.1, c.if-count-self.false),
)

pub returns-clause-count : goal.returns-clause-count
returns-clause-count c =
    let b : Batching = record {
      sender = c.self.inside.sender;
      uncut = c.self.inside.merged.items ++ flat_map (λ l. l) c.self.inside.lists.items;
      waiting = c.self.inside.waiting.items;
      next = c.self.inside.next;
    } in
    cut_counts b c.args.now c.piece_count-count.result c.merge.new.merged.items
    (merged_all (c.self.inside.merged.items ++ flat_map (λ l. l) c.self.inside.lists.items) c.merge.new.merged.items c.merge.new.lists.items c.in_ok-merge.ensures.done c.in_ok-merge.ensures.all)
    (c.piece_count-count.ensures ∙ ap (λ (xs : List Hook). piece_count xs) c.as_slice.ensures.value)
    (omega (arith, c.self.invariant.1, c.if-count-self.false))
    ∙ ap (λ (m : BatcherModel). length (cut_now m.state c.args.now)) c.self.view_is

pub returns-clause-ok : goal.returns-clause-ok
returns-clause-ok c =
    let b : Batching = record {
      sender = c.self.inside.sender;
      uncut = c.self.inside.merged.items ++ flat_map (λ l. l) c.self.inside.lists.items;
      waiting = c.self.inside.waiting.items;
      next = c.self.inside.next;
    } in
    ap (λ (u : List Hook). record { sender = c.self.inside.sender; uncut = u; waiting = c.append.new.self.items; next = c.self.inside.next + c.piece_count-count.result })
    (nothing_left c.clear.new.self.items c.merge.new.lists.items c.clear.ensures.items c.in_ok-merge.ensures.done)
    ∙ cut_is_made b c.args.now c.piece_count-count.result c.merge.new.merged.items c.from_vec.result.items c.append.new.self.items
    (merged_all (c.self.inside.merged.items ++ flat_map (λ l. l) c.self.inside.lists.items) c.merge.new.merged.items c.merge.new.lists.items c.in_ok-merge.ensures.done c.in_ok-merge.ensures.all)
    (c.piece_count-count.ensures ∙ ap (λ (xs : List Hook). piece_count xs) c.as_slice.ensures.value)
    (omega (arith, c.self.invariant.1, c.if-count-self.false))
    (c.from_vec.ensures.items ∙ c.in_ok-made.ensures ∙ ap (λ (xs : List Hook). map (λ x. new_batch (batch_of b.sender x)) (contents c.args.now b.next xs)) c.as_slice-2.ensures.value)
    c.in_ok-append.ensures.items
    ∙ ap (λ (m : BatcherModel). after_cut m.state c.args.now) c.self.view_is
