use Rattle.std.proofs.Common.{◌≡◌, ◌<◌, List, length, get_or, ap, ◌∙◌, refl, arith}
use Rattle.ch_base.specs.declared.entry.Entry.{Entry}
use Rattle.ch_house.specs.declared.counts.ShardCount.{ShardCount}
use Rattle.ch_house.proofs.Counted.{AreCounts-push}
use Rattle.ch_house.proofs.counting.count_each.Goals as goal

pub loop-seat-preserved : goal.loop-seat-preserved
loop-seat-preserved g c =
    let listed = c.as_slice-seat-items.ensures in
    let test = c.loop-seat-test.true in
    let within : c.loop-seat.seat-index < length c.args.closed = omega (arith, ap length listed) in
    let read = c.seat-item.is ∙ ap (λ l. get_or l c.loop-seat.seat-index c.seat-item.result) listed in
    let n : ShardCount = record { entries = c.seat-item.result.entries; left = c.left.result } in
    let room = c.loop-seat.invariant.room in
    let capacity = c.push_reserved.ensures.capacity in
    record {
      room = omega arith;
      counts = AreCounts-push (λ s n. (h : List (Entry g.row.T-Call.Denot g.row.T-Answer.Denot)) → g.T.Served.stands s h → n ≡ g.T.Counted.left_after h) c.args.closed c.loop-seat.seat-index c.loop-seat.room.items
          c.push_reserved.new.self.items c.seat-item.result n c.loop-seat.invariant.counts c.push_reserved.ensures.items within read refl c.left.ensures;
    }
