use Rattle.std.proofs.Common.{◌≡◌, ◌+◌, ◌<◌, ◌∙◌, ◌||◌, ap, ap₂, sym, subst, arith, None, length, take, is_some, slice_index_or}
use Rattle.std.proofs.lemmas.List.{length-set, take_all}
use Rattle.ch_player.specs.Benches.{IsAtShards}
use Rattle.ch_transcript.specs.Progress.{no_socket}
use Rattle.ch_transcript.specs.Rounds.{any_ended, loses_ended}
use Rattle.ch_player.specs.Seats.{IsSeatOf}
use Rattle.ch_player.specs.Rounding.{open_in}
use Rattle.ch_player.proofs.Roundings.{Losing, Losing-next, Emptied-all, AreSeats-emptied, done-next, left-next, seat-elsewhere, seat-here}
use Rattle.ch_player.proofs.rounds.lose_ended.Goals.{then-any, else-any}
use Rattle.ch_player.proofs.rounds.lose_ended.Goals as goal

pub loop-i-preserved : goal.loop-i-preserved
loop-i-preserved c =
    let old = c.args.seats.now.items in
    let mid = c.loop-i.seats.items in
    let new = c.lose_one.new.seats.items in
    let bench = c.lose_one.new.bench in
    let i = c.loop-i.i in
    let so_far = c.loop-i.invariant in
    let one = c.in_ok-ended.ensures in
    let inside : i < length old = omega (arith, c.loop-i-test.true, c.len-i-end.ensures) in
    let within : i < length mid = omega (arith, inside, so_far.count) in
    let elsewhere = seat-elsewhere mid new i one.left in
    let any : c.if-any.any ≡ (c.loop-i.any || c.in_ok-ended.ended) =
    elim c.if-any.branch [
      | then-any w ↦ w.any-is ∙ w.if-any.true ∙ sym (ap (λ b. b || c.in_ok-ended.ended) w.if-any.true)
      | else-any w ↦ w.any-is ∙ sym (ap (λ b. b || c.in_ok-ended.ended) w.if-any.false)
    ] in
    record {
      count = ap length one.left ∙ length-set mid i _ ∙ so_far.count;
      shards = one.shards;
      emptied = done-next open_in (λ j. slice_index_or old j None) (λ j. slice_index_or mid j None) (λ j. slice_index_or new j None) i elsewhere so_far.left (seat-here mid new i one.left within) so_far.emptied;
      left = left-next open_in (λ j. slice_index_or old j None) (λ j. slice_index_or mid j None) (λ j. slice_index_or new j None) i elsewhere so_far.left;
      losing = λ before after shards were are at.
          let here = so_far.losing before after shards were are at in
          let same = so_far.left i (omega arith) in
          let x = slice_index_or before i no_socket in
          let y = slice_index_or after i no_socket in
          let below : i < length before = omega (arith, inside, were.count) in
          let seat = subst (λ s. IsSeatOf (i + 1) s y) (sym same) (are.each i (omega (arith, inside, are.count))) in
          let made = one.loses x y (loses_ended c.args.at 1 (take i before) (take i after) shards) (were.each i below ∙ ap is_some (sym same)) seat here.at_shards in
          subst (Losing c.args.at (i + 1) bench before after shards) (sym any)
          (Losing-next c.args.at i bench before after shards c.loop-i.any c.in_ok-ended.ended (were.count ∙ are.count) below here.told made);
    }

pub returns-clause-loses : goal.returns-clause-loses
returns-clause-loses c = λ before after shards were are at.
    let old = c.args.seats.now.items in
    let new = c.loop-i.seats.items in
    let i = c.loop-i.i in
    let so_far = c.loop-i.invariant in
    let here = so_far.losing before after shards were are at in
    let whole_before = take_all i before (omega (arith, c.loop-i-test.false, c.len-i-end.ensures, were.count)) in
    let whole_after = take_all i after (omega (arith, c.loop-i-test.false, c.len-i-end.ensures, are.count)) in
    record {
      told = here.told ∙ ap₂ any_ended whole_before whole_after;
      seats = AreSeats-emptied old new after (Emptied-all old new so_far.count (λ j below. so_far.emptied j (omega (arith, below, c.loop-i-test.false, c.len-i-end.ensures)))) are;
      at_shards = subst (IsAtShards c.loop-i.bench) (ap₂ (λ p q. loses_ended c.args.at 1 p q shards) whole_before whole_after) here.at_shards;
    }
