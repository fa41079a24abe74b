use Rattle.std.proofs.Common.{◌+◌, None, slice_index_or}
use Rattle.ch_player.proofs.Roundings.{opened, IsOpen-taken, LosesOne-taken}
use Rattle.ch_player.proofs.rounds.lose_one.Goals as goal

pub returns-in_ok-lose-in-Some-clause-loses : goal.returns-in_ok-lose-in-Some-clause-loses
returns-in_ok-lose-in-Some-clause-loses c = λ before after shards were is at.
    let number = c.args.i + 1 in
    let seat = slice_index_or c.args.seats.now.items c.args.i None in
    let session = c.in-Some.session in
    let taken = c.in-Some.ensures.taken in
    LosesOne-taken number c.args.at c.lose.new.desk seat session before after shards taken were is
    (c.in_ok-lose-in-Some.ensures.lost (opened after) shards (IsOpen-taken number seat session after taken is) at c.alone.ensures)
