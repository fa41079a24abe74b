use Rattle.std.proofs.Common.{arith, refl}
use Rattle.ch_json.proofs.Follow as follow
use Rattle.ch_json.proofs.reader.Reader.open.Goals as goal

pub returns-then-len-ge-MAX_DEPTH : goal.returns-then-len-ge-MAX_DEPTH
returns-then-len-ge-MAX_DEPTH c = λ m room fs open_ sees one. (refl, follow.open_deep c.args.self.now room m fs open_ (omega arith))

pub returns : goal.returns
returns c = λ m room fs open_ sees one. follow.open_on c.args.self.now c.args.mode room m fs c.args.at open_ (omega arith) sees one
