use Rattle.std.proofs.Common.{map-id, rules}
use Rattle.std.proofs.lemmas.Iterator.Adapters.{YieldsList-from_skip, YieldsList-from_vec}
use Rattle.std.proofs.lemmas.Iterator.Consumers.{YieldsList-end}
use Rattle.std.specs.Vec.Iter.{into_iter_items}
use Rattle.ch_program.proofs.words.texts.Goals as goal

pub returns : goal.returns
returns c =
    let road = YieldsList-from_skip {s = c.into_iter-arg-iterator.result} 1
    (YieldsList-from_vec (into_iter_items c.args.args) (search rules) (search rules)) (search rules) in
    let end = YieldsList-end road c.loop-arg.yielded c.loop-arg.arg-iterator c.loop-arg.yielded_by c.next.result c.next.new.self c.in-None.is c.next.ensures.steps in
    rw (← end.0, map-id) c.loop-arg.invariant
