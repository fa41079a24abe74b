use Rattle.ch_base.specs.JsonTree.{array}
use Rattle.ch_members.proofs.array.Array.item.Goals as goal

pub item-requires : goal.item-requires
item-requires c =
    let is = c.requires.2 in
    (c.requires.0, array c.requires.1 is.span, is.node, c.requires.3)

pub returns : goal.returns
returns c = λ text vs v is at. c.item.ensures text (array vs is.span) v is.node at
