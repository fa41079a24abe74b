use Rattle.std.proofs.Common.{◌+◌, [], ◌++◌, take, drop, subst, arith}
use Rattle.std.proofs.lemmas.Grind.{common_steps}
use Rattle.ch_net.specs.Links.{LinkTold, LinkMoves}
use Rattle.ch_net.proofs.Pieces.{link_at, read_moves}
use Rattle.ch_net.proofs.mem_link.MemLinkLink.read.Goals as goal

pub returns-clause-moves : goal.returns-clause-moves
returns-clause-moves c =
    let i = c.self.inside in
    let n = c.min-n.result in
    let copied = c.copy_from_slice.new.self in
    let old = drop n c.args.buf.now in
    let P : LinkTold → Type 0 = λ s. LinkMoves s (link_at (i.at + n) i.bytes.items i.written.items c.next.new.counts) (take n (copied ++ old)) [] in
    subst P c.self.view_is
    (read_moves n i.at i.bytes.items copied old i.written.items i.counts c.next.new.counts c.next.ensures.later (Prim.grind (arith, common_steps)) (Prim.grind (arith, common_steps)))
