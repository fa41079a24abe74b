use Rattle.std.proofs.Common.{ℕ, ◌+◌, List, ◌++◌, take, drop, ap, subst, arith}
use Rattle.std.proofs.lemmas.Grind.{common_steps}
use Rattle.std.specs.Io.KnownBytes.{Consumes}
use Rattle.std.specs.Prelude.{Option, Some}
use Rattle.ch_io.specs.Reads.{SourceTold}
use Rattle.ch_io.proofs.Pieces.{next_piece}
use Rattle.ch_io.proofs.mem_source.MemSourceSource.read.Goals as goal

pub returns-clause-bytes : goal.returns-clause-bytes
returns-clause-bytes c =
    let i = c.self.inside in
    let n = c.min-n.result in
    let P : Option (List ℕ) → Type 0 = λ o. Consumes o (Some (drop (i.at + n) i.bytes.items)) (take n (c.copy_from_slice.new.self ++ drop n c.args.buf.now)) in
    subst P (ap (λ (s : SourceTold). s.left) c.self.view_is)
    (next_piece n i.at i.bytes.items c.copy_from_slice.new.self (drop n c.args.buf.now) (Prim.grind (arith, common_steps)) (Prim.grind (arith, common_steps)))
