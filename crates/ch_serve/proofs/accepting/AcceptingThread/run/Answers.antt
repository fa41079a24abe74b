use Rattle.std.proofs.Common.{ℕ, [], ◌∷◌, ◌++◌, refl, subst, ◌∙◌, arith, length-append}
use Rattle.ch_serve.specs.Accepting.{Comes, door}
use Rattle.ch_serve.proofs.Arriving.{all_come-more}
use Rattle.ch_serve.proofs.accepting.AcceptingThread.run.Goals as goal

pub loop-turn-init : goal.loop-turn-init
loop-turn-init g c = record { came = ([], refl, refl); caller = refl; few = omega arith }

pub loop-turn-preserved : goal.loop-turn-preserved
loop-turn-preserved g c =
    let inv = c.loop-turn.invariant in
    let one = c.accept_one.ensures in
    let old = door c.args.self.now.pass c.args.self.now.numbered in
    let mid = door c.loop-turn.self.pass c.loop-turn.self.numbered in
    let new = door c.accept_one.new.self.pass c.accept_one.new.self.numbered in
    let here = subst (λ (k : ℕ). Comes k one.came.0 mid new) inv.caller one.came.1 in
    record {
      came = (
        inv.came.0 ++ one.came.0 ∷ [],
        omega (arith, length-append inv.came.0 (one.came.0 ∷ []), inv.came.1),
        all_come-more c.args.self.now.pass.caller inv.came.0 one.came.0 old mid new inv.came.2 here,
      );
      caller = one.caller ∙ inv.caller;
      few = omega (arith, one.numbered, inv.few);
    }
