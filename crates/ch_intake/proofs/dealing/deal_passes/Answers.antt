use Rattle.std.proofs.Common.{rules, ◌<◌, Some, ap, sym, ◌∙◌, arith}
use Rattle.crossbeam_queue.specs.Passes.{view}
use Rattle.ch_intake.specs.PassModels.{PassModel, fresh_pass}
use Rattle.ch_intake.specs.PassViews.{after_dealing}
use Rattle.ch_intake.proofs.Places.{push_next}
use Rattle.ch_intake.proofs.QueueSteps.{forks}
use Rattle.ch_intake.proofs.dealing.deal_passes.Goals as goal

pub another-pass-requires-clause-rule : goal.another-pass-requires-clause-rule
another-pass-requires-clause-rule g c =
    let is = c.loop-caller.invariant.dealer in
    let some_number : (view c.loop-caller.dealer).low < (view c.loop-caller.dealer).high =
    omega (arith, ap (λ v. v.low) is, ap (λ v. v.high) is, c.requires.callers, c.loop-caller-test.true) in
    forks _ _ some_number

pub loop-caller-preserved : goal.loop-caller-preserved
loop-caller-preserved g c =
    let inv = c.loop-caller.invariant in
    let did = c.another-pass.ensures in
    record {
      own = (did.queue.0.0 ∙ inv.own.0, did.queue.0.2 ∙ inv.own.1);
      same = did.queue.0.0 ∙ inv.same;
      dealer = did.rule.0 ∙ ap after_dealing inv.dealer;
      count = search rules;
      room = search rules;
      each = push_next (λ j. let p : PassModel g.row.C.Denot = fresh_pass c.args.dealer.table_id j in Some p) c.loop-caller.passes.items c.push_reserved.new.self.items c.loop-caller.caller _ c.push_reserved.ensures.items inv.count inv.each
          (λ k. let p : PassModel g.row.C.Denot = record {
            intake = (did.queue.1.0 ∙ (sym inv.own.0 ∙ inv.same)) k;
            caller = c.loop-caller.caller;
            seen = (ap (λ v. v.seen) did.rule.1 ∙ ap (λ v. v.seen) inv.dealer) k;
          } in Some p);
    }
