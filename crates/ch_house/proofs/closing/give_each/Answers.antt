use Rattle.std.proofs.Common.{rules, ◌≡◌, length}
use Rattle.ch_house.proofs.Columns.{pass_at, list_at, gives_more}
use Rattle.ch_house.proofs.closing.give_each.Goals as goal

pub give-requires-clause-own : goal.give-requires-clause-own
give-requires-clause-own g c =
    let at : c.len.result ≡ length c.pop.new.self.items = search rules in
    let list = list_at c.args.lists.now.items c.args.passes.items c.loop-pass.lists.items c.loop-pass.passes.items c.pop.new.self.items c.in-Some.pass c.index_mut-list.result.now c.len.result c.requires.count c.loop-pass.invariant c.in-Some.ensures.items at c.index_mut-list.ensures.value in
    let pass = pass_at c.args.lists.now.items c.args.passes.items c.loop-pass.lists.items c.loop-pass.passes.items c.pop.new.self.items c.in-Some.pass c.index_mut-list.result.now c.len.result c.requires.count c.loop-pass.invariant c.in-Some.ensures.items at c.index_mut-list.ensures.value in
    (c.requires.own c.len.result c.index_mut-list.result.now c.in-Some.pass list pass).0

pub give-requires-clause-empty : goal.give-requires-clause-empty
give-requires-clause-empty g c =
    let at : c.len.result ≡ length c.pop.new.self.items = search rules in
    let list = list_at c.args.lists.now.items c.args.passes.items c.loop-pass.lists.items c.loop-pass.passes.items c.pop.new.self.items c.in-Some.pass c.index_mut-list.result.now c.len.result c.requires.count c.loop-pass.invariant c.in-Some.ensures.items at c.index_mut-list.ensures.value in
    let pass = pass_at c.args.lists.now.items c.args.passes.items c.loop-pass.lists.items c.loop-pass.passes.items c.pop.new.self.items c.in-Some.pass c.index_mut-list.result.now c.len.result c.requires.count c.loop-pass.invariant c.in-Some.ensures.items at c.index_mut-list.ensures.value in
    (c.requires.own c.len.result c.index_mut-list.result.now c.in-Some.pass list pass).1

pub loop-pass-preserved : goal.loop-pass-preserved
loop-pass-preserved g c =
    let at : c.len.result ≡ length c.pop.new.self.items = search rules in
    gives_more c.args.lists.now.items c.args.passes.items c.loop-pass.lists.items c.loop-pass.passes.items c.pop.new.self.items c.in-Some.pass c.index_mut-list.result.now c.len.result c.requires.count c.loop-pass.invariant c.in-Some.ensures.items at c.index_mut-list.ensures.value c.give.new.self c.give.ensures
