use Rattle.std.proofs.Common.{ℕ, sym, subst}
use Rattle.std.specs.Prelude.{slice_set}
use Rattle.ch_house.proofs.Calling.{HasCalled, passes_view, reads, own_then, called}
use Rattle.ch_house.proofs.locks.Locks.call.Given as given
use Rattle.ch_house.proofs.locks.Locks.call.Goals as goal

pub call-requires-clause-own : goal.call-requires-clause-own
call-requires-clause-own g c =
    (reads g.T.Served.legal c.args.self.now c.self.inside.locks.items c.self.inside.callers c.self.view_is c.self.invariant c.passes.inside.row.value c.passes.inside.caller c.passes.inside.passes.items c.args.passes.now c.passes.view_is
    c.requires.own c.passes.invariant c.args.k c.requires.lock c.index-lock.result.now c.index-lock.ensures c.index_mut-pass.result.now c.index_mut-pass.ensures.value).here.lock

pub call-requires-clause-fits : goal.call-requires-clause-fits
call-requires-clause-fits g c =
    let read = reads g.T.Served.legal c.args.self.now c.self.inside.locks.items c.self.inside.callers c.self.view_is c.self.invariant c.passes.inside.row.value c.passes.inside.caller c.passes.inside.passes.items c.args.passes.now c.passes.view_is
    c.requires.own c.passes.invariant c.args.k c.requires.lock c.index-lock.result.now c.index-lock.ensures c.index_mut-pass.result.now c.index_mut-pass.ensures.value in
    subst (λ (w : ℕ × ℕ). g.T.Served.fits w c.args.call.now) (sym read.placed) c.requires.fits

pub invariant_of-passes : goal.invariant_of-passes
invariant_of-passes g c =
    let read = reads g.T.Served.legal c.args.self.now c.self.inside.locks.items c.self.inside.callers c.self.view_is c.self.invariant c.passes.inside.row.value c.passes.inside.caller c.passes.inside.passes.items c.args.passes.now c.passes.view_is
    c.requires.own c.passes.invariant c.args.k c.requires.lock c.index-lock.result.now c.index-lock.ensures c.index_mut-pass.result.now c.index_mut-pass.ensures.value in
    own_then g.T.Served.legal c.args.self.now c.passes.inside.row.value c.passes.inside.caller c.passes.inside.passes.items c.args.k c.index-lock.result.now c.index_mut-pass.result.now c.call.new.pass read c.passes.invariant c.call.ensures.same
    c.call.ensures.legal c.call.ensures.known_callers

-- what the call did, as these passes see it
made : (g : given.Over) (c : goal.After-passes-1 g) → HasCalled g.T.Served.legal c.args.self.now c.args.passes.now (passes_view c.passes.inside.row.value c.passes.inside.caller (slice_set c.passes.inside.passes.items c.args.k c.call.new.pass)) c.args.k c.args.call.now c.call.result
made g c =
    let read = reads g.T.Served.legal c.args.self.now c.self.inside.locks.items c.self.inside.callers c.self.view_is c.self.invariant c.passes.inside.row.value c.passes.inside.caller c.passes.inside.passes.items c.args.passes.now c.passes.view_is
    c.requires.own c.passes.invariant c.args.k c.requires.lock c.index-lock.result.now c.index-lock.ensures c.index_mut-pass.result.now c.index_mut-pass.ensures.value in
    called g.T.Served.legal c.args.self.now c.passes.inside.row.value c.passes.inside.caller c.passes.inside.passes.items c.args.k c.index-lock.result.now c.index_mut-pass.result.now c.call.new.pass read c.passes.invariant c.args.passes.now
    c.passes.view_is c.args.call.now c.call.result c.call.ensures.same c.call.ensures.grows c.call.ensures.legal c.call.ensures.known_callers c.call.ensures.most

pub returns-clause-grows : goal.returns-clause-grows
returns-clause-grows g c = (made g c).grows

pub returns-clause-legal : goal.returns-clause-legal
returns-clause-legal g c = (made g c).is_legal

pub returns-clause-known_callers : goal.returns-clause-known_callers
returns-clause-known_callers g c = (made g c).known

pub returns-clause-same : goal.returns-clause-same
returns-clause-same g c = (made g c).same

pub returns-clause-most : goal.returns-clause-most
returns-clause-most g c = (made g c).most
