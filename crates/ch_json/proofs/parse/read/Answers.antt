use Rattle.std.proofs.Common.{arith, refl, sym, ap, subst, ◌∙◌, ◌≡◌, ◌<◌, ◌≤◌, length, [], get_or, Result, Ok, Err}
use Rattle.std.proofs.lemmas.Result.{err_from_is_err_and}
use Rattle.ch_base.specs.declared.limits.TheConstants.{MAX_DEPTH}
use Rattle.ch_json.specs.Machine as spec
use Rattle.ch_json.specs.Machine.{run, step}
use Rattle.ch_json.specs.Document.{Document, Shows}
use Rattle.ch_json.specs.declared.error.JsonError.{JsonError}
use Rattle.ch_json.specs.NodeOf.{HasTree}
use Rattle.ch_json.specs.ReaderView.{Follows}
use Rattle.ch_json.proofs.Faults.{read_more, next}
use Rattle.ch_json.proofs.Verdict.{IsVerdict, step_fault, end_fault, end_found, verdict_tree, verdict_spelled, verdict_syntax, verdict_deep}
use Rattle.ch_json.proofs.parse.read.Goals as goal

pub loop-i-init : goal.loop-i-init
unfolding run
loop-i-init c = (spec.value, MAX_DEPTH, [], refl, record { mode = refl; brackets = record { frames = c.new-reader.ensures.frames; count = refl } })

pub loop-i-preserved : goal.loop-i-preserved
loop-i-preserved c =
    let inv = c.loop-i.invariant in
    let i = c.loop-i.i in
    let text = c.args.text.now in
    let same = c.as_bytes-byte-items.ensures.value in
    let inside : i < length text = omega (arith, ap length same) in
    let k = c.in_ok-mode.ensures inv.0 inv.1 inv.2 inv.4 in (
      k.0,
      k.1,
      k.2,
      read_more MAX_DEPTH text i inside ∙ ap (λ o. next o i (get_or text i 0)) inv.3 ∙ ap (λ l. step inv.0 inv.1 inv.2 i (get_or l i 0)) (sym same) ∙ k.3,
      k.4,
    )

pub returns-in_err-mode : goal.returns-in_err-mode
returns-in_err-mode c =
    let inv = c.loop-i.invariant in
    let i = c.loop-i.i in
    let text = c.args.text.now in
    let same = c.as_bytes-byte-items.ensures.value in
    let inside : i < length text = omega (arith, ap length same) in
    let e = c.in_err-mode.field-0.0 in
    let x = c.from_residual.result in
    let p = err_from_is_err_and x c.from_residual.ensures.1 in
    let is : x ≡ Err e = cc (p.1, p.2) in
    let verdict = subst (IsVerdict text) (sym is) (step_fault text i inv.0 inv.1 inv.2 e c.step.new.self inside inv.3 (subst (λ l. Follows i (Err e) c.step.new.self (step inv.0 inv.1 inv.2 i (get_or l i 0))) same (c.in_err-mode.ensures inv.0 inv.1 inv.2 inv.4))) in
    record { tree = verdict_tree text x verdict; spelled = verdict_spelled text x verdict; syntax = verdict_syntax text x verdict; deep = verdict_deep text x verdict }

pub returns-in_err-top : goal.returns-in_err-top
returns-in_err-top c =
    let inv = c.loop-i.invariant in
    let i = c.loop-i.i in
    let text = c.args.text.now in
    let past : length text ≤ i = omega (arith, ap length c.as_bytes-byte-items.ensures.value) in
    let e = c.in_err-top.field-0.0 in
    let x = c.from_residual-in_err-top.result in
    let p = err_from_is_err_and x c.from_residual-in_err-top.ensures.1 in
    let is : x ≡ Err e = cc (p.1, p.2) in
    let verdict = subst (IsVerdict text) (sym is) (end_fault text i inv.0 inv.1 inv.2 e c.finish.new.self past inv.3 (c.in_err-top.ensures inv.0 inv.1 inv.2 inv.4)) in
    record { tree = verdict_tree text x verdict; spelled = verdict_spelled text x verdict; syntax = verdict_syntax text x verdict; deep = verdict_deep text x verdict }

pub returns : goal.returns
returns c =
    let inv = c.loop-i.invariant in
    let text = c.args.text.now in
    let past : length text ≤ c.loop-i.i = omega (arith, ap length c.as_bytes-byte-items.ensures.value) in
    let k = c.in_ok-top.ensures inv.0 inv.1 inv.2 inv.4 in
    let tree : HasTree c.of.result k.0 = record { top = subst (λ d. Shows d.nodes d.top k.0) (sym c.of.ensures) k.2 } in
    let x : Result Document JsonError = Ok c.of.result in
    let verdict : IsVerdict text x = (k.0, end_found text c.loop-i.i inv.0 inv.1 inv.2 k.0 past inv.3 k.1, tree) in
    record { tree = verdict_tree text x verdict; spelled = verdict_spelled text x verdict; syntax = verdict_syntax text x verdict; deep = verdict_deep text x verdict }
