use Rattle.std.proofs.Common.{◌+◌, ◌<◌, ◌++◌, ◌∷◌, ◌∙◌, [], true, false, All, drop, take, length, subst, ap, sym, append-nil, append_assoc, arith, vec_len, vec_capacity, deque_len, deque_capacity}
use Rattle.std.proofs.lemmas.List.{length-append}
use Rattle.std.proofs.lemmas.List.Elements.{All-push}
use Rattle.ch_history.specs.Held.{due, not_due, vacated_events}
use Rattle.ch_base.specs.declared.webhook.Hook.TheVariants.{Vacated}
use Rattle.ch_hooklog.proofs.Held.{IsSince, since_less, next, due-room, due-push, not_due-push, vacated-push}
use Rattle.ch_hooklog.proofs.hook_log.move_due.Goals as goal
use Rattle.ch_hooklog.proofs.hook_log.move_due.Goals.{then-is_due, else-is_due}

pub push_reserved-requires : goal.push_reserved-requires
push_reserved-requires c =
    let all = c.args.held.now.items in
    let inside : c.loop.counter < length all = omega (arith, c.loop-test.true, c.len-end.ensures, c.args.held.now.ok.0) in
    let step = next c.args.now c.loop.counter all c.in-Some.notice c.pop_front.new.self.items inside (sym c.loop.invariant.held ∙ c.in-Some.ensures.items) in
    let room = due-room c.args.now c.loop.counter all c.in-Some.notice step.0 (sym c.is_due.ensures ∙ c.if-is_due.true) in
    omega (arith, room, c.loop.invariant.len, c.loop.invariant.room, c.requires)

pub loop-preserved : goal.loop-preserved
loop-preserved c =
    let now = c.args.now in
    let all = c.args.held.now.items in
    let gone = take c.loop.counter all in
    let n = c.in-Some.notice in
    let inside : c.loop.counter < length all = omega (arith, c.loop-test.true, c.len-end.ensures, c.args.held.now.ok.0) in
    let step = next now c.loop.counter all n c.pop_front.new.self.items inside (sym c.loop.invariant.held ∙ c.in-Some.ensures.items) in
    let before = c.args.hooks.now.items in
    elim c.if-is_due.branch [
      | then-is_due w ↦
          let is = sym c.is_due.ensures ∙ w.if-is_due.true in
          let its = ap (due now) step.0 ∙ due-push now gone n true is in
          let others = ap (not_due now) step.0 ∙ not_due-push now gone n true is ∙ append-nil (not_due now gone) in
          record {
            counted = omega (arith, c.loop-test.true);
            held = ap (λ q. q.items) w.held-is ∙ step.1 ∙ ap (λ zs. drop (c.loop.counter + 1) all ++ zs) (sym others);
            held_len = omega (arith, ap deque_len w.held-is, c.in-Some.ensures.len, c.loop.invariant.held_len);
            held_room = ap deque_capacity w.held-is ∙ c.pop_front.ensures.capacity ∙ c.loop.invariant.held_room;
            hooks = ap (λ v. v.items) w.hooks-is ∙ w.push_reserved.ensures.items ∙ ap (λ zs. zs ++ Vacated n.channel ∷ []) c.loop.invariant.hooks
                ∙ append_assoc before (vacated_events (due now gone)) (Vacated n.channel ∷ [])
                ∙ ap (λ zs. before ++ zs) (sym (ap vacated_events its ∙ vacated-push (due now gone) n));
            len = omega (arith, ap vec_len w.hooks-is, w.push_reserved.ensures.len, c.loop.invariant.len, ap length its ∙ length-append (due now gone) (n ∷ []));
            room = ap vec_capacity w.hooks-is ∙ w.push_reserved.ensures.capacity ∙ c.loop.invariant.room;
            oldest = subst (All (IsSince c.if-is_due.oldest)) (sym others) (since_less c.loop.oldest c.if-is_due.oldest (not_due now gone) (omega (arith, w.oldest-is)) c.loop.invariant.oldest);
          }
      | else-is_due w ↦
          let is = sym c.is_due.ensures ∙ w.if-is_due.false in
          let its = ap (due now) step.0 ∙ due-push now gone n false is ∙ append-nil (due now gone) in
          let others = ap (not_due now) step.0 ∙ not_due-push now gone n false is in
          record {
            counted = omega (arith, c.loop-test.true);
            held = ap (λ q. q.items) w.held-is ∙ w.push_back_reserved.ensures.items ∙ ap (λ zs. zs ++ n ∷ []) step.1
                ∙ append_assoc (drop (c.loop.counter + 1) all) (not_due now gone) (n ∷ [])
                ∙ ap (λ zs. drop (c.loop.counter + 1) all ++ zs) (sym others);
            held_len = omega (arith, ap deque_len w.held-is, w.push_back_reserved.ensures.len, c.in-Some.ensures.len, c.loop.invariant.held_len);
            held_room = ap deque_capacity w.held-is ∙ w.push_back_reserved.ensures.capacity ∙ c.pop_front.ensures.capacity ∙ c.loop.invariant.held_room;
            hooks = ap (λ v. v.items) w.hooks-is ∙ c.loop.invariant.hooks ∙ ap (λ zs. before ++ vacated_events zs) (sym its);
            len = omega (arith, ap vec_len w.hooks-is, c.loop.invariant.len, ap length its);
            room = ap vec_capacity w.hooks-is ∙ c.loop.invariant.room;
            oldest = subst (All (IsSince c.if-is_due.oldest)) (sym others)
                (All-push (IsSince c.if-is_due.oldest) (not_due now gone) n
                (since_less c.loop.oldest c.if-is_due.oldest (not_due now gone) (omega (arith, w.oldest-is, w.min-oldest.ensures)) c.loop.invariant.oldest) (omega (arith, w.oldest-is, w.min-oldest.ensures)));
          }
    ]
