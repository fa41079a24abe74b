use Rattle.std.proofs.Common.{arith, refl, sym, subst, ap, ◌∙◌, ◌<◌, ◌≤◌, ◌++◌, length, get_or}
use Rattle.std.proofs.lemmas.List.{take_all}
use Rattle.std.proofs.lemmas.Result.{on_ok_weaker}
use Rattle.std.specs.Str.{IsCharBoundary}
use Rattle.std.proofs.lemmas.Str.{IsCharBoundary-after_ascii, IsCharBoundary-start}
use Rattle.ch_base.specs.Escape.{escaped_byte, needs_escape}
use Rattle.ch_print.proofs.Escaped.{front_more, kept, added_part, added_last, special_ascii, plain_more}
use Rattle.ch_print.proofs.escape.append_escaped.Goals as goal
use Rattle.ch_print.proofs.escape.append_escaped.Goals.{then-is_special+in_ok-push_str+in_ok-push_escape, else-is_special}

pub loop-i-init : goal.loop-i-init
loop-i-init c = record {
  within = omega arith;
  boundary = IsCharBoundary-start c.args.text.now c.utf8.text;
  plain = λ k low high. absurd (omega arith);
  added = refl;
  front = take_all (length c.args.out.now) c.args.out.now (omega arith);
}

pub returns-in_err-push_escape-clause-front : goal.returns-in_err-push_escape-clause-front
returns-in_err-push_escape-clause-front c =
    let middle = front_more c.args.out.now c.loop-i.out _ c.push_str.new.self c.loop-i.invariant.front c.in_ok-push_str.ensures.ok in
    kept c.args.out.now c.push_str.new.self c.push_escape.new.out middle c.in_err-push_escape.ensures.front

pub loop-i-preserved : goal.loop-i-preserved
loop-i-preserved c =
    let inv = c.loop-i.invariant in
    let text = c.args.text.now in
    let i = c.loop-i.i in
    let same = c.as_bytes-bytes.ensures.value in
    let inside : i < length text = omega (arith, ap length same) in
    let test = ap (λ l. needs_escape (get_or l i 0)) (sym same) ∙ sym c.is_special.ensures in
    elim c.if-is_special.branch [
      | then-is_special+in_ok-push_str+in_ok-push_escape w ↦
          let small = special_ascii (get_or text i 0) (test ∙ w.if-is_special.true) in
          let escape = w.in_ok-push_escape.ensures.ok ∙ ap (λ l. w.push_str.new.self ++ escaped_byte (get_or l i 0)) same in
          record {
            within = omega (arith, w.from-is);
            boundary = subst (IsCharBoundary text) (sym w.from-is) (IsCharBoundary-after_ascii text i c.utf8.text inside small);
            plain = λ k low high. absurd (omega (arith, w.from-is));
            added = rw (w.out-is, w.from-is) (added_part text c.args.out.now c.loop-i.out c.loop-i.from i w.push_str.new.self _ inv.within inside inv.plain inv.added (w.in_ok-push_str.ensures.ok ∙ ap (λ l. c.loop-i.out ++ l) w.range.ensures.value) escape);
            front = rw w.out-is (front_more c.args.out.now w.push_str.new.self _ _ (front_more c.args.out.now c.loop-i.out _ w.push_str.new.self inv.front w.in_ok-push_str.ensures.ok) w.in_ok-push_escape.ensures.ok);
          }
      | else-is_special w ↦
          record {
            within = omega (arith, w.from-is, inv.within);
            boundary = subst (IsCharBoundary text) (sym w.from-is) inv.boundary;
            plain = λ k low high. plain_more text c.loop-i.from i inv.plain (test ∙ w.if-is_special.false) k (omega (arith, w.from-is)) high;
            added = rw (w.out-is, w.from-is) inv.added;
            front = rw w.out-is inv.front;
          }
    ]

pub returns-clause-ok : goal.returns-clause-ok
returns-clause-ok c =
    let inv = c.loop-i.invariant in
    let text = c.args.text.now in
    let same = c.as_bytes-bytes.ensures.value in
    let past : length text ≤ c.loop-i.i = omega (arith, ap length same) in
    on_ok_weaker c.push_str-2.result
    (λ e. added_last text c.args.out.now c.loop-i.out c.loop-i.from _ (omega (arith, inv.within, ap length same)) (λ k low high. inv.plain k low (omega arith)) inv.added (e ∙ ap (λ l. c.loop-i.out ++ l) c.range_from.ensures.value)) c.push_str-2.ensures.ok
