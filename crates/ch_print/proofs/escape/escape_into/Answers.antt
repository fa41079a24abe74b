use Rattle.std.proofs.Common.{arith, sym, subst, ap, ◌≡◌, ◌≤◌, length, IsUtf8}
use Rattle.std.proofs.lemmas.List.{length-take}
use Rattle.std.proofs.lemmas.Str.{IsCharBoundary-from_take}
use Rattle.ch_print.proofs.escape.escape_into.Goals as goal

pub truncate-requires : goal.truncate-requires
truncate-requires c =
    let old = c.args.out.now in
    let new = c.append_escaped-done.new.out in
    let same : c.as_str-before.result.now ≡ old = c.as_str-before.ensures.same in
    let front = c.append_escaped-done.ensures.front in
    let long : length old ≤ length new = omega (arith, ap length front, length-take (length old) new) in
    let now_text : IsUtf8 new = subst IsUtf8 c.as_str-now.ensures.same c.as_str-now.utf8 in
    let old_text : IsUtf8 old = subst IsUtf8 same c.as_str-before.utf8 in
    let at = IsCharBoundary-from_take new (length old) now_text long (subst IsUtf8 (sym front) old_text) in
    rw same at
