use Rattle.std.proofs.Common.{◌≡◌, get_or, length, arith, ap, ◌∙◌}
use Rattle.std.specs.Result.{result_ok}
use Rattle.std.proofs.lemmas.Str.Parse.{parse_gives}
use Rattle.ch_names.proofs.SocketIdLemmas.{numerals, part_from_test, part_number-lt, written_number-zero_first, written_number-plain}
use Rattle.ch_names.proofs.socket_id.written_number.Goals.{else-part-gt1-via-then-part-gt1+else-as_bytes-eq48, else-part-gt1-via-else-part-gt1}
use Rattle.ch_names.proofs.socket_id.written_number.Goals as goal

pub returns-then-as_bytes-eq48 : goal.returns-then-as_bytes-eq48
returns-then-as_bytes-eq48 c =
    let zero = rw c.as_bytes.ensures.value at c.if-as_bytes-eq48.true in
    written_number-zero_first c.args.part.now (part_from_test _ c.requires) c.if-part-gt1.true zero

pub returns : goal.returns
returns c =
    let part = part_from_test c.args.part.now c.requires in
    let parsed = parse_gives numerals 64 c.args.part.now _ c.parse.ensures.value.0 part.digits part.filled (part_number-lt _ part) in
    let plain : get_or c.args.part.now 0 0 ≡ 48 → length c.args.part.now ≡ 1 =
    elim c.else-part-gt1.branch [
      | else-part-gt1-via-then-part-gt1+else-as_bytes-eq48 w ↦ λ zero. absurd (w.if-as_bytes-eq48.false (rw w.as_bytes.ensures.value zero))
      | else-part-gt1-via-else-part-gt1 w ↦ λ zero. omega (arith, part.filled, w.if-part-gt1.false)
    ] in
    c.ok.ensures.value ∙ ap result_ok parsed ∙ written_number-plain c.args.part.now part plain
