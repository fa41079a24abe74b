use Rattle.std.proofs.Common.{◌≡◌, map, take}
use Rattle.std.specs.Prelude.{string_bytes}
use Rattle.ch_requests.specs.Replies.{row_member}
use Rattle.ch_api.proofs.rows.row_members.Given as goal

abbrev pub invariant-loop-row : goal.invariant-loop-row
invariant-loop-row l = map string_bytes l.texts.items ≡ map (λ r. row_member l.wanted r.now) (take l.row-index l.row-items)
