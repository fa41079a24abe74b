use Rattle.std.proofs.Common.{◌≡◌, map, take}
use Rattle.ch_requests.specs.Replies.{with_rows}
use Rattle.ch_api.proofs.rows.add_rows.Given as goal

abbrev pub invariant-loop-row : goal.invariant-loop-row
invariant-loop-row l = map (λ r. r.now) l.rows.items ≡ with_rows (map (λ r. r.now) l.initial.rows.items) (take l.row-index l.more)
