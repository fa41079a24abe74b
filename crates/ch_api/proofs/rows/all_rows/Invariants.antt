use Rattle.std.proofs.Common.{◌≡◌, map, take}
use Rattle.ch_requests.specs.Replies.{all_rows}
use Rattle.ch_api.proofs.rows.all_rows.Given as goal

abbrev pub invariant-loop-made : goal.invariant-loop-made
invariant-loop-made l = map (λ r. r.now) l.rows.items ≡ all_rows (take l.made-index l.mades)
