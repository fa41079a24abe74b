use Rattle.std.proofs.Common.{◌≡◌, ◌<◌, take}
use Rattle.std.specs.List.{count_by}
use Rattle.ch_requests.specs.Heads.{is_line_end}
use Rattle.ch_http.proofs.first_bytes.first_lines.Given as goal

abbrev pub invariant-bytes : goal.invariant-bytes
invariant-bytes l = (l.lines ≡ count_by is_line_end (take l.at l.bytes)) × (l.lines < 66)
