use Rattle.std.proofs.Common.{◌≡◌, map, take}
use Rattle.ch_http.specs.Headings.{field_at}
use Rattle.ch_http.proofs.heading.fields_at.Given as goal

abbrev pub invariant-headers : goal.invariant-headers
invariant-headers l = l.fields ≡ map (field_at l.first) (take l.header-index l.headers)
