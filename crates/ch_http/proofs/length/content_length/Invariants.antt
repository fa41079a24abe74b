use Rattle.std.proofs.Common.{◌≡◌, take}
use Rattle.std.specs.Prelude.{codes}
use Rattle.ch_requests.specs.Fields.{length_by, values_of}
use Rattle.ch_http.specs.Lengths.{length_of}
use Rattle.ch_http.proofs.length.content_length.Given as goal

abbrev pub invariant-fields : goal.invariant-fields
invariant-fields l = length_of l.length ≡ length_by (values_of (codes "content-length") (take l.field-index l.fields))
