use Rattle.std.proofs.Common.{◌≡◌, ◌||◌, map}
use Rattle.form_urlencoded.specs.Parse.{raw_pairs_left}
use Rattle.ch_requests.specs.Queries.{params_of, param_of, members_of, with_members, has_double}
use Rattle.ch_http.proofs.MemberLemmas.{double_from}
use Rattle.ch_http.proofs.query.read_query.Given as goal

abbrev pub invariant-members : goal.invariant-members
invariant-members l =
    (params_of l.fn.query ≡ with_members l.params (map param_of (raw_pairs_left l.name-iterator)))
    × (has_double (members_of l.fn.query) ≡ (l.doubled || double_from l.params (map param_of (raw_pairs_left l.name-iterator))))
