use Rattle.std.proofs.Common.{sym, ap, ap₂, ◌∙◌, map, rules}
use Rattle.form_urlencoded.specs.Form.{raw_pairs}
use Rattle.form_urlencoded.specs.Parse.{raw_pairs_left}
use Rattle.ch_requests.specs.Queries.{param_of, members_of}
use Rattle.ch_http.proofs.MemberLemmas.{double_from, double_from-none}
use Rattle.ch_http.proofs.query.read_query.Goals as goal

pub members-init : goal.members-init
members-init c =
    let query = c.args.query.now in
    let left = ap raw_pairs_left c.into_iter-name-iterator.ensures.into_iter_gives ∙ c.raw_pairs-name-items.ensures.value ∙ ap raw_pairs c.as_bytes.ensures.value in (
      search rules,
      sym (double_from-none (members_of query)) ∙ ap₂ double_from (sym c.new-params.ensures) (ap (map param_of) (sym left)),
    )
