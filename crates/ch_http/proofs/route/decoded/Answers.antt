use Rattle.std.proofs.Common.{rules}
use Rattle.ch_http.proofs.RouteLemmas.{decoded_text, decoded_none}
use Rattle.ch_http.proofs.route.decoded.Goals as goal

pub returns-in_ok-into_owned-in-Ok : goal.returns-in_ok-into_owned-in-Ok
returns-in_ok-into_owned-in-Ok c =
    decoded_text c.args.name.now _ (rw c.percent_decode_str.ensures.bytes at c.in-Ok.ensures.ok_only_if_utf8) (search rules)

pub returns-in-Err-Utf8 : goal.returns-in-Err-Utf8
returns-in-Err-Utf8 c =
    decoded_none c.args.name.now (λ utf8. let other = c.in-Err-Utf8.ensures.utf8 (rw c.percent_decode_str.ensures.bytes utf8) in cc)
