use Rattle.std.proofs.Common.{◌≤◌, length}
use Rattle.std.proofs.lemmas.List.Sums.{prefix_len-le-length}
use Rattle.ch_sig.specs.Parameters.{is_before, HasName}
use Rattle.ch_sig.specs.declared.query.Param.{Param}
use Rattle.ch_sig.proofs.ParameterLemmas.{insert-prefix_len, with_param-ascending}
use Rattle.ch_sig.proofs.query.Params.insert.Goals as goal

pub insert-requires : goal.insert-requires
insert-requires c =
    let bound : c.place_of-place.result ≤ length c.as_slice.result.now =
    rw c.place_of-place.ensures (prefix_len-le-length {X = Param} (λ p. is_before p.name c.as_str-2.result.now) c.as_slice.result.now) in
    rw c.as_slice.ensures.len at bound

pub invariant_of-self-2 : goal.invariant_of-self-2
invariant_of-self-2 c =
    let absent : ¬ HasName c.self.inside.list.items c.args.name = λ there.
    let found = c.get.ensures.found.1 (rw (← c.self.view_is, c.as_str.ensures.same) there) in cc in
    rw (c.in_ok-insert.ensures.items, c.place_of-place.ensures, c.as_slice.ensures.value, c.as_str-2.ensures.same, insert-prefix_len)
    (with_param-ascending (record { name = c.args.name; value = c.args.value }) c.self.inside.list.items c.self.invariant absent)

pub returns-clause-fresh : goal.returns-clause-fresh
returns-clause-fresh c = λ _.
    rw (c.in_ok-insert.ensures.items, c.place_of-place.ensures, c.as_slice.ensures.value, c.as_str-2.ensures.same, ← c.self.view_is)
    (insert-prefix_len (record { name = c.args.name; value = c.args.value }) c.self.inside.list.items)
