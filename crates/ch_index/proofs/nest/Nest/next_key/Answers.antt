use Rattle.std.proofs.Common.{◌∙◌, None, Some, find, option_map, ap, sym, refl}
use Rattle.std.specs.Option.{option_copied}
use Rattle.std.specs.Ordering.{is_lt}
use Rattle.std.specs.BTreeMap.Range.{range_contains}
use Rattle.std.specs.declared.ops.Bound.TheVariants.{Excluded, Unbounded}
use Rattle.ch_index.specs.Nest.{is_past, is_used, used}
use Rattle.ch_index.proofs.Reading.{next_used, and_true}
use Rattle.ch_index.proofs.nest.Nest.next_key.Goals as goal

pub returns-in-None-clause-next : goal.returns-in-None-clause-next
returns-in-None-clause-next g c =
    c.first_used.ensures
    ∙ ap (λ es. option_map (λ e. e.0) (find (λ e. is_used e.1) es)) (c.range.ensures.between tt)
    ∙ next_used (is_past g.K.Ord.cmp None) (range_contains g.K.Ord.cmp Unbounded Unbounded) (λ k. refl) c.args.self.now.maps.entries
    ∙ ap (λ o. find (is_past g.K.Ord.cmp o) (used c.args.self.now.maps)) (sym (ap option_copied c.in-None.is))

pub returns-in-Some-clause-next : goal.returns-in-Some-clause-next
returns-in-Some-clause-next g c =
    let after = c.in-Some.after.now in
    c.first_used-in-Some.ensures
    ∙ ap (λ es. option_map (λ e. e.0) (find (λ e. is_used e.1) es)) (c.range-in-Some.ensures.between tt)
    ∙ next_used (is_past g.K.Ord.cmp (Some after)) (range_contains g.K.Ord.cmp (Excluded after) Unbounded) (λ k. and_true (is_lt (g.K.Ord.cmp after k))) c.args.self.now.maps.entries
    ∙ ap (λ o. find (is_past g.K.Ord.cmp o) (used c.args.self.now.maps)) (sym (ap option_copied c.in-Some.is))
