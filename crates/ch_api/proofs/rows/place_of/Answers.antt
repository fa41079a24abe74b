use Rattle.std.proofs.Common.{rules, Bor}
use Rattle.std.proofs.lemmas.List.Sorted.{IsPartitionPoint-from_clause}
use Rattle.ch_base.specs.declared.channel.NameRow.{NameRow}
use Rattle.ch_sig.specs.Parameters.{is_before}
use Rattle.ch_api.proofs.RowOrderLemmas.{are_parted, point_is}
use Rattle.ch_api.proofs.rows.place_of.Goals as goal

pub returns : goal.returns
returns c =
    let rows = c.args.rows.now in
    let name = c.args.name.now in
    let place = c.partition_point.result in
    let p = λ (r : Bor NameRow). is_before r.now.channel name in
    point_is p rows place c.partition_point.ensures.bound
    (IsPartitionPoint-from_clause p rows place c.partition_point.ensures.partitioned (are_parted rows name c.requires) (λ a r f k. search rules))
