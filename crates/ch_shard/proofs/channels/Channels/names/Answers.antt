use Rattle.std.proofs.Common.{◌∙◌, ◌++◌, filter, map, slice_get, length, ap, ap₂, arith}
use Rattle.std.specs.Prelude.{option_to_list}
use Rattle.ch_base.specs.declared.channel.ChanAnswer.TheVariants.{Rows}
use Rattle.ch_history.specs.Answers.{row_in}
use Rattle.ch_history.specs.ChannelName.{begins}
use Rattle.ch_history.proofs.Ascending.{IsAscending-ascending}
use Rattle.ch_subs.specs.Names.{names}
use Rattle.ch_subs.proofs.LeastName.{first_name}
use Rattle.ch_shard.specs.Parts.{Parts}
use Rattle.ch_shard.specs.Naming.{following}
use Rattle.ch_shard.proofs.NameLists.{following-next, rows-next, all_names}
use Rattle.ch_shard.proofs.channels.Channels.names.Goals as goal

pub loop-place-init : goal.loop-place-init
loop-place-init c = record {
  name = c.next_name-name.ensures ∙ first_name (names c.self.inside.subs) ∙ ap (λ (k : Parts). slice_get (names k.subs) 0) c.self.view_is;
  rows = c.new-rows.ensures;
}

pub loop-place-preserved : goal.loop-place-preserved
loop-place-preserved c =
    let xs = c.args.self.now.subs in
    let p = begins c.args.prefix.now in
    let k = c.loop-place.place in
    record {
      name = c.name_after-name.ensures
          ∙ ap (following (names xs)) c.loop-place.invariant.name
          ∙ following-next (names xs) k (IsAscending-ascending (map (λ s. s.channel) xs));
      rows = c.in_ok-add_row.ensures
          ∙ ap₂ (λ rs o. rs ++ map (row_in xs) (filter p (option_to_list o))) c.loop-place.invariant.rows c.loop-place.invariant.name
          ∙ rows-next (row_in xs) p (names xs) k;
    }

pub returns : goal.returns
returns c =
    let xs = c.args.self.now.subs in
    ap (λ rs. Rows rs)
    (c.loop-place.invariant.rows
    ∙ ap (λ ns. map (row_in xs) (filter (begins c.args.prefix.now) ns))
    (all_names xs c.loop-place.place (omega (arith, c.len-place-end.ensures, ap (λ (k : Parts). length k.subs) c.self.view_is))))
