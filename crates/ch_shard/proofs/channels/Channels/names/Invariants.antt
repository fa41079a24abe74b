use Rattle.std.proofs.Common.{◌≡◌, filter, map, slice_get, take}
use Rattle.std.specs.Option.{option_copied}
use Rattle.ch_history.specs.Answers.{row_in}
use Rattle.ch_history.specs.ChannelName.{begins}
use Rattle.ch_subs.specs.Names.{names}
use Rattle.ch_shard.proofs.channels.Channels.names.Given as goal

abbrev pub invariant-loop-place : goal.invariant-loop-place
invariant-loop-place l = record {
  name : option_copied l.name ≡ slice_get (names l.self.subs) l.place;
  rows : l.rows ≡ map (row_in l.self.subs) (filter (begins l.prefix) (take l.place (names l.self.subs)));
}
