use Rattle.std.proofs.Common.{◌≡◌, ◌++◌, map}
use Rattle.std.specs.Prelude.{string_bytes}
use Rattle.std.specs.Iterator.Adapters.{zip_first, zip_second}
use Rattle.std.specs.Slice.Iter.{iter_rest}
use Rattle.ch_requests.specs.Replies.{each_counts}
use Rattle.ch_api.proofs.told_counts.each_counts.Given as goal

abbrev pub invariant-channels : goal.invariant-channels
invariant-channels l =
    map string_bytes l.texts.items ++ each_counts (iter_rest (zip_first l.channel-iterator)) (iter_rest (zip_second l.channel-iterator))
    ≡ each_counts l.counted l.mades
