use Rattle.std.proofs.Common.{◌≡◌, ◌++◌, map, take}
use Rattle.ch_history.specs.Placement.{shard_of}
use Rattle.ch_session.specs.Judging.{watch_by}
use Rattle.ch_session.proofs.signing_in.watch_all.Given as goal

abbrev pub invariant-loop-watched : goal.invariant-loop-watched
invariant-loop-watched l = record {
  places : l.places.items ≡ map (λ id. shard_of id l.shards) (take l.watched-index l.watchlist);
  asks : l.asks ≡ l.initial.asks ++ map (watch_by l.socket l.now l.shards) (take l.watched-index l.watchlist);
}
