-- What may go to another thread.
use denote.Param.Send.{IsSend, sendable, view_send}
use Rattle.std.proofs.Crossing.{crosses}
use Rattle.ch_base.proofs.Crossing.{text_send}
use Rattle.ch_history.proofs.Crossing.{cached_send}
use Rattle.ch_cache.specs.contracts.latest_event.LatestEvent as LatestEvent
use Rattle.ch_cache.specs.contracts.cache.Cache as Cache
use Rattle.ch_cache.specs.contracts.cache.Cache.TheInside as Inside

latest_send : IsSend LatestEvent.the_row
latest_send = search (sendable, crosses, text_send, cached_send) depth 24

pub cache_send : IsSend Cache.the_row
cache_send =
    let inside : IsSend Inside.the_row = search (sendable, crosses, latest_send) depth 24 in
    view_send Inside.the_row _ _ _ _ inside
