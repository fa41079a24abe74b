use Rattle.std.proofs.Common.{◌∙◌, ap, sym}
use Rattle.ch_cache.specs.Latest.{latest_in}
use Rattle.ch_history.specs.ChannelName.{is_cache}
use Rattle.ch_shard.specs.Parts.{event_at}
use Rattle.ch_shard.proofs.LatestEvents.{not_kept, now_kept}
use Rattle.ch_shard.proofs.publishing.put_latest.Goals as goal

pub returns-then-not-is_cache-clause-ok : goal.returns-then-not-is_cache-clause-ok
returns-then-not-is_cache-clause-ok c = λ d at.
    not_kept (latest_in c.args.cache.now) c.args.channel.now (event_at c.args.now c.args.event.now c.args.body.now) d at (sym (c.is_cache.ensures ∙ ap is_cache c.as_str.ensures.same) ∙ c.if-not-is_cache.true)

pub returns-clause-ok : goal.returns-clause-ok
returns-clause-ok c = λ d at.
    c.in_ok-put.ensures.ok d at
    ∙ now_kept (latest_in c.args.cache.now) c.args.channel.now (event_at c.args.now c.args.event.now c.args.body.now) d at (sym (c.is_cache.ensures ∙ ap is_cache c.as_str.ensures.same) ∙ c.if-not-is_cache.false)
