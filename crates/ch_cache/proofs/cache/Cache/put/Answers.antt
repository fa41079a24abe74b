use Rattle.std.proofs.Common.{ℕ, ◌+◌, ◌∙◌, List, [], ◌∷◌, ◌++◌, Option, Some, not, cond, bytes_eq, filter, ap, ap₂}
use Rattle.ch_history.specs.declared.limits.TheConstants.{CACHED_FOR}
use Rattle.ch_history.specs.declared.rows.Cached.{Cached}
use Rattle.ch_history.specs.Cache.{lasting}
use Rattle.ch_cache.specs.declared.latest_event.LatestEvent.{LatestEvent}
use Rattle.ch_cache.specs.Latest.{is_event_on, latest_in}
use Rattle.ch_cache.proofs.Latest.{latest_in-put}
use Rattle.ch_cache.proofs.cache.Cache.put.Goals as goal

pub returns-clause-ok : goal.returns-clause-ok
returns-clause-ok c = λ d at.
    let channel : List ℕ = c.args.channel.now in
    let ends : ℕ = c.args.now + CACHED_FOR in
    let es : List LatestEvent = c.self.inside.events.items in
    let y : LatestEvent = record {
      channel = c.in_ok-copy-3.field-0;
      cached = record { event = c.in_ok-copy.field-0; body = c.in_ok-copy-2.field-0; ends = ends };
    } in
    ap (λ es. latest_in es d at) (c.push_reserved.ensures.items
    ∙ ap (λ es. es ++ y ∷ []) (c.forget.ensures.items ∙ ap (filter (λ e. not (is_event_on channel e))) c.in_ok-reserve.ensures.items))
    ∙ latest_in-put es y channel d at c.in_ok-copy-3.ensures
    ∙ ap₂ (λ (x : Cached) (o : Option Cached). cond (bytes_eq channel d) (lasting at (Some x)) o)
    (ap₂ (λ event body. record { event = event; body = body; ends = ends }) c.in_ok-copy.ensures c.in_ok-copy-2.ensures)
    (ap (λ es. latest_in es d at) c.self.view_is)
