-- What one more entry at the end of a channel shard's history changes in each definition.
use Rattle.std.proofs.Common.{◌≡◌, ℕ, true, false, cond, List, [], ◌∷◌, ◌++◌, Option, Some, None, refl, ap, sym, ◌∙◌}
use Rattle.ch_history.specs.declared.rows.Cached.{Cached}
use Rattle.ch_history.specs.Entries.{ChanEntry, ChanHistory}
use Rattle.ch_history.specs.ChannelName.{is_cache}
use Rattle.ch_history.specs.Subscriptions.{opened_by, settles, subscriptions, subs_after}
use Rattle.ch_history.specs.Clock.{clock_with, clock_after, clock}
use Rattle.ch_history.specs.Cache.{published, latter, last_published, lasting, renewed, latest_at}
use Rattle.ch_history.specs.Deliveries.{for_owner}
use Rattle.ch_history.specs.Frames.{takes, waiting, frames}
use Rattle.ch_history.specs.Webhooks.{events_at}
use Rattle.ch_history.specs.Held.{held_after, held, hooks}
use Rattle.ch_history.specs.Pending.{is_take_hooks, hook_list, since_take}
use Rattle.ch_history.proofs.Steps.{open_rows-push, gathered-push, folded-push}

-- the subscriptions that the entry leaves open, and then the one that it opens
pub subscriptions-push : (h : ChanHistory) (e : ChanEntry) → subscriptions (h ++ e ∷ []) ≡ subs_after (subscriptions h) e
subscriptions-push h e = open_rows-push opened_by settles h e

-- the clock with the entry's call
pub clock-push : (h : ChanHistory) (e : ChanEntry) → clock (h ++ e ∷ []) ≡ clock_with (clock h) e.call
clock-push h e = after 0 h
  where
    after : (before : ℕ) (later : ChanHistory) → clock_after before (later ++ e ∷ []) ≡ clock_with (clock_after before later) e.call
    after before [] = refl
    after before (d ∷ later) = after (clock_with before d.call) later

latter-assoc : (x y z : Option Cached) → latter x (latter y z) ≡ latter (latter x y) z
latter-assoc x y None = refl
latter-assoc x y (Some z) = refl

none-latter : (x : Option Cached) → latter None x ≡ x
none-latter None = refl
none-latter (Some x) = refl

-- the entry's own event, or else the one before
pub last_published-push : (c : List ℕ) (before : ℕ) (h : ChanHistory) (e : ChanEntry)
    → last_published c before (h ++ e ∷ []) ≡ latter (last_published c before h) (published c (clock_with (clock_after before h) e.call) e.call)
last_published-push c before [] e = sym (none-latter (published c (clock_with before e.call) e.call))
last_published-push c before (d ∷ later) e =
    let stamp : ℕ = clock_with before d.call in
    ap (latter (published c stamp d.call)) (last_published-push c stamp later e)
    ∙ latter-assoc (published c stamp d.call) (last_published c stamp later) (published c (clock_with (clock_after stamp later) e.call) e.call)

lasting-latter : (now : ℕ) (x y : Option Cached) → lasting now (latter x y) ≡ renewed now (lasting now x) y
lasting-latter now x None = refl
lasting-latter now x (Some y) = refl

-- the same of the event that a cache channel keeps at a moment
pub latest_at-push : (h : ChanHistory) (c : List ℕ) (now : ℕ) (e : ChanEntry)
    → latest_at (h ++ e ∷ []) c now ≡ renewed now (latest_at h c now) (cond (is_cache c) (published c (clock_with (clock h) e.call) e.call) None)
latest_at-push h c now e =
    let new : Option Cached = published c (clock_with (clock h) e.call) e.call in
    ap (λ x. cond (is_cache c) (lasting now x) None) (last_published-push c 0 h e)
    ∙ ap (λ x. cond (is_cache c) x None) (lasting-latter now (last_published c 0 h) new)
    ∙ elim (is_cache c) as (λ b. cond b (renewed now (lasting now (last_published c 0 h)) new) None ≡ renewed now (cond b (lasting now (last_published c 0 h)) None) (cond b new None)) [ true ↦ refl | false ↦ refl ]

-- the frames that wait for w, and then those that the entry makes for it; or none, after its Take
pub waiting-push : (h : ChanHistory) (w : ℕ) (e : ChanEntry) → waiting (h ++ e ∷ []) w ≡ cond (takes w e) [] (waiting h w ++ for_owner w (frames h e))
waiting-push h w e = gathered-push (takes w) (λ before d. for_owner w (frames before d)) [] h e

-- the notices that are held, after the moment and the webhook events of the entry
pub held-push : (h : ChanHistory) (e : ChanEntry) → held (h ++ e ∷ []) ≡ held_after (clock_with (clock h) e.call) (events_at h e) (held h)
held-push h e = folded-push (λ before d. held_after (clock_with (clock before) d.call) (events_at before d)) [] [] h e

-- all webhook events, and then those of the entry
pub hook_list-push : (h : ChanHistory) (e : ChanEntry) → hook_list (h ++ e ∷ []) ≡ hook_list h ++ hooks h e
hook_list-push h e = gathered-push (λ d. false) hooks [] h e

-- those since the last TakeHooks, and then those of the entry; or none, after a TakeHooks
pub since_take-push : (h : ChanHistory) (e : ChanEntry) → since_take (h ++ e ∷ []) ≡ cond (is_take_hooks e.call) [] (since_take h ++ hooks h e)
since_take-push h e = gathered-push (λ d. is_take_hooks d.call) hooks [] h e
