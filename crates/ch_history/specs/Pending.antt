-- The webhook events of a history, and those that no TakeHooks has taken.
use Rattle.std.specs.Prelude.{ℕ, Bool, true, false, List, [], ◌++◌}
use Rattle.ch_base.specs.declared.channel.ChanCall.{ChanCall}
use Rattle.ch_base.specs.declared.channel.ChanCall.TheVariants.{TakeHooks}
use Rattle.ch_base.specs.declared.webhook.Hook.{Hook}
use Rattle.ch_history.specs.Entries.{ChanHistory}
use Rattle.ch_history.specs.Steps.{gathered}
use Rattle.ch_history.specs.Clock.{clock_with, clock}
use Rattle.ch_history.specs.Held.{due, vacated_events, held, hooks}

-- whether the call takes the pending webhook events
abbrev pub is_take_hooks : ChanCall → Bool
is_take_hooks (TakeHooks at) = true
is_take_hooks _ = false

-- all webhook events of the history
abbrev pub hook_list : ChanHistory → List Hook
hook_list h = gathered (λ e. false) hooks [] h

-- those made since the last TakeHooks of any caller
abbrev pub since_take : ChanHistory → List Hook
since_take h = gathered (λ e. is_take_hooks e.call) hooks [] h

-- the pending ones at a moment of the clock: those, and then the notices that are due
abbrev pub pending_at : ChanHistory → ℕ → List Hook
pending_at h now = since_take h ++ vacated_events (due now (held h))

-- those that are pending when the call is made after h: at the clock with this call
abbrev pub pending : ChanHistory → ChanCall → List Hook
pending h call = pending_at h (clock_with (clock h) call)
