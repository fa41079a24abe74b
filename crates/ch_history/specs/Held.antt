-- A vacated notice is held for 3,000 ms of the shard's clock. A channel that is joined again before gives no notice of either, so
-- that a page that is loaded again makes no pair of notices.
use Rattle.std.specs.Prelude.{ℕ, ◌+◌, Bool, true, false, not, List, [], ◌++◌, bytes_eq, nat_le, Option, Some, None, filter, filter_map, map}
use Rattle.std.specs.List.{list_any}
use Rattle.ch_base.specs.declared.webhook.Hook.{Hook}
use Rattle.ch_base.specs.declared.webhook.Hook.TheVariants.{Occupied, Vacated}
use Rattle.ch_history.specs.declared.limits.TheConstants.{HELD_FOR}
use Rattle.ch_history.specs.declared.rows.HeldNotice.{HeldNotice}
use Rattle.ch_history.specs.Entries.{ChanEntry, ChanHistory}
use Rattle.ch_history.specs.Steps.{folded}
use Rattle.ch_history.specs.Clock.{clock_with, clock}
use Rattle.ch_history.specs.Webhooks.{events_at}

-- The notices that are held, the oldest first

-- whether the notice is due at the moment
abbrev pub is_due : ℕ → HeldNotice → Bool
is_due now notice = nat_le (notice.since + HELD_FOR) now

-- the notices that are due
abbrev pub due : ℕ → List HeldNotice → List HeldNotice
due now notices = filter (is_due now) notices

-- those that aren't due yet
abbrev pub not_due : ℕ → List HeldNotice → List HeldNotice
not_due now notices = filter (λ notice. not (is_due now notice)) notices

-- whether one of them is of the channel
abbrev pub has_notice : List HeldNotice → List ℕ → Bool
has_notice notices c = list_any (λ notice. bytes_eq notice.channel c) notices

-- the webhook events of notices
abbrev pub vacated_events : List HeldNotice → List Hook
vacated_events notices = map (λ notice. Vacated notice.channel) notices

-- What happens to them at a moment, by the webhook events that then occur

-- whether the event says that the channel is occupied
abbrev pub is_occupied_event : List ℕ → Hook → Bool
is_occupied_event c (Occupied channel) = bytes_eq channel c
is_occupied_event c _ = false

-- the notice that is held from the moment on, where the event says that a channel is vacated
abbrev pub new_notice : ℕ → Hook → Option HeldNotice
new_notice now (Vacated channel) = Some (record { channel = channel; since = now })
new_notice now _ = None

-- the notices afterwards: those that aren't due and whose channel isn't occupied again, and then those of vacated channels
abbrev pub held_after : ℕ → List Hook → List HeldNotice → List HeldNotice
held_after now events notices =
    filter (λ notice. not (list_any (is_occupied_event notice.channel) events)) (not_due now notices)
    ++ filter_map (new_notice now) events

-- whether the event is passed on at once: no Vacated is, and no Occupied of a channel whose notice is held
abbrev pub is_passed_on : List HeldNotice → Hook → Bool
is_passed_on notices (Vacated channel) = false
is_passed_on notices (Occupied channel) = not (has_notice notices channel)
is_passed_on notices _ = true

-- the webhook events that are made then: the notices that are due, and then what is passed on at once
abbrev pub hooks_after : ℕ → List Hook → List HeldNotice → List Hook
hooks_after now events notices = vacated_events (due now notices) ++ filter (is_passed_on (not_due now notices)) events

-- In a history

-- the notices that are held after the history, the oldest first
abbrev pub held : ChanHistory → List HeldNotice
held h = folded (λ before e. held_after (clock_with (clock before) e.call) (events_at before e)) [] [] h

-- whether the vacated notice of the channel is held
abbrev pub is_held : ChanHistory → List ℕ → Bool
is_held h c = has_notice (held h) c

-- the webhook events that the entry e makes after the history h
abbrev pub hooks : ChanHistory → ChanEntry → List Hook
hooks h e = hooks_after (clock_with (clock h) e.call) (events_at h e) (held h)
