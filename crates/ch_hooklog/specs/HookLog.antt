-- The webhook events that wait for the next take, the vacated notices that are held, and for how many more there is room.
use Rattle.std.specs.Prelude.{◌≡◌, ◌≤◌, ℕ, Bool, true, false, not, ◌+◌, ◌++◌, ◌∷◌, [], List, bytes_eq, filter, if◌then◌else◌}
use Rattle.std.specs.List.{list_any}
use Rattle.ch_base.specs.declared.webhook.Hook.{Hook}
use Rattle.ch_base.specs.declared.webhook.Hook.TheVariants.{Occupied, Vacated}
use Rattle.ch_history.specs.declared.rows.HeldNotice.{HeldNotice}
use Rattle.ch_history.specs.Held.{is_passed_on}

-- the events since the last take, the oldest first, the notices that are held, and the spare room
pub record Logged : Type 0 where
  pub hooks : List Hook
  pub held : List HeldNotice
  pub spare : ℕ

-- the event is added at the end and takes one spare place
pub record Puts (old new : Logged) (hook : Hook) : Type 0 where
  pub hooks : new.hooks ≡ old.hooks ++ hook ∷ []
  pub held : new.held ≡ old.held
  pub spare : new.spare + 1 ≡ old.spare

-- the notices of other channels
abbrev pub without : List HeldNotice → List ℕ → List HeldNotice
without notices c = filter (λ notice. not (bytes_eq notice.channel c)) notices

-- One event at a moment

-- what is held with it: a Vacated is held from the moment on, and an Occupied ends the notice of its channel
abbrev pub held_with : ℕ → Hook → List HeldNotice → List HeldNotice
held_with now (Vacated c) notices = notices ++ record { channel = c; since = now } ∷ []
held_with now (Occupied c) notices = without notices c
held_with now _ notices = notices

-- what is logged of it: no Vacated, and no Occupied of a channel whose notice is held
abbrev pub logged_with : Hook → List HeldNotice → List Hook
logged_with event notices = if is_passed_on notices event then event ∷ [] else []

-- the event is noted, and takes at most one spare place
pub record Notes (old new : Logged) (now : ℕ) (event : Hook) : Type 0 where
  pub hooks : new.hooks ≡ old.hooks ++ logged_with event old.held
  pub held : new.held ≡ held_with now event old.held
  pub spare : old.spare ≤ new.spare + 1

-- The events of one call

-- whether the event says that a channel is occupied
abbrev pub is_occupied : Hook → Bool
is_occupied (Occupied c) = true
is_occupied _ = false

-- only the first event may say that a channel is occupied
abbrev pub IsOfOneCall : List Hook → Type 0
IsOfOneCall [] = Unit {0}
IsOfOneCall (event ∷ events) = list_any is_occupied events ≡ false
