-- Events that are noted one after another at a moment.
use Rattle.std.specs.Prelude.{ℕ, List, [], ◌∷◌, ◌++◌}
use Rattle.ch_base.specs.declared.webhook.Hook.{Hook}
use Rattle.ch_history.specs.declared.rows.HeldNotice.{HeldNotice}
use Rattle.ch_hooklog.specs.HookLog.{held_with, logged_with}

-- what is held after them
abbrev pub held_by : ℕ → List Hook → List HeldNotice → List HeldNotice
held_by now [] notices = notices
held_by now (event ∷ events) notices = held_by now events (held_with now event notices)

-- what is logged of them
abbrev pub logged_by : ℕ → List Hook → List HeldNotice → List Hook
logged_by now [] notices = []
logged_by now (event ∷ events) notices = logged_with event notices ++ logged_by now events (held_with now event notices)
