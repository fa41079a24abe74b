-- The names of channels with a subscription, in the order of their bytes.
use Rattle.std.specs.Prelude.{ℕ, Bool, true, List, Option, Some, None, map}
use Rattle.ch_history.specs.declared.rows.Subscription.{Subscription}
use Rattle.ch_history.specs.Texts.{ascending, is_before}

-- the channels with a subscription, each once, ascending
abbrev pub names : List Subscription → List (List ℕ)
names xs = ascending (map (λ s. s.channel) xs)

-- whether the name c comes after the given one, where one is given
abbrev pub is_above : Option (List ℕ) → List ℕ → Bool
is_above None c = true
is_above (Some after) c = is_before after c
