-- What a newcomer makes, by what a shard keeps before it.
use Rattle.std.specs.Prelude.{◌≡◌, ℕ, false, List, [], ◌∷◌, ◌++◌, Option, Some, None, nat_eq, option_map, if◌then◌else◌}
use Rattle.ch_base.specs.declared.channel.Member.{Member}
use Rattle.ch_base.specs.declared.frame.Frame.{Frame}
use Rattle.ch_base.specs.declared.frame.Frame.TheVariants.{Succeeded, Present, Added}
use Rattle.ch_base.specs.declared.webhook.Hook.{Hook}
use Rattle.ch_base.specs.declared.webhook.Hook.TheVariants as hook
use Rattle.ch_history.specs.declared.rows.Subscription.{Subscription}
use Rattle.ch_history.specs.declared.rows.Cached.{Cached}
use Rattle.ch_history.specs.declared.rows.Delivery.{Delivery}
use Rattle.ch_history.specs.ChannelName.{is_cache}
use Rattle.ch_history.specs.Texts.{has_text}
use Rattle.ch_history.specs.Deliveries.{delivery}
use Rattle.ch_history.specs.Frames.{latest_frame}
use Rattle.ch_presence.specs.declared.present.Present as row
use Rattle.ch_presence.specs.Members.{present, ids_on, rows_on, is_present}
use Rattle.ch_shard.specs.Told.{told}

-- the newcomer's row, where it has a member
abbrev pub newcomer_row : List ℕ → ℕ → Option Member → Option row.Present
newcomer_row c socket member = option_map (λ m. present c socket m) member

-- the newcomer's socket isn't present on its channel
abbrev pub IsAbsent : List row.Present → Option row.Present → Type 0
IsAbsent rows None = Unit {0}
IsAbsent rows (Some r) = is_present rows r.channel r.socket ≡ false

-- the frame that a newcomer gets first; rows: who is present before it
abbrev pub first_frame : List row.Present → List ℕ → Option row.Present → Frame
first_frame rows c None = Succeeded c
first_frame rows c (Some r) = Present c (rows_on (rows ++ r ∷ []) r.channel)

-- what a newcomer gets of the latest event
abbrev pub latest_news : List ℕ → Option Cached → ℕ → ℕ → List Delivery
latest_news c kept owner socket = if is_cache c then delivery owner socket (latest_frame c kept) ∷ [] else []

-- the member, where it is a new user of c
abbrev pub new_user : List row.Present → List ℕ → Option Member → Option Member
new_user rows c None = None
new_user rows c (Some m) = if has_text (ids_on rows c) m.user_id then None else Some m

-- where there is a new user, each subscription hears of it
abbrev pub arrived : List ℕ → Option Member → List Subscription → List Delivery
arrived c None xs = []
arrived c (Some m) xs = told (Added c m) None xs

-- the webhook event of a new user
abbrev pub arrived_hook : List ℕ → Option Member → List Hook
arrived_hook c None = []
arrived_hook c (Some m) = hook.Added c m.user_id ∷ []

-- the webhook event of a channel that had this number of subscriptions
abbrev pub occupied_hook : List ℕ → ℕ → List Hook
occupied_hook c subs = if nat_eq subs 0 then hook.Occupied c ∷ [] else []
