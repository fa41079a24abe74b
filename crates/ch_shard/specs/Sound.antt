-- What the parts of a shard have in common.
use Rattle.std.specs.Prelude.{◌≡◌, ◌<◌, List, All}
use Rattle.ch_base.specs.declared.limits.TheConstants.{MAX_CALLERS}
use Rattle.ch_history.specs.declared.rows.Subscription.{Subscription}
use Rattle.ch_presence.specs.declared.present.Present.{Present}
use Rattle.ch_presence.specs.Subscribed.{HasMember, rows_of}

-- each subscription is a caller's, and has a member exactly on a presence channel; who is present are these members
pub record AreSoundRows (xs : List Subscription) (rows : List Present) : Type 0 where
  pub owners : All (λ s. s.owner < MAX_CALLERS) xs
  pub members : All HasMember xs
  pub present : rows ≡ rows_of xs
