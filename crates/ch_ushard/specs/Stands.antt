-- Which histories a user shard stands for.
use Rattle.std.specs.Prelude.{◌≡◌, ℕ, ◌<◌}
use Rattle.ch_base.specs.declared.limits.TheConstants.{MAX_CALLERS}
use Rattle.ch_history.specs.Entries.{UserHistory}
use Rattle.ch_history.specs.SignIns.{sign_ins, watches}
use Rattle.ch_history.specs.UserFrames.{user_waiting}
use Rattle.ch_history.specs.UserLegal.{IsUserLegal}
use Rattle.ch_outbox.specs.Outbox.{frames_of}
use Rattle.ch_ushard.specs.UserShardState.{UserShardState}

-- the history is legal, and what the shard keeps is what the history says
pub record Stands (shard : UserShardState) (h : UserHistory) : Type 0 where
  pub legal : IsUserLegal h
  pub signs : shard.users.signs ≡ sign_ins h
  pub watches : shard.users.watches ≡ watches h
  pub frames : (w : ℕ) → w < MAX_CALLERS → frames_of shard.outbox w ≡ user_waiting h w
