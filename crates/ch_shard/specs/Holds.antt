-- Which histories the parts of a shard hold the outcome of.
use Rattle.std.specs.Prelude.{◌≡◌, ℕ, ◌<◌, ◌≤◌, List}
use Rattle.ch_base.specs.declared.limits.TheConstants.{MAX_CALLERS}
use Rattle.ch_history.specs.Entries.{ChanHistory}
use Rattle.ch_history.specs.Subscriptions.{subscriptions}
use Rattle.ch_history.specs.Clock.{clock}
use Rattle.ch_history.specs.Cache.{latest_at}
use Rattle.ch_history.specs.Frames.{waiting}
use Rattle.ch_history.specs.Held.{held}
use Rattle.ch_history.specs.Pending.{since_take}
use Rattle.ch_history.specs.Legal.{IsLegal}
use Rattle.ch_cache.specs.Latest.{latest_in}
use Rattle.ch_outbox.specs.Outbox.{frames_of}
use Rattle.ch_shard.specs.Parts.{Parts}

-- the history is legal, and the parts are what the history says; of the latest events those that haven't ended by its clock
pub record Holds (parts : Parts) (h : ChanHistory) : Type 0 where
  pub legal : IsLegal h
  pub subs : parts.subs ≡ subscriptions h
  pub latest : (c : List ℕ) (at : ℕ) → clock h ≤ at → latest_in parts.cache c at ≡ latest_at h c at
  pub frames : (w : ℕ) → w < MAX_CALLERS → frames_of parts.outbox w ≡ waiting h w
  pub log : parts.log ≡ since_take h
  pub held : parts.held ≡ held h
