-- What an entry changes in the parts of a shard, but for the notices that are due afterwards.
use Rattle.std.specs.Prelude.{◌≡◌, ℕ, ◌≤◌, List, [], ◌++◌, None, length, if◌then◌else◌}
use Rattle.ch_history.specs.Entries.{ChanEntry}
use Rattle.ch_history.specs.Subscriptions.{subs_after}
use Rattle.ch_history.specs.ChannelName.{is_cache}
use Rattle.ch_history.specs.Cache.{published, renewed}
use Rattle.ch_history.specs.Deliveries.{for_owner}
use Rattle.ch_history.specs.Frames.{frames_by, takes}
use Rattle.ch_history.specs.Webhooks.{events_by}
use Rattle.ch_history.specs.Held.{due, not_due, vacated_events, held_after, hooks_after}
use Rattle.ch_history.specs.Pending.{is_take_hooks}
use Rattle.ch_history.specs.Answers.{answer_by}
use Rattle.ch_cache.specs.Latest.{latest_in}
use Rattle.ch_outbox.specs.Outbox.{frames_of}
use Rattle.ch_shard.specs.Parts.{Parts, kept_at, row_at}

-- the parts go from old to new by the entry, at the moment at which the shard's clock then stands; once the notices that are due have
-- been released, the log and what is held are those that the entry makes, and there is room to release them
pub record Moves (old new : Parts) (now : ℕ) (e : ChanEntry) : Type 0 where
  pub answered : e.answer ≡ answer_by old.subs (row_at old now) (frames_of old.outbox e.caller) (old.log ++ vacated_events (due now old.held)) e.call
  pub subs : new.subs ≡ subs_after old.subs e
  pub latest : (c : List ℕ) (at : ℕ) → now ≤ at → latest_in new.cache c at ≡ renewed at (latest_in old.cache c at) (if is_cache c then published c now e.call else None)
  pub frames : (w : ℕ) → frames_of new.outbox w
      ≡ (if takes w e then [] else frames_of old.outbox w ++ for_owner w (frames_by old.subs new.subs (kept_at old now) e.caller e.answer e.call))
  pub log : new.log ++ vacated_events (due now new.held)
      ≡ (if is_take_hooks e.call then [] else old.log ++ hooks_after now (events_by old.subs new.subs (kept_at old now) e.answer e.call) old.held)
  pub held : not_due now new.held ≡ held_after now (events_by old.subs new.subs (kept_at old now) e.answer e.call) old.held
  pub room : length (due now old.held) ≤ old.spare → length (due now new.held) ≤ new.spare

-- the notices that are due at the moment have been released
pub record Released (old new : Parts) (now : ℕ) : Type 0 where
  pub subs : new.subs ≡ old.subs
  pub latest : (c : List ℕ) (at : ℕ) → latest_in new.cache c at ≡ latest_in old.cache c at
  pub frames : (w : ℕ) → frames_of new.outbox w ≡ frames_of old.outbox w
  pub log : new.log ≡ old.log ++ vacated_events (due now old.held)
  pub held : new.held ≡ not_due now old.held
