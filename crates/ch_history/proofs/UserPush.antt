-- What one more entry at the end of a user shard's history changes in each definition.
use Rattle.std.proofs.Common.{◌≡◌, ℕ, cond, [], ◌∷◌, ◌++◌}
use Rattle.ch_history.specs.Entries.{UserEntry, UserHistory}
use Rattle.ch_history.specs.Deliveries.{for_owner}
use Rattle.ch_history.specs.SignIns.{signs_in, sign_settles, sign_ins, sign_ins_after, begins_watch, watch_settles, watches, watches_after}
use Rattle.ch_history.specs.UserFrames.{user_takes, user_waiting, user_frames}
use Rattle.ch_history.proofs.Steps.{open_rows-push, gathered-push}

-- the sign-ins that the entry leaves, and then the one that it makes
pub sign_ins-push : (h : UserHistory) (e : UserEntry) → sign_ins (h ++ e ∷ []) ≡ sign_ins_after (sign_ins h) e
sign_ins-push h e = open_rows-push signs_in sign_settles h e

-- the watches that the entry leaves, and then the one that it begins
pub watches-push : (h : UserHistory) (e : UserEntry) → watches (h ++ e ∷ []) ≡ watches_after (watches h) e
watches-push h e = open_rows-push begins_watch watch_settles h e

-- the frames that wait for w, and then those that the entry makes for it; or none, after its Take
pub user_waiting-push : (h : UserHistory) (w : ℕ) (e : UserEntry) → user_waiting (h ++ e ∷ []) w ≡ cond (user_takes w e) [] (user_waiting h w ++ for_owner w (user_frames h e))
user_waiting-push h w e = gathered-push (user_takes w) (λ before d. for_owner w (user_frames before d)) [] h e
