-- The worked histories of a user shard hold, each by computing.
use Rattle.std.proofs.Common.{refl}
use Rattle.ch_history.specs.UserExamples.{TwoSignedIn, WatchedLate, WatchesItself}

pub two_signed_in : TwoSignedIn
two_signed_in = record {
  answered = (refl, (refl, (refl, (refl, (refl, (refl, (refl, tt)))))));
  is_online = refl;
  is_offline = refl;
  watcher_in = refl;
  watcher = refl;
  user = refl;
}

pub watched_late : WatchedLate
watched_late = record { answered = (refl, (refl, (refl, (refl, (refl, (refl, tt)))))); watches = refl; frames = refl }

pub watches_itself : WatchesItself
watches_itself = record { answered = (refl, (refl, (refl, tt))); frames = refl }
