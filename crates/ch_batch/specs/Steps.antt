-- What a step of a batcher does: one try of the lowest batch, where it is due.
use Rattle.std.specs.Prelude.{◌≡◌, ℕ, ◌+◌, ◌-◌, ◌*◌, ◌^◌, ◌≤◌, ◌<◌, ◌==◌, nat_le, Bool, false, ◌&&◌, List, [], ◌∷◌, drop, Option, Some, None, if◌then◌else◌}
use Rattle.ch_io.specs.Counts.{Rose}
use Rattle.ch_io.specs.Posts.{PostTold, HandsOver}
use Rattle.ch_io.specs.declared.post.Posted.{Posted}
use Rattle.ch_io.specs.declared.post.Posted.TheVariants.{Status, Failed}
use Rattle.ch_batch.specs.declared.limits.TheConstants.{FIRST_DELAY, MOST_TRIES}
use Rattle.ch_webhooks.specs.declared.batch.Sender.{Sender}
use Rattle.ch_webhooks.specs.declared.batch.Waiting.{Waiting}
use Rattle.ch_batch.specs.declared.step.Step.{Step}
use Rattle.ch_batch.specs.declared.step.Step.TheVariants.{Sent, Retry, GaveUp}
use Rattle.ch_webhooks.specs.Batching.{Batching}

-- whether the receiver took the batch: a status from 200 to 299 (RFC 9110, section 15.3)
abbrev pub is_received : Posted → Bool
is_received (Status status) = nat_le 200 status && nat_le status 299
is_received Failed = false

-- from when on a batch may be tried again after so many tries, the last of them now: after 1, 2, 4 .. 64 seconds
abbrev pub due_after : ℕ → ℕ → ℕ
due_after tries now = now + FIRST_DELAY * 2 ^ (tries - 1)

-- what a try of the batch comes to
abbrev pub step_answer : Posted → Waiting → ℕ → Step
step_answer posted w now =
    if is_received posted then Sent w.batch.number
    else if w.tries + 1 == MOST_TRIES then GaveUp w.batch.number
    else Retry w.batch.number (w.tries + 1) (due_after (w.tries + 1) now)

-- the lowest batch, where it is due
abbrev pub due_batch : List Waiting → ℕ → Option Waiting
due_batch [] now = None
due_batch (w ∷ others) now = if nat_le w.due now then Some w else None

-- the lowest batch is due only from this moment on
abbrev pub IsDueLater : List Waiting → ℕ → ℕ → Type 0
IsDueLater [] now due = ⊥
IsDueLater (w ∷ others) now due = (now < w.due) × (w.due ≡ due)

-- one try of the batch: its body, the app's key and the body's signature were posted, and the answer is by what the post answered
pub record Tries (sender : Sender) (w : Waiting) (now : ℕ) (old new : PostTold) (answer : Step) : Type 0 where
  pub posted : Posted
  pub handed : HandsOver posted (record { body = w.batch.body; key = sender.key; signature = w.batch.signature }) old.handed new.handed
  pub last : new.last ≡ Some posted
  pub later : old.faults ≤ new.faults
  pub failed : posted ≡ Failed → Rose old.faults new.faults
  pub comes : answer ≡ step_answer posted w now

-- the batches that wait after a step with this answer: one that was sent or given up goes, and one that is retried stays
-- as it is, tried once more
abbrev pub left_by : Step → List Waiting → List Waiting
left_by (Sent number) waiting = drop 1 waiting
left_by (GaveUp number) waiting = drop 1 waiting
left_by (Retry number tries due) (w ∷ others) = record { batch = w.batch; tries = tries; due = due } ∷ others
left_by _ waiting = waiting

-- a batcher without its lowest batch
abbrev pub without_lowest : Batching → Batching
without_lowest b = record { sender = b.sender; uncut = b.uncut; waiting = drop 1 b.waiting; next = b.next }

-- a batcher after a step with this answer
abbrev pub after_step : Batching → Step → Batching
after_step b answer = record { sender = b.sender; uncut = b.uncut; waiting = left_by answer b.waiting; next = b.next }
