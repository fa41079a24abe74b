-- A batch that is tried again and again. Each value is what the definitions compute.
use Rattle.std.specs.Prelude.{◌≡◌, ℕ, []}
use Rattle.ch_io.specs.declared.post.Posted.TheVariants.{Status, Failed}
use Rattle.ch_webhooks.specs.declared.batch.Waiting.{Waiting}
use Rattle.ch_batch.specs.declared.step.Step.TheVariants.{Sent, Retry, GaveUp}
use Rattle.ch_batch.specs.Steps.{step_answer}

-- a batch that was tried so many times
abbrev pub tried : ℕ → Waiting
tried tries = record { batch = record { number = 1; moment = 0; body = []; signature = [] }; tries = tries; due = 0 }

-- a batch is tried at 0, 1000, 3000, 7000, 15000, 31000, 63000 and 127000
pub record EightTries : Type 0 where
  pub first : step_answer Failed (tried 0) 0 ≡ Retry 1 1 1000
  pub second : step_answer (Status 500) (tried 1) 1000 ≡ Retry 1 2 3000
  pub third : step_answer (Status 300) (tried 2) 3000 ≡ Retry 1 3 7000
  pub fourth : step_answer (Status 199) (tried 3) 7000 ≡ Retry 1 4 15000
  pub fifth : step_answer Failed (tried 4) 15000 ≡ Retry 1 5 31000
  pub sixth : step_answer Failed (tried 5) 31000 ≡ Retry 1 6 63000
  pub seventh : step_answer Failed (tried 6) 63000 ≡ Retry 1 7 127000
  pub last : step_answer Failed (tried 7) 127000 ≡ GaveUp 1
  pub received : step_answer (Status 200) (tried 7) 127000 ≡ Sent 1
  pub no_content : step_answer (Status 299) (tried 0) 0 ≡ Sent 1
