-- Room for the frames that a call makes.
use Rattle.std.specs.Prelude.{ℕ, ◌≤◌, ◌==◌, List, count_by}
use Rattle.ch_history.specs.declared.rows.Delivery.{Delivery}
use Rattle.ch_outbox.specs.Outbox.{Waiting, spare_of}

-- how many of these frames the owner w hands over
abbrev pub count_for : ℕ → List Delivery → ℕ
count_for w made = count_by (λ d. d.owner == w) made

-- each owner has room for its frames
abbrev pub HasRoom : List Waiting → List Delivery → Type 0
HasRoom outbox made = (w : ℕ) → count_for w made ≤ spare_of outbox w
