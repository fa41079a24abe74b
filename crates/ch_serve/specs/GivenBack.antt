-- Workers that have ended, and the passes of their callers. (Of private functions.)
use Rattle.std.specs.Prelude.{◌≡◌, ◌<◌, ◌≤◌, ℕ, List, length, None, Some, slice_get, slice_index_or}
use Rattle.ch_house.specs.Houses.{PassesListModel}
use Rattle.ch_worker.specs.Workers.{WorkerView}
use Rattle.ch_serve.specs.Served.{Seat}

-- the passes of the first n threads are in the list, all else of which is as before, and these are their workers
pub record GivenBack (n : ℕ) (threads : List Seat) (old new : PassesListModel) (workers : List WorkerView) : Type 0 where
  pub house : new.house ≡ old.house
  pub size : length new.slots ≡ length old.slots
  pub count : length workers ≡ n
  pub each : (i : ℕ) (t : Seat) → i < n → slice_get threads i ≡ Some t
      → (slice_index_or new.slots i None ≡ Some t.passes) × (slice_get workers i ≡ Some t.worker)
  pub left : (i : ℕ) → n ≤ i → slice_index_or new.slots i None ≡ slice_index_or old.slots i None
