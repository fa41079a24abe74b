-- What contracts see of a row of locks, and of the passes of its callers.
use Rattle.std.specs.Prelude.{◌≡◌, ℕ, ◌+◌, ◌<◌, ◌≤◌, List, [], length, map, Option, Some, None, IsSome, slice_get, slice_index_or, slice_set}
use Rattle.ch_base.specs.declared.entry.Entry.{Entry}
use Rattle.ch_base.specs.declared.limits.TheConstants.{MAX_CALLERS}
use Rattle.ch_config.specs.declared.limits.TheConstants.{MAX_SHARDS}
use Rattle.ch_turn.specs.declared.closing.Closed.{Closed}
use Rattle.ch_turn.specs.Callers.{CallersBelow, GrowsByOthers}
use Rattle.ch_turn.specs.PassModels.{LockModel}

-- a row: its locks in order, and the number of callers of each
pub record RowModel : Type 0 where
  pub locks : List LockModel
  pub callers : ℕ

abbrev pub row_model : List LockModel → ℕ → RowModel
row_model locks callers = record { locks = locks; callers = callers }

-- the places of the values in the locks
abbrev pub places : RowModel → List (ℕ × ℕ)
places row = map (λ l. l.place) row.locks

-- the place of the value in lock k
abbrev pub place_of : RowModel → ℕ → ℕ × ℕ
place_of row k = slice_index_or (places row) k (0, 0)

-- a row has at least one lock, each with the same callers, of which there is at least one
pub record IsRow (row : RowModel) : Type 0 where
  pub some : 1 ≤ length row.locks
  pub few : length row.locks ≤ MAX_SHARDS
  pub some_callers : 1 ≤ row.callers
  pub few_callers : row.callers ≤ MAX_CALLERS
  pub same_callers : (k : ℕ) (l : LockModel) → slice_get row.locks k ≡ Some l → l.callers ≡ row.callers

-- the passes of one caller: the row, the caller number, and for each lock the list of entries that the caller has seen
-- and the number of calls that it has made
pub record RowPassesModel (C A : Type 0) : Type 0 where
  pub row : RowModel
  pub caller : ℕ
  pub lists : List (List (Entry C A))
  pub calls : List ℕ

-- the passes of all callers of a row, with None where they are taken
pub record RowPassesListModel (C A : Type 0) : Type 0 where
  pub row : RowModel
  pub slots : List (Option (RowPassesModel C A))

module _ {C A : Type 0} where
  -- the entries that the caller has seen at lock k
  abbrev pub seen : RowPassesModel C A → ℕ → List (Entry C A)
  seen p k = slice_index_or p.lists k []

  -- how many calls the caller has made on lock k
  abbrev pub calls_on : RowPassesModel C A → ℕ → ℕ
  calls_on p k = slice_index_or p.calls k 0

  -- the passes of a caller that has seen nothing
  abbrev pub fresh_passes : RowModel → ℕ → RowPassesModel C A
  fresh_passes row caller = record {
    row = row;
    caller = caller;
    lists = map (λ l. []) row.locks;
    calls = map (λ l. 0) row.locks;
  }

  -- the passes after one more call on lock k, where the caller has then seen this list
  abbrev pub after_call : RowPassesModel C A → ℕ → List (Entry C A) → RowPassesModel C A
  after_call p k list = record {
    row = p.row;
    caller = p.caller;
    lists = slice_set p.lists k list;
    calls = slice_set p.calls k (calls_on p k + 1);
  }

  -- nobody has a pass of these
  abbrev pub IsWhole : RowPassesListModel C A → Type 0
  IsWhole passes = (i : ℕ) → i < passes.row.callers → IsSome (slice_index_or passes.slots i None)

  -- the passes are of the row, and have the number i
  abbrev pub ArePassesOf : RowModel → ℕ → RowPassesModel C A → Type 0
  ArePassesOf row i p = (p.row ≡ row) × (p.caller ≡ i)

module _ {T C A : Type 0} (legal : ℕ × ℕ → List (Entry C A) → Type 0) (stands : T → List (Entry C A) → Type 0) where
  -- what was closed at lock k has one legal history of so many entries, for which its value stands. It begins with the
  -- list of each caller at k, has no entry of that caller after it, and none of anyone else
  pub record HasRowHistory (row : RowModel) (k : ℕ) (slots : List (Option (RowPassesModel C A))) (closed : Closed T) : Type 0 where
    pub log : List (Entry C A)
    pub is_legal : legal (place_of row k) log
    pub is_right : stands closed.value log
    pub known_callers : CallersBelow row.callers log
    pub count : length log ≡ closed.entries
    pub each_caller : (i : ℕ) (p : RowPassesModel C A) → slice_index_or slots i None ≡ Some p
        → GrowsByOthers p.caller (seen p k) log
