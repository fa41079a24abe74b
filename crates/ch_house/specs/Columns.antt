-- How the passes of a row are dealt out of the lists of its locks, one of each lock for each caller, and how they come
-- back to them.
use Rattle.std.specs.Prelude.{◌≡◌, ℕ, ◌<◌, ◌≤◌, List, length, map, Option, Some, None, slice_get, slice_index_or, slice_set}
use Rattle.ch_base.specs.declared.entry.Entry.{Entry}
use Rattle.ch_base.specs.declared.limits.TheConstants.{MAX_CALLERS}
use Rattle.ch_turn.specs.Callers.{CallersBelow}
use Rattle.ch_turn.specs.PassModels.{LockModel, PassModel, PassListModel, fresh_pass}
use Rattle.ch_house.specs.Rows.{RowModel, RowPassesModel, seen, ArePassesOf}

module _ {C A : Type 0} where
  -- the list of a lock without the pass of this caller
  abbrev pub without_pass : ℕ → PassListModel C A → PassListModel C A
  without_pass caller m = record { lock = m.lock; slots = slice_set m.slots caller None }

  -- the list of a lock with this pass at its number
  abbrev pub with_pass : PassModel C A → PassListModel C A → PassListModel C A
  with_pass p m = record { lock = m.lock; slots = slice_set m.slots p.caller (Some p) }

  -- the list of a lock with so many callers
  abbrev pub HasCallers : ℕ → PassListModel C A → Type 0
  HasCallers callers m = (length m.slots ≡ callers) × (m.lock.callers ≡ callers)

  -- a list has every pass, none of which has seen an entry
  pub record IsFresh (callers : ℕ) (m : PassListModel C A) : Type 0 where
    pub size : HasCallers callers m
    pub each : (i : ℕ) → i < callers → slice_index_or m.slots i None ≡ Some (fresh_pass m.lock i)

  -- every pass of a list is taken
  pub record IsEmptied (callers : ℕ) (m : PassListModel C A) : Type 0 where
    pub size : HasCallers callers m
    pub none : (i : ℕ) → slice_index_or m.slots i None ≡ None

  -- the lists of the locks, once the passes of the callers below i are dealt out of them
  pub record IsDealt (row : RowModel) (i : ℕ) (lists : List (PassListModel C A)) : Type 0 where
    pub owners : map (λ m. m.lock) lists ≡ row.locks
    pub sizes : (k : ℕ) (m : PassListModel C A) → slice_get lists k ≡ Some m → HasCallers row.callers m
    pub gone : (k : ℕ) (m : PassListModel C A) (j : ℕ) → slice_get lists k ≡ Some m → j < i → slice_index_or m.slots j None ≡ None
    pub there : (k : ℕ) (m : PassListModel C A) (j : ℕ) → slice_get lists k ≡ Some m → i ≤ j → j < row.callers
        → slice_index_or m.slots j None ≡ Some (fresh_pass m.lock j)

  -- the pass of lock k is there at the number j, as it was among these passes of a caller
  abbrev pub IsBack : PassListModel C A → ℕ → ℕ → RowPassesModel C A → Type 0
  IsBack m k j r = (p : PassModel C A) × (slice_index_or m.slots j None ≡ Some p) × (p.caller ≡ r.caller) × (p.seen ≡ seen r k)

  -- the lists of the locks, once the passes of the callers below i are given back to them
  pub record AreBack (row : RowModel) (rows : List (Option (RowPassesModel C A))) (i : ℕ) (lists : List (PassListModel C A)) : Type 0 where
    pub callers : length rows ≡ row.callers
    pub owners : map (λ m. m.lock) lists ≡ row.locks
    pub sizes : (k : ℕ) (m : PassListModel C A) → slice_get lists k ≡ Some m → HasCallers row.callers m
    pub back : (k : ℕ) (m : PassListModel C A) (j : ℕ) (r : RowPassesModel C A) → slice_get lists k ≡ Some m → j < i
        → slice_index_or rows j None ≡ Some r → IsBack m k j r
    pub away : (k : ℕ) (m : PassListModel C A) (j : ℕ) → slice_get lists k ≡ Some m → i ≤ j → slice_index_or m.slots j None ≡ None

module _ {C A : Type 0} (legal : ℕ × ℕ → List (Entry C A) → Type 0) where
  -- the pass is of the lock and of the caller, and has seen a legal list
  pub record IsPassAt (l : LockModel) (caller : ℕ) (p : PassModel C A) : Type 0 where
    pub lock : p.lock ≡ l
    pub caller_is : p.caller ≡ caller
    pub is_legal : legal l.place p.seen

  -- there is a pass of this caller for each lock of the row, and all that it has seen is of the row's callers
  pub record AreOfRow (row : RowModel) (caller : ℕ) (passes : List (PassModel C A)) : Type 0 where
    pub few_callers : row.callers ≤ MAX_CALLERS
    pub caller_below : caller < row.callers
    pub count : length passes ≡ length row.locks
    pub each : (k : ℕ) (l : LockModel) (p : PassModel C A) → slice_get row.locks k ≡ Some l → slice_get passes k ≡ Some p
        → IsPassAt l caller p
    pub known : (k : ℕ) (p : PassModel C A) → slice_get passes k ≡ Some p → CallersBelow row.callers p.seen

module _ {C A : Type 0} where
  -- each caller's passes are at its number, and the lists of the locks are empty
  pub record IsRowPassesList (row : RowModel) (rows : List (Option (RowPassesModel C A))) (lists : List (PassListModel C A)) : Type 0 where
    pub callers : length rows ≡ row.callers
    pub in_place : (i : ℕ) (p : RowPassesModel C A) → slice_index_or rows i None ≡ Some p → ArePassesOf row i p
    pub owners : map (λ m. m.lock) lists ≡ row.locks
    pub emptied : (k : ℕ) (m : PassListModel C A) → slice_get lists k ≡ Some m → IsEmptied row.callers m
