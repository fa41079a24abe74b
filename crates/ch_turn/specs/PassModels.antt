-- What contracts see of a lock, of a pass and of a list of passes.
use Rattle.std.specs.Prelude.{◌≡◌, ◌⊎◌, ℕ, ◌<◌, List, [], length, Option, Some, None, IsSome, slice_index_or}
use Rattle.atomic_table.specs.Seated.{TableId}
use Rattle.ch_base.specs.declared.entry.Entry.{Entry}
use Rattle.ch_turn.specs.Callers.{CallersBelow, GrowsByOthers}

-- a lock: its table, the number of its callers, and the place of its value
pub record LockModel : Type 0 where
  pub table : TableId
  pub callers : ℕ
  pub place : ℕ × ℕ

abbrev pub lock_model : TableId → ℕ → ℕ × ℕ → LockModel
lock_model table callers place = record { table = table; callers = callers; place = place }

-- a pass: its lock, the caller number, the list of entries that it has seen, and how many calls it has made
pub record PassModel (C A : Type 0) : Type 0 where
  pub lock : LockModel
  pub caller : ℕ
  pub seen : List (Entry C A)
  pub calls : ℕ

-- the passes of a lock, with None where one is taken
pub record PassListModel (C A : Type 0) : Type 0 where
  pub lock : LockModel
  pub slots : List (Option (PassModel C A))

-- no pass is taken
abbrev pub IsWhole : {C A : Type 0} → PassListModel C A → Type 0
IsWhole passes = (i : ℕ) → i < passes.lock.callers → IsSome (slice_index_or passes.slots i None)

module _ {C A : Type 0} where
  -- the pass of a caller that has seen nothing
  abbrev pub fresh_pass : LockModel → ℕ → PassModel C A
  fresh_pass lock caller = record { lock = lock; caller = caller; seen = []; calls = 0 }

  -- this is the list of one of the passes
  abbrev pub IsListOfOne : List (Option (PassModel C A)) → List (Entry C A) → Type 0
  IsListOfOne slots log = (i : ℕ) × (p : PassModel C A) × (slice_index_or slots i None ≡ Some p) × (p.seen ≡ log)

  -- the log begins with the list of each pass, and after that has no entry of the pass's caller: so of each caller it
  -- has the entries that its pass has
  abbrev pub EachGrowsByOthers : List (Option (PassModel C A)) → List (Entry C A) → Type 0
  EachGrowsByOthers slots log =
      (i : ℕ) (p : PassModel C A) → slice_index_or slots i None ≡ Some p → GrowsByOthers p.caller p.seen log

  -- the pass is of the lock, has the number i, and has seen a legal list
  abbrev pub IsPassOf : (ℕ × ℕ → List (Entry C A) → Type 0) → LockModel → ℕ → PassModel C A → Type 0
  IsPassOf legal lock i p = (p.caller ≡ i) × (p.lock ≡ lock) × legal lock.place p.seen

  -- each pass that is there stands at its number
  abbrev pub AllInPlace : (ℕ × ℕ → List (Entry C A) → Type 0) → LockModel → List (Option (PassModel C A)) → Type 0
  AllInPlace legal lock slots =
      (i : ℕ) (p : PassModel C A) → slice_index_or slots i None ≡ Some p → IsPassOf legal lock i p

module _ {T C A : Type 0} (legal : ℕ × ℕ → List (Entry C A) → Type 0) (stands : T → List (Entry C A) → Type 0) where
  -- there is one legal history of this many entries, for which the value stands. It is the longest of the passes'
  -- lists, begins with each of them, has of each caller the entries that its pass has, and has none of anyone else
  pub record HasHistory (lock : LockModel) (slots : List (Option (PassModel C A))) (value : T) (entries : ℕ) : Type 0 where
    pub log : List (Entry C A)
    pub is_legal : legal lock.place log
    pub is_right : stands value log
    pub count : length log ≡ entries
    pub each_pass : EachGrowsByOthers slots log
    pub known_callers : CallersBelow lock.callers log
    pub longest : IsListOfOne slots log ⊎ (log ≡ [])
