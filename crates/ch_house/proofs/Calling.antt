-- A call on one lock of a row.
use Rattle.std.proofs.Common.{◌≡◌, ℕ, ◌+◌, ◌<◌, ◌≤◌, List, [], length, map, get_or, set, Some, sym, refl, ap, ◌∙◌, subst, arith, length-set}
use Rattle.std.specs.Prelude.{slice_get, Result}
use Rattle.std.proofs.lemmas.List.{get_or-map, map-set}
use Rattle.std.proofs.lemmas.Option.{slice_get_read, slice_get_within, get_or_from_slice_get, same_Some}
use mathlib.Core.Logic.{dite}
use native.Mathlib.Decide.{ℕ_discrete}
use Rattle.ch_base.specs.declared.entry.Entry.{Entry}
use Rattle.ch_base.specs.Growth.{GrowsBy}
use Rattle.ch_turn.specs.Callers.{CallersBelow}
use Rattle.ch_turn.specs.PassModels.{LockModel, PassModel}
use Rattle.ch_house.specs.Rows.{RowModel, RowPassesModel, row_model, IsRow, place_of, seen, calls_on, after_call}
use Rattle.ch_house.specs.Columns.{IsPassAt, AreOfRow}
use Rattle.ch_house.proofs.Places.{get_set_same, get_set_other, get_within}
use Rattle.ch_turn.specs.declared.limits.TheConstants.{MOST_CALLS}

-- the place of the value in lock k
pub place_at : (row : RowModel) (k : ℕ) (l : LockModel) → slice_get row.locks k ≡ Some l → place_of row k ≡ l.place
place_at row k l at =
    get_or-map (λ (m : LockModel). m.place) row.locks k l (0, 0) (slice_get_within row.locks k l at) ∙ ap (λ (m : LockModel). m.place) (get_or_from_slice_get row.locks k l l at)

module _ {C A : Type 0} where
  -- the pass p after one more call, where it has then seen what q has
  abbrev pub after_one : PassModel C A → PassModel C A → PassModel C A
  after_one p q = record { lock = p.lock; caller = p.caller; seen = q.seen; calls = p.calls + 1 }

  -- what contracts see of these passes of a row
  abbrev pub passes_view : RowModel → ℕ → List (PassModel C A) → RowPassesModel C A
  passes_view row caller passes = record { row = row; caller = caller; lists = map (λ p. p.seen) passes; calls = map (λ p. p.calls) passes }

  pub seen_at : (row : RowModel) (caller : ℕ) (passes : List (PassModel C A)) (k : ℕ) (p : PassModel C A) → slice_get passes k ≡ Some p → seen (passes_view row caller passes) k ≡ p.seen
  seen_at row caller passes k p at =
      get_or-map (λ (q : PassModel C A). q.seen) passes k p [] (slice_get_within passes k p at) ∙ ap (λ (q : PassModel C A). q.seen) (get_or_from_slice_get passes k p p at)

  pub calls_at : (row : RowModel) (caller : ℕ) (passes : List (PassModel C A)) (k : ℕ) (p : PassModel C A) → slice_get passes k ≡ Some p → calls_on (passes_view row caller passes) k ≡ p.calls
  calls_at row caller passes k p at =
      get_or-map (λ (q : PassModel C A). q.calls) passes k p 0 (slice_get_within passes k p at) ∙ ap (λ (q : PassModel C A). q.calls) (get_or_from_slice_get passes k p p at)

module _ {C A : Type 0} (legal : ℕ × ℕ → List (Entry C A) → Type 0) where
  -- the passes of a caller, with another one at k
  pub AreOfRow-set : (row : RowModel) (caller : ℕ) (passes : List (PassModel C A)) (k : ℕ) (p : PassModel C A) → AreOfRow legal row caller passes → k < length passes
      → ((l : LockModel) → slice_get row.locks k ≡ Some l → IsPassAt legal l caller p) → CallersBelow row.callers p.seen → AreOfRow legal row caller (set passes k p)
  AreOfRow-set row caller passes k p own within here known = record {
    few_callers = own.few_callers;
    caller_below = own.caller_below;
    count = length-set passes k p ∙ own.count;
    each = λ j l q lock at. dite (ℕ_discrete j k)
        (λ (same : j ≡ k).
        let there : slice_get (set passes k p) k ≡ Some q = subst (λ (i : ℕ). slice_get (set passes k p) i ≡ Some q) same at in
        let is : p ≡ q = same_Some p q (sym (get_set_same passes k p within) ∙ there) in
        subst (λ (r : PassModel C A). IsPassAt legal l caller r) is (here l (subst (λ (i : ℕ). slice_get row.locks i ≡ Some l) same lock)))
        (λ other. own.each j l q lock (sym (get_set_other passes k j p other) ∙ at));
    known = λ j q at. dite (ℕ_discrete j k)
        (λ (same : j ≡ k).
        let there : slice_get (set passes k p) k ≡ Some q = subst (λ (i : ℕ). slice_get (set passes k p) i ≡ Some q) same at in
        let is : p ≡ q = same_Some p q (sym (get_set_same passes k p within) ∙ there) in
        subst (λ (r : PassModel C A). CallersBelow row.callers r.seen) is known)
        (λ other. own.known j q (sym (get_set_other passes k j p other) ∙ at));
  }

  -- a call was made on lock k
  pub record HasCalled {M : Type 0} (row : RowModel) (before after : RowPassesModel C A) (k : ℕ) (call : C) (r : Result A M) : Type 0 where
    pub grows : GrowsBy before.caller call r (seen before k) (seen after k)
    pub is_legal : legal (place_of row k) (seen after k)
    pub known : CallersBelow row.callers (seen after k)
    pub same : after ≡ after_call before k (seen after k)
    pub most : calls_on after k ≤ MOST_CALLS

  module _ (row : RowModel) (caller : ℕ) (passes : List (PassModel C A)) (k : ℕ) (l : LockModel) (p q : PassModel C A)
      (own : AreOfRow legal row caller passes) (lock : slice_get row.locks k ≡ Some l) (at : slice_get passes k ≡ Some p) where
    pub pass_here : IsPassAt legal l caller p
    pass_here = own.each k l p lock at

    pub own_after : q ≡ after_one p q → legal l.place q.seen → CallersBelow row.callers q.seen → AreOfRow legal row caller (set passes k q)
    own_after same lawful known = AreOfRow-set row caller passes k q own (slice_get_within passes k p at) (λ m lock'.
        let is : l ≡ m = same_Some l m (sym lock ∙ lock') in
        let here = pass_here in
        subst (λ (n : LockModel). IsPassAt legal n caller q) is record {
          lock = ap (λ (z : PassModel C A). z.lock) same ∙ here.lock;
          caller_is = ap (λ (z : PassModel C A). z.caller) same ∙ here.caller_is;
          is_legal = lawful;
        }) known

    has_called_here : {M : Type 0} (call : C) (r : Result A M) → q ≡ after_one p q → GrowsBy p.caller call r p.seen q.seen
        → legal l.place q.seen → CallersBelow row.callers q.seen → q.calls ≤ MOST_CALLS → HasCalled row (passes_view row caller passes) (passes_view row caller (set passes k q)) k call r
    has_called_here call r same grows lawful known most =
        let within : k < length passes = slice_get_within passes k p at in
        let now : slice_get (set passes k q) k ≡ Some q = get_set_same passes k q within in
        let old_seen : seen (passes_view row caller passes) k ≡ p.seen = seen_at row caller passes k p at in
        let new_seen : seen (passes_view row caller (set passes k q)) k ≡ q.seen = seen_at row caller (set passes k q) k q now in
        let old_calls : calls_on (passes_view row caller passes) k ≡ p.calls = calls_at row caller passes k p at in
        let new_calls : calls_on (passes_view row caller (set passes k q)) k ≡ q.calls = calls_at row caller (set passes k q) k q now in
        let here = pass_here in
        let counted : q.calls ≡ p.calls + 1 = ap (λ (z : PassModel C A). z.calls) same in
        let lists : map (λ z. z.seen) (set passes k q) ≡ set (map (λ z. z.seen) passes) k (seen (passes_view row caller (set passes k q)) k) =
        map-set (λ (z : PassModel C A). z.seen) passes k q ∙ ap (set (map (λ (z : PassModel C A). z.seen) passes) k) (sym new_seen) in
        let counts : map (λ z. z.calls) (set passes k q) ≡ set (map (λ z. z.calls) passes) k (calls_on (passes_view row caller passes) k + 1) =
        map-set (λ (z : PassModel C A). z.calls) passes k q ∙ ap (set (map (λ (z : PassModel C A). z.calls) passes) k) (counted ∙ ap (λ n. n + 1) (sym old_calls)) in record {
          grows = subst (λ (w : ℕ × List (Entry C A) × List (Entry C A)). GrowsBy w.0 call r w.1 w.2) (λ i. (here.caller_is i, sym old_seen i, sym new_seen i)) grows;
          is_legal = subst (λ (w : (ℕ × ℕ) × List (Entry C A)). legal w.0 w.1) (λ i. (sym (place_at row k l lock) i, sym new_seen i)) lawful;
          known = subst (CallersBelow row.callers) (sym new_seen) known;
          same = λ i. record { row = row; caller = caller; lists = lists i; calls = counts i };
          most = subst (λ (n : ℕ). n ≤ MOST_CALLS) (sym new_calls) most;
        }

  -- the lock and the pass at k
  pub record IsRead (row inner : RowModel) (caller : ℕ) (passes : List (PassModel C A)) (k : ℕ) (l : LockModel) (p : PassModel C A) : Type 0 where
    pub row_is : inner ≡ row
    pub lock : slice_get row.locks k ≡ Some l
    pub pass : slice_get passes k ≡ Some p
    pub here : IsPassAt legal l caller p
    pub placed : l.place ≡ place_of row k
    pub same_callers : l.callers ≡ row.callers

  pub reads : (row : RowModel) (locks : List LockModel) (callers : ℕ) → row_model locks callers ≡ row → IsRow (row_model locks callers)
      → (inner : RowModel) (caller : ℕ) (passes : List (PassModel C A)) (old : RowPassesModel C A) → passes_view inner caller passes ≡ old → old.row ≡ row → AreOfRow legal inner caller passes
      → (k : ℕ) → k < length row.locks → (l : LockModel) → l ≡ get_or locks k l → (p : PassModel C A) → p ≡ get_or passes k p → IsRead row inner caller passes k l p
  reads row locks callers row_view is_row inner caller passes old view of_row own k within l lock_is p pass_is =
      let rows : inner ≡ row = ap (λ (z : RowPassesModel C A). z.row) view ∙ of_row in
      let own' : AreOfRow legal row caller passes = subst (λ (z : RowModel). AreOfRow legal z caller passes) rows own in
      let long = ap (λ (z : RowModel). length z.locks) row_view in
      let lock : slice_get row.locks k ≡ Some l = ap (λ (z : RowModel). slice_get z.locks k) (sym row_view) ∙ slice_get_read locks (length locks) k l refl (omega arith) lock_is in
      let many = own'.count in
      let pass : slice_get passes k ≡ Some p = slice_get_read passes (length passes) k p refl (omega arith) pass_is in
      let here = own'.each k l p lock pass in
      record { row_is = rows; lock = lock; pass = pass; here = here; placed = sym (place_at row k l lock); same_callers = (subst IsRow row_view is_row).same_callers k l lock }

  module _ (row inner : RowModel) (caller : ℕ) (passes : List (PassModel C A)) (k : ℕ) (l : LockModel) (p q : PassModel C A) (read : IsRead row inner caller passes k l p) (own : AreOfRow legal inner caller passes) where
    own_row : AreOfRow legal row caller passes
    own_row = subst (λ (z : RowModel). AreOfRow legal z caller passes) read.row_is own

    known_row : CallersBelow l.callers q.seen → CallersBelow row.callers q.seen
    known_row known = subst (λ (n : ℕ). CallersBelow n q.seen) read.same_callers known

    pub own_then : q ≡ after_one p q → legal l.place q.seen → CallersBelow l.callers q.seen → AreOfRow legal inner caller (set passes k q)
    own_then same lawful known = subst (λ (z : RowModel). AreOfRow legal z caller (set passes k q)) (sym read.row_is) (own_after row caller passes k l p q own_row read.lock read.pass same lawful (known_row known))

    pub called : {M : Type 0} (old : RowPassesModel C A) → passes_view inner caller passes ≡ old → (call : C) (r : Result A M) → q ≡ after_one p q
        → GrowsBy p.caller call r p.seen q.seen → legal l.place q.seen → CallersBelow l.callers q.seen → q.calls ≤ MOST_CALLS → HasCalled row old (passes_view inner caller (set passes k q)) k call r
    called {M} old view call r same grows lawful known most =
        let made : HasCalled row (passes_view row caller passes) (passes_view row caller (set passes k q)) k call r = has_called_here row caller passes k l p q own_row read.lock read.pass call r same grows lawful (known_row known) most in
        let back : HasCalled row (passes_view inner caller passes) (passes_view inner caller (set passes k q)) k call r =
        subst (λ (z : RowModel). HasCalled {M = M} row (passes_view z caller passes) (passes_view z caller (set passes k q)) k call r) (sym read.row_is) made in
        subst (λ (z : RowPassesModel C A). HasCalled {M = M} row z (passes_view inner caller (set passes k q)) k call r) view back

  -- each list is legal at its place
  pub legal_lists : (row : RowModel) (caller : ℕ) (passes : List (PassModel C A)) → AreOfRow legal row caller passes
      → (k : ℕ) → k < length row.locks → legal (place_of row k) (seen (passes_view row caller passes) k)
  legal_lists row caller passes own k within =
      let l = get_within row.locks k within in
      let p = get_within passes k (omega (arith, own.count)) in
      let here = own.each k l.0 p.0 l.1 p.1 in
      subst (λ (w : (ℕ × ℕ) × List (Entry C A)). legal w.0 w.1) (λ i. (sym (place_at row k l.0 l.1) i, sym (seen_at row caller passes k p.0 p.1) i)) here.is_legal

  -- each list is of the row's callers
  pub known_lists : (row : RowModel) (caller : ℕ) (passes : List (PassModel C A)) → AreOfRow legal row caller passes
      → (k : ℕ) → k < length row.locks → CallersBelow row.callers (seen (passes_view row caller passes) k)
  known_lists row caller passes own k within =
      let p = get_within passes k (omega (arith, own.count)) in
      subst (CallersBelow row.callers) (sym (seen_at row caller passes k p.0 p.1)) (own.known k p.0 p.1)
