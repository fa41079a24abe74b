-- Passes are dealt out of the lists of a row, and come back to them.
use Rattle.std.proofs.Common.{◌≡◌, ℕ, ◌+◌, ◌<◌, ◌≤◌, List, [], ◌∷◌, ◌++◌, length, map, get_or, set, take, Option, Some, None, IfSome, sym, refl, ap, ◌∙◌, subst, arith, le_refl, length-set, length-append}
use Rattle.std.specs.Prelude.{slice_get}
use Rattle.std.specs.Prelude.{IsSome, true, false}
use Rattle.std.proofs.lemmas.List.Elements.{All-nil}
use Rattle.std.proofs.lemmas.List.{get_or-set_same, get_or-set_other, get_or_past, get_or_default, get_or_push, get_or-take, take_at, take-take, length-map}
use Rattle.std.proofs.lemmas.Option.{same_Some, none-some, slice_get_read, slice_get_within}
use Rattle.ch_base.specs.declared.entry.Entry.{Entry}
use mathlib.Core.Logic.{dite}
use native.Mathlib.Decide.{ℕ_discrete, dec_lt}
use Rattle.ch_base.specs.declared.limits.TheConstants.{MAX_CALLERS}
use Rattle.ch_turn.specs.Callers.{CallersBelow, GrowsByOthers}
use Rattle.ch_turn.specs.PassModels.{LockModel, PassModel, PassListModel, IsPassOf, HasHistory, fresh_pass}
use Rattle.ch_turn.specs.declared.closing.Closed.{Closed}
use Rattle.ch_house.specs.Rows.{RowModel, RowPassesModel, place_of, seen, ArePassesOf, fresh_passes, HasRowHistory}
use Rattle.ch_house.specs.Columns.{IsFresh, IsDealt, IsBack, AreBack, AreOfRow, IsRowPassesList, with_pass, without_pass}
use Rattle.ch_house.proofs.Calling.{place_at}
use Rattle.ch_house.proofs.Places.{get_set_same, get_set_other, get_within, get_map, get_map_back, map_same}

module _ {X : Type 0} where
  -- an option at one place of a list of them, and at the others
  pub slot_set : (xs : List (Option X)) (i : ℕ) (o : Option X) (P : ℕ → X → Type 0) → i < length xs → ((j : ℕ) (x : X) → get_or xs j None ≡ Some x → P j x) → IfSome o (P i)
      → (j : ℕ) (x : X) → get_or (set xs i o) j None ≡ Some x → P j x
  slot_set xs i o P within each here j x at = dite (ℕ_discrete j i)
      (λ (same : j ≡ i).
      let there : get_or (set xs i o) i None ≡ Some x = subst (λ (k : ℕ). get_or (set xs i o) k None ≡ Some x) same at in
      let is : o ≡ Some x = sym (get_or-set_same xs i o None within) ∙ there in
      subst (λ (k : ℕ). P k x) (sym same) (subst (λ (p : Option X). IfSome p (P i)) is here))
      (λ other. each j x (sym (get_or-set_other xs i j o None other) ∙ at))

module _ {C A : Type 0} where
  -- the passes of one caller are taken, or are put back at its number
  pub IsRowPassesList-set : (row : RowModel) (rows : List (Option (RowPassesModel C A))) (lists : List (PassListModel C A)) (i : ℕ) (o : Option (RowPassesModel C A)) → IsRowPassesList row rows lists → i < length rows
      → IfSome o (ArePassesOf row i) → IsRowPassesList row (set rows i o) lists
  IsRowPassesList-set row rows lists i o is within here = record {
    callers = length-set rows i o ∙ is.callers;
    in_place = slot_set rows i o (λ j p. ArePassesOf row j p) within is.in_place here;
    owners = is.owners;
    emptied = is.emptied;
  }

  -- what is taken has its number
  pub taken_of : (row : RowModel) (rows : List (Option (RowPassesModel C A))) (i : ℕ) (o : Option (RowPassesModel C A)) → ((j : ℕ) (p : RowPassesModel C A) → get_or rows j None ≡ Some p → ArePassesOf row j p)
      → o ≡ get_or rows i None → IfSome o (ArePassesOf row i)
  taken_of row rows i (Some p) each is = each i p (sym is)
  taken_of row rows i None each is = tt

module _ {C A : Type 0} where
  -- the lock of the list at k
  pub owner_at : (locks : List LockModel) (lists : List (PassListModel C A)) (k : ℕ) (l : LockModel) (m : PassListModel C A) → map (λ n. n.lock) lists ≡ locks → slice_get locks k ≡ Some l → slice_get lists k ≡ Some m → m.lock ≡ l
  owner_at locks lists k l m owners lock at =
      same_Some m.lock l (sym (get_map (λ (n : PassListModel C A). n.lock) lists k m at) ∙ (ap (λ (ls : List LockModel). slice_get ls k) owners ∙ lock))

  -- there are as many lists as locks
  pub owners_long : (locks : List LockModel) (lists : List (PassListModel C A)) → map (λ n. n.lock) lists ≡ locks → length lists ≡ length locks
  owners_long locks lists owners = sym (length-map lists (λ (n : PassListModel C A). n.lock)) ∙ ap length owners

  -- Passes come back

  -- the passes from here on are given back to the lists, and the others are left
  pub record GivesBack (lists_first : List (PassListModel C A)) (passes_first : List (PassModel C A)) (lists : List (PassListModel C A)) (passes : List (PassModel C A)) : Type 0 where
    pub few : length passes ≤ length passes_first
    pub left : passes ≡ take (length passes) passes_first
    pub count : length lists ≡ length lists_first
    pub given : (k : ℕ) (m : PassListModel C A) (p : PassModel C A) → length passes ≤ k → slice_get lists_first k ≡ Some m → slice_get passes_first k ≡ Some p → slice_get lists k ≡ Some (with_pass p m)
    pub kept : (k : ℕ) → k < length passes → slice_get lists k ≡ slice_get lists_first k

  module _ (lists_first : List (PassListModel C A)) (passes_first : List (PassModel C A)) (lists : List (PassListModel C A)) (passes rest : List (PassModel C A)) (x : PassModel C A) (m : PassListModel C A) (j : ℕ)
      (same : length passes_first ≡ length lists_first) (is : GivesBack lists_first passes_first lists passes) (popped : passes ≡ rest ++ x ∷ []) (at : j ≡ length rest) (read : m ≡ get_or lists j m) where
    longer : length passes ≡ j + 1
    longer = omega (arith, ap length popped, length-append {A = PassModel C A})

    pub pass_at : slice_get passes_first j ≡ Some x
    pass_at =
        let l = longer in
        let few = is.few in
        let read_x : x ≡ get_or passes_first j x = sym (ap (λ (ps : List (PassModel C A)). get_or ps j x) popped ∙ get_or_push rest x x j (sym at)) ∙ (ap (λ (ps : List (PassModel C A)). get_or ps j x) is.left ∙ get_or-take (length passes) passes_first j x (omega arith)) in
        slice_get_read passes_first (length passes_first) j x refl (omega arith) read_x

    within : j < length lists
    within = let l = longer in let few = is.few in let count = is.count in omega arith

    pub list_at : slice_get lists_first j ≡ Some m
    list_at = let l = longer in sym (is.kept j (omega arith)) ∙ slice_get_read lists (length lists) j m refl within read

    pub gives_more : (now : PassListModel C A) → now ≡ with_pass x m → GivesBack lists_first passes_first (set lists j now) rest
    gives_more now is_now = let l = longer in let few = is.few in record {
      few = omega arith;
      left = subst (λ (n : ℕ). rest ≡ take n passes_first) at (sym (take_at rest (x ∷ []) j (sym at)) ∙ (ap (take j) (sym popped) ∙ (ap (take j) is.left ∙ take-take j (length passes) passes_first (omega arith))));
      count = length-set lists j now ∙ is.count;
      given = λ k m' p below lists_k passes_k. dite (ℕ_discrete k j)
          (λ (here : k ≡ j).
          let same_m : m ≡ m' = same_Some m m' (sym list_at ∙ subst (λ (n : ℕ). slice_get lists_first n ≡ Some m') here lists_k) in
          let same_p : x ≡ p = same_Some x p (sym pass_at ∙ subst (λ (n : ℕ). slice_get passes_first n ≡ Some p) here passes_k) in
          subst (λ (n : ℕ). slice_get (set lists j now) n ≡ Some (with_pass p m')) (sym here) (get_set_same lists j now within ∙ (λ i. Some ((is_now ∙ (λ e. with_pass (same_p e) (same_m e))) i))))
          (λ other. get_set_other lists j k now other ∙ is.given k m' p (omega arith) lists_k passes_k);
      kept = λ k below. get_set_other lists j k now (λ e. omega arith) ∙ is.kept k (omega arith);
    }

  -- nobody's passes are given back yet
  pub AreBack-none : (row : RowModel) (rows : List (Option (RowPassesModel C A))) (lists : List (PassListModel C A)) → IsRowPassesList row rows lists → AreBack row rows 0 lists
  AreBack-none row rows lists is = record {
    callers = is.callers;
    owners = is.owners;
    sizes = λ k m at. (is.emptied k m at).size;
    back = λ k m j r at below. absurd (omega arith);
    away = λ k m j at above. (is.emptied k m at).none j;
  }

  -- a caller whose passes are not there gives none back
  pub AreBack-skip : (row : RowModel) (rows : List (Option (RowPassesModel C A))) (i : ℕ) (lists : List (PassListModel C A)) → AreBack row rows i lists → get_or rows i None ≡ None → AreBack row rows (i + 1) lists
  AreBack-skip row rows i lists is none = record {
    callers = is.callers;
    owners = is.owners;
    sizes = is.sizes;
    back = λ k m j r at below there. dite (ℕ_discrete j i)
        (λ (same : j ≡ i). absurd (none-some r (sym none ∙ subst (λ (n : ℕ). get_or rows n None ≡ Some r) same there)))
        (λ other. is.back k m j r at (omega arith) there);
    away = λ k m j at above. is.away k m j at (omega arith);
  }

  module _ (legal : ℕ × ℕ → List (Entry C A) → Type 0) (row : RowModel) (rows : List (Option (RowPassesModel C A))) (i : ℕ) (lists : List (PassListModel C A)) (r : RowPassesModel C A) (passes : List (PassModel C A))
      (is : AreBack row rows i lists) (there : get_or rows i None ≡ Some r) (own : ArePassesOf row i r) (of_row : AreOfRow legal r.row r.caller passes) where
    of_this : AreOfRow legal row i passes
    of_this = subst (λ (w : RowModel × ℕ). AreOfRow legal w.0 w.1 passes) (λ e. (own.0 e, own.1 e)) of_row

    pub as_many : length passes ≡ length lists
    as_many = of_this.count ∙ sym (owners_long row.locks lists is.owners)

    -- each pass can be given back to its list
    pub may_give : (k : ℕ) (m : PassListModel C A) (p : PassModel C A) → slice_get lists k ≡ Some m → slice_get passes k ≡ Some p
        → (p.lock ≡ m.lock) × (get_or m.slots p.caller None ≡ None)
    may_give k m p at pass =
        let within : k < length row.locks = omega (arith, slice_get_within lists k m at, owners_long row.locks lists is.owners) in
        let l = get_within row.locks k within in
        let here = of_this.each k l.0 p l.1 pass in
        let lock = owner_at row.locks lists k l.0 m is.owners l.1 at in
        (here.lock ∙ sym lock, ap (λ (n : ℕ). get_or m.slots n None) here.caller_is ∙ is.away k m i at (omega arith))

    -- what was given back is there
    pub AreBack-more : (now : List (PassListModel C A)) → length now ≡ length lists → ((k : ℕ) (m : PassListModel C A) (p : PassModel C A) → slice_get lists k ≡ Some m → slice_get passes k ≡ Some p → slice_get now k ≡ Some (with_pass p m))
        → ((k : ℕ) (p : PassModel C A) → slice_get passes k ≡ Some p → p.seen ≡ seen r k) → AreBack row rows (i + 1) now
    AreBack-more now long given told = record {
      callers = is.callers;
      owners = map_same (λ n. n.lock) (λ n. n.lock) now lists long (λ k n m at old. let w = was k n at in
          let same : w.0 ≡ m = same_Some w.0 m (sym w.2 ∙ old) in
          ap (λ (z : PassListModel C A). z.lock) (w.4) ∙ ap (λ (z : PassListModel C A). z.lock) same) ∙ is.owners;
      sizes = λ k n at. let w = was k n at in let size = is.sizes k w.0 w.2 in
          (ap (λ (z : PassListModel C A). length z.slots) w.4 ∙ (length-set w.0.slots w.1.caller (Some w.1) ∙ size.0), ap (λ (z : PassListModel C A). z.lock.callers) w.4 ∙ size.1);
      back = λ k n j q at below rows_j. let w = was k n at in
          let slots : n.slots ≡ set w.0.slots i (Some w.1) = ap (λ (z : PassListModel C A). z.slots) w.4 ∙ ap (λ (c : ℕ). set w.0.slots c (Some w.1)) w.5 in
          dite (ℕ_discrete j i)
          (λ (same : j ≡ i).
          let same_r : r ≡ q = same_Some r q (sym there ∙ subst (λ (c : ℕ). get_or rows c None ≡ Some q) same rows_j) in
          let room : i < length w.0.slots = let size = is.sizes k w.0 w.2 in let below_all = of_this.caller_below in omega arith in
          subst (λ (z : ℕ × RowPassesModel C A). IsBack n k z.0 z.1) (λ e. (sym same e, same_r e))
          (w.1, ap (λ (ss : List (Option (PassModel C A))). get_or ss i None) slots ∙ get_or-set_same w.0.slots i (Some w.1) None room, w.5 ∙ sym own.1, told k w.1 w.3))
          (λ other.
          let b = is.back k w.0 j q w.2 (omega arith) rows_j in
          (b.0, ap (λ (ss : List (Option (PassModel C A))). get_or ss j None) slots ∙ (get_or-set_other w.0.slots i j (Some w.1) None other ∙ b.1), b.2, b.3));
      away = λ k n j at above. let w = was k n at in
          let slots : n.slots ≡ set w.0.slots i (Some w.1) = ap (λ (z : PassListModel C A). z.slots) w.4 ∙ ap (λ (c : ℕ). set w.0.slots c (Some w.1)) w.5 in
          ap (λ (ss : List (Option (PassModel C A))). get_or ss j None) slots ∙ (get_or-set_other w.0.slots i j (Some w.1) None (λ e. omega arith) ∙ is.away k w.0 j w.2 (omega arith));
    }
      where
        -- the list before, and the pass that was given back to it
        was : (k : ℕ) (n : PassListModel C A) → slice_get now k ≡ Some n
            → (m : PassListModel C A) × (p : PassModel C A) × (slice_get lists k ≡ Some m) × (slice_get passes k ≡ Some p) × (n ≡ with_pass p m) × (p.caller ≡ i)
        was k n at =
            let within : k < length now = slice_get_within now k n at in
            let m = get_within lists k (omega arith) in
            let p = get_within passes k (omega (arith, as_many)) in
            let l = get_within row.locks k (omega (arith, owners_long row.locks lists is.owners)) in
            let here = of_this.each k l.0 p.0 l.1 p.1 in
            (m.0, p.0, m.1, p.1, same_Some n (with_pass p.0 m.0) (sym at ∙ given k m.0 p.0 m.1 p.1), here.caller_is)

  -- Passes are dealt

  -- nobody's passes are dealt yet
  pub IsDealt-none : (row : RowModel) (lists : List (PassListModel C A)) → map (λ m. m.lock) lists ≡ row.locks → ((k : ℕ) (m : PassListModel C A) → slice_get lists k ≡ Some m → IsFresh row.callers m) → IsDealt row 0 lists
  IsDealt-none row lists owners fresh = record {
    owners = owners;
    sizes = λ k m at. (fresh k m at).size;
    gone = λ k m j at below. absurd (omega arith);
    there = λ k m j at above below. (fresh k m at).each j below;
  }

  is_some : (o : Option (PassModel C A)) (p : PassModel C A) → o ≡ Some p → IsSome o
  is_some (Some q) p e = refl
  is_some None p e = absurd (cc)

  module _ (row : RowModel) (i : ℕ) (lists : List (PassListModel C A)) (is : IsDealt row i lists) (below : i < row.callers) where
    pub has_pass : (k : ℕ) (m : PassListModel C A) → slice_get lists k ≡ Some m → IsSome (get_or m.slots i None)
    has_pass k m at = is_some (get_or m.slots i None) (fresh_pass m.lock i) (is.there k m i at (omega arith) below)

    -- the passes of one caller more are dealt
    pub IsDealt-more : (now : List (PassListModel C A)) → now ≡ map (without_pass i) lists → IsDealt row (i + 1) now
    IsDealt-more now made = record {
      owners = map_same (λ n. n.lock) (λ n. n.lock) now lists (ap length made ∙ length-map lists (without_pass i)) (λ k n m at old. let w = was k n at in
          let same : w.0 ≡ m = same_Some w.0 m (sym w.1 ∙ old) in
          ap (λ (z : PassListModel C A). z.lock) (sym w.2) ∙ ap (λ (z : PassListModel C A). z.lock) same) ∙ is.owners;
      sizes = λ k n at. let w = was k n at in let size = is.sizes k w.0 w.1 in
          (ap (λ (z : PassListModel C A). length z.slots) (sym w.2) ∙ (length-set w.0.slots i None ∙ size.0), ap (λ (z : PassListModel C A). z.lock.callers) (sym w.2) ∙ size.1);
      gone = λ k n j at earlier. let w = was k n at in
          let slots : n.slots ≡ set w.0.slots i None = ap (λ (z : PassListModel C A). z.slots) (sym w.2) in
          ap (λ (ss : List (Option (PassModel C A))). get_or ss j None) slots ∙ dite (ℕ_discrete j i)
          (λ (same : j ≡ i). let room : i < length w.0.slots = let size = is.sizes k w.0 w.1 in omega arith in
          ap (λ (n : ℕ). get_or (set w.0.slots i None) n None) same ∙ get_or-set_same w.0.slots i None None room)
          (λ other. get_or-set_other w.0.slots i j None None other ∙ is.gone k w.0 j w.1 (omega arith));
      there = λ k n j at above under. let w = was k n at in
          let slots : n.slots ≡ set w.0.slots i None = ap (λ (z : PassListModel C A). z.slots) (sym w.2) in
          ap (λ (ss : List (Option (PassModel C A))). get_or ss j None) slots ∙ (get_or-set_other w.0.slots i j None None (λ e. omega arith) ∙ (is.there k w.0 j w.1 (omega arith) under
          ∙ ap (λ (z : PassListModel C A). Some (fresh_pass z.lock j)) w.2));
    }
      where
        was : (k : ℕ) (n : PassListModel C A) → slice_get now k ≡ Some n → (m : PassListModel C A) × (slice_get lists k ≡ Some m) × (without_pass i m ≡ n)
        was k n at = get_map_back (without_pass i) lists k n (ap (λ (ns : List (PassListModel C A)). slice_get ns k) (sym made) ∙ at)

    module _ (legal : ℕ × ℕ → List (Entry C A) → Type 0) (few : row.callers ≤ MAX_CALLERS) (passes : List (PassModel C A)) (long : length passes ≡ length lists)
        (taken : (k : ℕ) (m : PassListModel C A) (p : PassModel C A) → slice_get lists k ≡ Some m → slice_get passes k ≡ Some p → (get_or m.slots i None ≡ Some p) × IsPassOf legal m.lock i p) where
      -- each pass is the first one of its lock
      first_pass : (k : ℕ) (l : LockModel) (p : PassModel C A) → slice_get row.locks k ≡ Some l → slice_get passes k ≡ Some p → (p ≡ fresh_pass l i) × legal l.place p.seen
      first_pass k l p lock at =
          let m = get_within lists k (omega (arith, slice_get_within passes k p at)) in
          let own = owner_at row.locks lists k l m.0 is.owners lock m.1 in
          let t = taken k m.0 p m.1 at in
          (same_Some p (fresh_pass l i) (sym t.0 ∙ (is.there k m.0 i m.1 (omega arith) below ∙ ap (λ (z : LockModel). Some (fresh_pass z i)) own)), subst (λ (z : LockModel). legal z.place p.seen) own t.1.2)

      pub dealt_of_row : AreOfRow legal row i passes
      dealt_of_row = record {
        few_callers = few;
        caller_below = below;
        count = long ∙ owners_long row.locks lists is.owners;
        each = λ k l p lock at. let f = first_pass k l p lock at in record {
          lock = ap (λ (z : PassModel C A). z.lock) f.0;
          caller_is = ap (λ (z : PassModel C A). z.caller) f.0;
          is_legal = f.1;
        };
        known = λ k p at.
            let l = get_within row.locks k (omega (arith, slice_get_within passes k p at, long, owners_long row.locks lists is.owners)) in
            subst (CallersBelow row.callers) (ap (λ (z : PassModel C A). z.seen) (sym (first_pass k l.0 p l.1 at).0)) (All-nil (λ e. e.caller < row.callers));
      }

      -- they have seen nothing
      pub dealt_fresh : (row_is : RowModel) → row_is ≡ row → ◌≡◌ {A = RowPassesModel C A} (record { row = row_is; caller = i; lists = map (λ p. p.seen) passes; calls = map (λ p. p.calls) passes }) (fresh_passes row i)
      dealt_fresh row_is same =
          let many : length passes ≡ length row.locks = long ∙ owners_long row.locks lists is.owners in
          let lists_are = map_same (λ (p : PassModel C A). p.seen) (λ (l : LockModel). []) passes row.locks many (λ k p l at lock. ap (λ (z : PassModel C A). z.seen) (first_pass k l p lock at).0) in
          let calls_are = map_same (λ (p : PassModel C A). p.calls) (λ (l : LockModel). 0) passes row.locks many (λ k p l at lock. ap (λ (z : PassModel C A). z.calls) (first_pass k l p lock at).0) in
          λ e. record { row = same e; caller = i; lists = lists_are e; calls = calls_are e }

  -- all passes are dealt
  pub IsRowPassesList-dealt : (row : RowModel) (rows : List (Option (RowPassesModel C A))) (i : ℕ) (lists : List (PassListModel C A)) → IsDealt row i lists → row.callers ≤ i → length rows ≡ row.callers
      → ((j : ℕ) → j < row.callers → get_or rows j None ≡ Some (fresh_passes row j)) → IsRowPassesList row rows lists
  IsRowPassesList-dealt row rows i lists is all long each = record {
    callers = long;
    in_place = λ j p at. dite (dec_lt j (length rows))
        (λ (below : j < length rows).
        let same : fresh_passes row j ≡ p = same_Some (fresh_passes row j) p (sym (each j (omega arith)) ∙ at) in
        (ap (λ (z : RowPassesModel C A). z.row) (sym same), ap (λ (z : RowPassesModel C A). z.caller) (sym same)))
        (λ beyond. absurd (none-some p (sym (get_or_past rows j None (omega arith)) ∙ at)));
    owners = is.owners;
    emptied = λ k m at. record {
      size = is.sizes k m at;
      none = λ j. dite (dec_lt j row.callers)
          (λ (below : j < row.callers). is.gone k m j at (omega arith))
          (λ beyond. let size = is.sizes k m at in get_or_past m.slots j None (omega arith));
    };
  }

  -- what is taken at i was there at first
  pub taken_at : (first now : List (Option (RowPassesModel C A))) (i : ℕ) (read result : Option (RowPassesModel C A)) → i < length now → ((j : ℕ) → i ≤ j → get_or now j None ≡ get_or first j None)
      → read ≡ get_or now i read → result ≡ read → get_or first i None ≡ result
  taken_at first now i read result within left read_is is = sym (left i (le_refl i)) ∙ (sym (read_is ∙ get_or_default now i read None within) ∙ sym is)

  pub not_some : (o : Option (PassModel C A)) → o ≡ None → IsSome o → ⊥
  not_some None e h = let f : false ≡ true = h in cc
  not_some (Some p) e h = absurd (cc)

  some_of : (o : Option (RowPassesModel C A)) → IsSome o → (r : RowPassesModel C A) × (o ≡ Some r)
  some_of (Some r) h = (r, refl)
  some_of None h = let f : false ≡ true = h in absurd (cc)

  module _ (row : RowModel) (rows : List (Option (RowPassesModel C A))) (lists : List (PassListModel C A)) (is : AreBack row rows row.callers lists) where
    -- where nobody has passes of the row, nobody has a pass of a lock
    pub whole_lists : ((i : ℕ) → i < row.callers → IsSome (get_or rows i None)) → (k : ℕ) (m : PassListModel C A) → slice_get lists k ≡ Some m → (i : ℕ) → i < m.lock.callers → IsSome (get_or m.slots i None)
    whole_lists whole k m at i below =
        let size = is.sizes k m at in
        let under : i < row.callers = omega arith in
        let r = some_of (get_or rows i None) (whole i under) in
        let b = is.back k m i r.0 at under r.1 in
        is_some (get_or m.slots i None) b.0 b.1

    -- the place of the value in lock k
    pub place_back : (k : ℕ) (m : PassListModel C A) → slice_get lists k ≡ Some m → place_of row k ≡ m.lock.place
    place_back k m at = place_at row k m.lock (ap (λ (ls : List LockModel). slice_get ls k) (sym is.owners) ∙ get_map (λ (n : PassListModel C A). n.lock) lists k m at)

    -- the history of a lock, as the callers of the row see it
    pub row_history : {T : Type 0} (legal : ℕ × ℕ → List (Entry C A) → Type 0) (stands : T → List (Entry C A) → Type 0) (k : ℕ) (m : PassListModel C A) (c : Closed T) → slice_get lists k ≡ Some m
        → HasHistory legal stands m.lock m.slots c.value c.entries → HasRowHistory legal stands row k rows c
    row_history legal stands k m c at h = record {
      log = h.log;
      is_legal = subst (λ (w : ℕ × ℕ). legal w h.log) (sym (place_back k m at)) h.is_legal;
      is_right = h.is_right;
      known_callers = subst (λ (n : ℕ). CallersBelow n h.log) (is.sizes k m at).1 h.known_callers;
      count = h.count;
      each_caller = λ i r there.
          let under : i < row.callers = let long = is.callers in dite (dec_lt i (length rows)) (λ (below : i < length rows). omega arith) (λ beyond. absurd (none-some r (sym (get_or_past rows i None (omega arith)) ∙ there))) in
          let b = is.back k m i r at under there in
          subst (λ (w : ℕ × List (Entry C A)). GrowsByOthers w.0 w.1 h.log) (λ e. (b.2 e, b.3 e)) (h.each_pass i b.0 b.1);
    }
