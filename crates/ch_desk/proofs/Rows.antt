-- Rows of seats.
use Rattle.std.proofs.Common.{◌≡◌, ◌∙◌, ℕ, zero, suc, ◌+◌, ◌<◌, ◌≤◌, refl, sym, ap, subst, List, [], ◌∷◌, ◌++◌, append-nil, length, map, slice_index_or, slice_set, get_or-set_same, get_or-set_other, inl, inr, arith}
use Rattle.std.specs.Prelude.{Result, Ok, Err}
use Rattle.std.proofs.lemmas.Bool.{cases_eq}
use Rattle.std.proofs.lemmas.List.{length-set, length-map, length_push, get_or-map, map-set}
use Rattle.ch_base.specs.Growth.{entry, own, GrowsBy}
use Rattle.ch_base.specs.declared.entry.Entry.{Entry}
use Rattle.ch_base.specs.declared.memory.Memory.{Memory}
use Rattle.ch_config.specs.declared.limits.TheConstants.{MAX_SHARDS}
use Rattle.ch_desk.specs.Alone.{IsNext}
use Rattle.ch_desk.specs.OwnEntries.{AreBy}
use Rattle.ch_desk.specs.Rows.{history, IsSeat, IsRow}
use Rattle.ch_desk.specs.declared.row.Answered.{Answered}
use Rattle.ch_desk.specs.declared.row.Seat.{Seat}

module _ {X : Type 0} where
  -- what is said of each element with its place, said of one more
  each_more : (P : ℕ → X → Type 0) (xs : List X) (x : X) → ((j : ℕ) → j < length xs → (d : X) → P j (slice_index_or xs j d)) → P (length xs) x
      → (j : ℕ) → j < length (xs ++ x ∷ []) → (d : X) → P j (slice_index_or (xs ++ x ∷ []) j d)
  each_more P [] x each last zero below d = last
  each_more P [] x each last (suc j) below d = absurd (omega arith)
  each_more P (y ∷ ys) x each last zero below d = each zero (omega arith) d
  each_more P (y ∷ ys) x each last (suc j) below d = each_more (λ i. P (suc i)) ys x (λ i under e. each (suc i) (omega arith) e) last j (omega arith) d

  -- and where another stands at k
  each_set : (P : ℕ → X → Type 0) (xs : List X) (k : ℕ) (x : X) → ((j : ℕ) → j < length xs → (d : X) → P j (slice_index_or xs j d)) → k < length xs → P k x
      → (j : ℕ) → j < length xs → (d : X) → P j (slice_index_or (slice_set xs k x) j d)
  each_set P xs k x each within holds j below d = elim (cases_eq j k) [
    | inl same ↦ subst (λ i. P i (slice_index_or (slice_set xs k x) i d)) (sym same) (subst (P k) (sym (get_or-set_same xs k x d within)) holds)
    | inr other ↦ subst (P j) (sym (get_or-set_other xs k j x d other)) (each j below d)
  ]

  some_of : (xs : List X) (k : ℕ) → k < length xs → X
  some_of [] k below = absurd (omega arith)
  some_of (x ∷ xs) k below = x

module _ {C A : Type 0} where
  calls_alone : (calls : List (Answered C A)) → AreBy 0 (map (λ (c : Answered C A). entry 0 c.call.value c.answer.value) calls)
  calls_alone [] = tt
  calls_alone (c ∷ calls) = (refl, calls_alone calls)

module _ {T C A : Type 0} where
  histories_alone : (seats : List (Seat T C A)) (k : ℕ) → AreBy 0 (slice_index_or (map history seats) k [])
  histories_alone [] k = tt
  histories_alone (s ∷ seats) zero = calls_alone s.calls.items
  histories_alone (s ∷ seats) (suc k) = histories_alone seats k

  pub row_alone : (seats : List (Seat T C A)) (row : List (List (Entry C A))) → map history seats ≡ row → (k : ℕ) → AreBy 0 (slice_index_or row k [])
  row_alone seats row is k = subst (λ v. AreBy 0 (slice_index_or v k [])) is (histories_alone seats k)

  -- seats on which no call was made
  histories_empty : (seats : List (Seat T C A)) → ((j : ℕ) → j < length seats → (d : Seat T C A) → history (slice_index_or seats j d) ≡ []) → (k : ℕ) → slice_index_or (map history seats) k [] ≡ []
  histories_empty [] each k = refl
  histories_empty (s ∷ seats) each zero = each zero (omega arith) s
  histories_empty (s ∷ seats) each (suc k) = histories_empty seats (λ j below d. each (suc j) (omega arith) d) k

module _ {T C A : Type 0} (place : T → ℕ × ℕ) (stands : T → List (Entry C A) → Type 0) where
  -- so many of n seats, on which no call was made
  pub record AreFresh (n k : ℕ) (seats : List (Seat T C A)) : Type 0 where
    pub count : length seats ≡ k
    pub each : (j : ℕ) → j < length seats → (d : Seat T C A) → IsSeat place stands (j, n) (slice_index_or seats j d)
    pub empty : (j : ℕ) → j < length seats → (d : Seat T C A) → history (slice_index_or seats j d) ≡ []

  pub AreFresh-none : (n : ℕ) → AreFresh n 0 []
  AreFresh-none n = record { count = refl; each = λ j below. absurd (omega arith); empty = λ j below. absurd (omega arith) }

  pub AreFresh-push : (n k : ℕ) (seats now : List (Seat T C A)) (s : Seat T C A) → AreFresh n k seats → now ≡ seats ++ s ∷ [] → place s.shard ≡ (k, n) → stands s.shard [] → s.calls.items ≡ [] → AreFresh n (k + 1) now
  AreFresh-push n k seats now s are is at right none =
      let here : history s ≡ [] = ap (map (λ (c : Answered C A). entry 0 c.call.value c.answer.value)) none in
      let seat : IsSeat place stands (length seats, n) s = record { placed = at ∙ ap (λ i. (i, n)) (sym are.count); right = subst (stands s.shard) (sym here) right } in
      subst (AreFresh n (k + 1)) (sym is) record {
        count = length_push seats s ∙ ap (λ i. i + 1) are.count;
        each = each_more (λ j. IsSeat place stands (j, n)) seats s are.each seat;
        empty = each_more (λ j x. history x ≡ []) seats s are.empty here;
      }

  pub fresh_row : (n : ℕ) (seats : List (Seat T C A)) → AreFresh n n seats → 1 ≤ n → n ≤ MAX_SHARDS → IsRow place stands seats
  fresh_row n seats are some few =
      subst (λ i. 1 ≤ i → i ≤ MAX_SHARDS → AreFresh i i seats → IsRow place stands seats) are.count
      (λ more less is. record { some = omega (arith, are.count); few = omega (arith, are.count); each = subst (λ i. (j : ℕ) → j < length seats → (d : Seat T C A) → IsSeat place stands (j, i) (slice_index_or seats j d)) (sym are.count) are.each })
      some few are

  pub fresh_empty : (n : ℕ) (seats : List (Seat T C A)) → AreFresh n n seats → (k : ℕ) → slice_index_or (map history seats) k [] ≡ []
  fresh_empty n seats are = histories_empty seats are.empty

  module _ (legal : ℕ × ℕ → List (Entry C A) → Type 0) (stands_legal : (v : T) (h : List (Entry C A)) → stands v h → legal (place v) h) where
    seat_legal : (at : ℕ × ℕ) (s : Seat T C A) → IsSeat place stands at s → legal at (history s)
    seat_legal at s is = subst (λ w. legal w (history s)) is.placed (stands_legal s.shard (history s) is.right)

    histories_legal : (seats : List (Seat T C A)) → IsRow place stands seats → (k : ℕ) → k < length seats → legal (k, length seats) (slice_index_or (map history seats) k [])
    histories_legal seats is k below =
        let d = some_of seats k below in
        subst (legal (k, length seats)) (sym (get_or-map history seats k d [] below)) (seat_legal (k, length seats) (slice_index_or seats k d) (is.each k below d))

    pub row_legal : (seats : List (Seat T C A)) (row : List (List (Entry C A))) (n : ℕ) → IsRow place stands seats → map history seats ≡ row → n ≡ length seats → (k : ℕ) → k < n → legal (k, n) (slice_index_or row k [])
    row_legal seats row n is shown count =
        subst (λ v. (k : ℕ) → k < n → legal (k, n) (slice_index_or v k [])) shown
        (subst (λ i. (k : ℕ) → k < i → legal (k, i) (slice_index_or (map history seats) k [])) (sym count) (histories_legal seats is))

    module _ (answer_of : List (Entry C A) → ℕ → C → A) (answered : (at : ℕ × ℕ) (h : List (Entry C A)) (e : Entry C A) → legal at (h ++ e ∷ []) → e.answer ≡ answer_of h e.caller e.call) where
      -- the next entry is the call's, with the definitions' answer
      next_of : (at : ℕ × ℕ) (h new : List (Entry C A)) (call : C) (r : Result A Memory) → new ≡ h ++ own 0 call r → legal at new → IsNext answer_of h new call r
      next_of at h new call (Ok a) is legal_now =
          let right : a ≡ answer_of h 0 call = answered at h (entry 0 call a) (subst (legal at) is legal_now) in
          record { answer = right; grown = is ∙ ap (λ z. h ++ entry 0 call z ∷ []) right; still = tt }
      next_of at h new call (Err m) is legal_now = record { answer = tt; grown = tt; still = is ∙ append-nil h }

      -- a call of caller 0 was made at the seat k of a row, and these are the seats then
      pub record CallsOn (row : List (List (Entry C A))) (now : List (Seat T C A)) (k : ℕ) (call : C) (r : Result A Memory) : Type 0 where
        pub next : IsNext answer_of (slice_index_or row k []) (slice_index_or (map history now) k []) call r
        pub grows : GrowsBy 0 call r (slice_index_or row k []) (slice_index_or (map history now) k [])
        pub legal_now : legal (k, length row) (slice_index_or (map history now) k [])
        pub same : map history now ≡ slice_set row k (slice_index_or (map history now) k [])
        pub is_row : IsRow place stands now

      calls_here : (seats : List (Seat T C A)) (k : ℕ) (before after : Seat T C A) (call : C) (r : Result A Memory) → IsRow place stands seats → before ≡ slice_index_or seats k before → k < length seats
          → place after.shard ≡ place before.shard → history after ≡ history before ++ own 0 call r → (stands before.shard (history before) → stands after.shard (history after))
          → CallsOn (map history seats) (slice_set seats k after) k call r
      calls_here seats k before after call r is read within stays grows right =
          let was : IsSeat place stands (k, length seats) before = subst (IsSeat place stands (k, length seats)) (sym read) (is.each k within before) in
          let seat : IsSeat place stands (k, length seats) after = record { placed = stays ∙ was.placed; right = right was.right } in
          let long : length (slice_set seats k after) ≡ length seats = length-set seats k after in
          let there : k < length (slice_set seats k after) = omega (arith, long) in
          let old : slice_index_or (map history seats) k [] ≡ history before = get_or-map history seats k before [] within ∙ ap history (sym read) in
          let new : slice_index_or (map history (slice_set seats k after)) k [] ≡ history after =
          get_or-map history (slice_set seats k after) k before [] there ∙ ap history (get_or-set_same seats k after before within) in
          let step : slice_index_or (map history (slice_set seats k after)) k [] ≡ slice_index_or (map history seats) k [] ++ own 0 call r =
          new ∙ grows ∙ ap (λ z. z ++ own 0 call r) (sym old) in
          let lawful : legal (k, length seats) (slice_index_or (map history (slice_set seats k after)) k []) = subst (legal (k, length seats)) (sym new) (seat_legal (k, length seats) after seat) in
          record {
            next = next_of (k, length seats) (slice_index_or (map history seats) k []) (slice_index_or (map history (slice_set seats k after)) k []) call r step lawful;
            grows = ([], tt, step ∙ ap (λ z. z ++ own 0 call r) (sym (append-nil (slice_index_or (map history seats) k []))));
            legal_now = subst (λ n. legal (k, n) (slice_index_or (map history (slice_set seats k after)) k [])) (sym (length-map seats history)) lawful;
            same = map-set history seats k after ∙ ap (slice_set (map history seats) k) (sym new);
            is_row = record {
              some = omega (arith, long, is.some);
              few = omega (arith, long, is.few);
              each = subst (λ n. (j : ℕ) → j < n → (d : Seat T C A) → IsSeat place stands (j, n) (slice_index_or (slice_set seats k after) j d)) (sym long)
                  (each_set (λ j. IsSeat place stands (j, length seats)) seats k after is.each within seat);
            };
          }

      pub calls_on : (row : List (List (Entry C A))) (seats : List (Seat T C A)) (k : ℕ) (before after : Seat T C A) (call : C) (r : Result A Memory) → map history seats ≡ row → IsRow place stands seats
          → before ≡ slice_index_or seats k before → k < length row → place after.shard ≡ place before.shard → history after ≡ history before ++ own 0 call r → (stands before.shard (history before) → stands after.shard (history after))
          → CallsOn row (slice_set seats k after) k call r
      calls_on row seats k before after call r shown is read within stays grows right =
          subst (λ v. CallsOn v (slice_set seats k after) k call r) shown
          (calls_here seats k before after call r is read (let n = length-map seats history in let m = ap length shown in omega (arith, n, m, within)) stays grows right)

  -- what fits at the place of a seat fits at the seat's shard
  pub fits_at : (fits : ℕ × ℕ → C → Type 0) (row : List (List (Entry C A))) (seats : List (Seat T C A)) (k : ℕ) (before : Seat T C A) (call : C) → map history seats ≡ row → IsRow place stands seats
      → before ≡ slice_index_or seats k before → k < length row → fits (k, length row) call → fits (place before.shard) call
  fits_at fits row seats k before call shown is read within may =
      let n : length row ≡ length seats = sym (ap length shown) ∙ length-map seats history in
      let was : IsSeat place stands (k, length seats) before = subst (IsSeat place stands (k, length seats)) (sym read) (is.each k (subst (λ i. k < i) n within) before) in
      subst (λ w. fits w call) (sym was.placed) (subst (λ i. fits (k, i) call) n may)
