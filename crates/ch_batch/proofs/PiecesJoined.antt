-- The pieces of a list, joined, are the list; and how large they are.
use Rattle.std.proofs.Common.{◌≡◌, ℕ, zero, suc, ◌+◌, ◌*◌, ◌<◌, ◌≤◌, min, length, take, drop, All, List, [], ◌∷◌, ◌++◌, map, arith, refl, ap, ap₂, sym, subst, ◌∙◌, append-nil, zero-add, length-drop}
use Rattle.std.specs.Int.{div_ceil}
use Rattle.std.specs.List.{flat_map, range_with_len}
use Rattle.std.proofs.Math.Seq.{take-add}
use Rattle.std.proofs.lemmas.Grind.{div_ceil_times}
use Rattle.std.proofs.lemmas.List.{length-take, take_all}
use Rattle.std.proofs.lemmas.List.Concat.{flat_map-append}
use Rattle.std.proofs.lemmas.List.Folds.{flat_map-map}
use Rattle.std.proofs.lemmas.List.FromFn.{get_or-map-range_with_len, length-map-range_with_len, map-range_with_len_more}
use Rattle.ch_base.specs.declared.webhook.Hook.{Hook}
use Rattle.ch_webhooks.specs.Batches.{Content, contents, piece, piece_count}
use Rattle.ch_batch.specs.Laws.{IsFilled, events_in_all}

-- the first n pieces
first_pieces : {A : Type 0} (xs : List A) (n : ℕ) → flat_map (λ ys. ys) (map (piece xs) (range_with_len 0 n)) ≡ take (n * 50) xs
first_pieces xs zero = refl
first_pieces {A} xs (suc n) =
    let next : suc n ≡ n + 1 = omega arith in
    let size : n * 50 + 50 ≡ suc n * 50 = omega arith in
    ap (λ m. flat_map (λ (ys : List A). ys) (map (piece xs) (range_with_len 0 m))) next
    ∙ ap (λ (yss : List (List A)). flat_map (λ ys. ys) yss) (map-range_with_len_more (piece xs) 0 n n (zero-add n))
    ∙ flat_map-append (λ (ys : List A). ys) (map (piece xs) (range_with_len 0 n)) (piece xs n ∷ [])
    ∙ ap₂ (λ (ys zs : List A). ys ++ zs) (first_pieces xs n) (append-nil (piece xs n))
    ∙ sym (take-add (n * 50) 50 xs)
    ∙ ap (λ m. take m xs) size

enough : (size : ℕ) → size ≤ div_ceil size 50 * 50
enough size = let fact = div_ceil_times size 50 (omega arith) in fact.0

-- the events of the batches of a cut are those that were cut
pub contents_joined : (moment next : ℕ) (events : List Hook) → events_in_all (contents moment next events) ≡ events
contents_joined moment next events =
    let content : ℕ → Content = λ k. record { number = next + k; moment = moment; events = piece events k } in
    let ks : List ℕ = range_with_len 0 (piece_count events) in
    flat_map-map (λ (c : Content). c.events) content ks
    ∙ sym (flat_map-map (λ (ys : List Hook). ys) (piece events) ks)
    ∙ first_pieces events (piece_count events)
    ∙ take_all (piece_count events * 50) events (enough (length events))

-- ---- sizes

begins_inside : (size count k : ℕ) → count * 50 < size + 50 → k < count → k * 50 < size
begins_inside size count k few below = omega arith

piece_filled : (events : List Hook) (k : ℕ) → k < piece_count events → (1 ≤ length (piece events k)) × (length (piece events k) ≤ 50)
piece_filled events k below =
    let few = div_ceil_times (length events) 50 (omega arith) in
    let inside : k * 50 < length events = begins_inside (length events) (piece_count events) k few.1 below in
    let size : length (piece events k) ≡ min 50 (length (drop (k * 50) events)) = length-take 50 (drop (k * 50) events) in
    let left = length-drop (k * 50) events in
    (omega arith, omega arith)

-- each batch of a cut has 1 to 50 events
pub contents_filled : (moment next : ℕ) (events : List Hook) → All IsFilled (contents moment next events)
contents_filled moment next events = λ i d below.
    let content : ℕ → Content = λ k. record { number = next + k; moment = moment; events = piece events k } in
    let inside : i < piece_count events = subst (λ n. i < n) (length-map-range_with_len content 0 (piece_count events)) below in
    let here = piece_filled events i inside in
    subst IsFilled (sym (get_or-map-range_with_len content 0 (piece_count events) i i d inside (zero-add i))) (record { some = here.0; few = here.1 })

-- ---- numbers

numbers_up : (next a n : ℕ) → map (λ k. next + k) (range_with_len a n) ≡ range_with_len (next + a) n
numbers_up next a zero = refl
numbers_up next a (suc n) =
    let step : next + (a + 1) ≡ next + a + 1 = omega arith in
    ap (λ (ks : List ℕ). (next + a) ∷ ks) (numbers_up next (a + 1) n ∙ ap (λ b. range_with_len b n) step)

map_map : {A B C : Type 0} (g : B → C) (h : A → B) (xs : List A) → map g (map h xs) ≡ map (λ x. g (h x)) xs
map_map g h [] = refl
map_map g h (x ∷ xs) = ap (λ ys. g (h x) ∷ ys) (map_map g h xs)

-- the batches of a cut are numbered from the next number on
pub contents_numbered : (moment next : ℕ) (events : List Hook) → map (λ c. c.number) (contents moment next events) ≡ range_with_len next (length (contents moment next events))
contents_numbered moment next events =
    let content : ℕ → Content = λ k. record { number = next + k; moment = moment; events = piece events k } in
    let n : ℕ = piece_count events in
    map_map (λ (c : Content). c.number) content (range_with_len 0 n)
    ∙ numbers_up next 0 n
    ∙ ap₂ range_with_len (let same : next + 0 ≡ next = omega arith in same) (sym (length-map-range_with_len content 0 n))
