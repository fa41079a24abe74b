-- Each event that a batcher accepts is in one batch, or isn't cut yet.
use Rattle.std.proofs.Common.{◌≡◌, ℕ, zero, suc, ◌+◌, true, false, cond, length, drop, All, List, [], ◌∷◌, ◌++◌, map, arith, refl, ap, ap₂, sym, ◌∙◌, append_assoc, append-nil, length-append}
use Rattle.std.specs.List.{range_with_len}
use Rattle.std.proofs.lemmas.List.{map-append}
use Rattle.std.proofs.lemmas.List.Concat.{flat_map-append}
use Rattle.std.proofs.lemmas.List.Elements.{All-nil, All-append}
use Rattle.ch_base.specs.declared.webhook.Hook.{Hook}
use Rattle.ch_webhooks.specs.declared.batch.Batch.{Batch}
use Rattle.ch_webhooks.specs.declared.batch.Sender.{Sender}
use Rattle.ch_webhooks.specs.declared.batch.Waiting.{Waiting}
use Rattle.ch_batch.specs.declared.step.Step.{Step}
use Rattle.ch_batch.specs.declared.step.Step.TheVariants.{Sent, Retry, GaveUp, Later, Nothing}
use Rattle.ch_webhooks.specs.Batches.{Content, batch_of, contents, piece_count}
use Rattle.ch_webhooks.specs.Batching.{Batching, after_cut, cut_now, new_batch, nothing_yet, with_events}
use Rattle.ch_batch.specs.Deeds.{Deed, accepts, cuts, steps, accepted, accepted_by, after, after_all, first_batch, gone, gone_by, made, made_by}
use Rattle.ch_batch.specs.Laws.{BatchesLaw, IsFilled, events_in_all}
use Rattle.ch_batch.specs.Steps.{left_by}
use Rattle.ch_batch.proofs.Cuts.{has_numbers, length_contents}
use Rattle.ch_batch.proofs.PiecesJoined.{contents_filled, contents_joined, contents_numbered}

-- a cut makes its batches, or changes nothing
by_cut : (b : Batching) (now : ℕ) (P : List Content → Batching → Type 0)
    → P (contents now b.next b.uncut) (record {
      sender = b.sender;
      uncut = [];
      waiting = b.waiting ++ map (λ c. new_batch (batch_of b.sender c)) (contents now b.next b.uncut);
      next = b.next + piece_count b.uncut;
    })
    → P [] b → P (cut_now b now) (after_cut b now)
by_cut b now P makes nothing =
    elim (has_numbers b) as (λ t. P (cond t (contents now b.next b.uncut) []) (cond t (record {
      sender = b.sender;
      uncut = [];
      waiting = b.waiting ++ map (λ c. new_batch (batch_of b.sender c)) (contents now b.next b.uncut);
      next = b.next + piece_count b.uncut;
    }) b)) [
      | true ↦ makes
      | false ↦ nothing
    ]

events_both : (xs ys : List Content) → events_in_all (xs ++ ys) ≡ events_in_all xs ++ events_in_all ys
events_both xs ys = flat_map-append (λ (c : Content). c.events) xs ys

-- ---- the events

events_of_one : (b : Batching) (d : Deed) → events_in_all (made_by b d) ++ (after b d).uncut ≡ b.uncut ++ accepted_by d
events_of_one b (accepts events) = refl
events_of_one b (cuts now) =
    by_cut b now (λ xs c. events_in_all xs ++ c.uncut ≡ b.uncut ++ [])
    (append-nil (events_in_all (contents now b.next b.uncut)) ∙ contents_joined now b.next b.uncut ∙ sym (append-nil b.uncut))
    (sym (append-nil b.uncut))
events_of_one b (steps answer) = sym (append-nil b.uncut)

events_of_all : (b : Batching) (ds : List Deed) → events_in_all (made b ds) ++ (after_all b ds).uncut ≡ b.uncut ++ accepted ds
events_of_all b [] = sym (append-nil b.uncut)
events_of_all b (d ∷ ds) =
    let first : List Hook = events_in_all (made_by b d) in
    let later : List Hook = events_in_all (made (after b d) ds) in
    let left : List Hook = (after_all (after b d) ds).uncut in
    ap (λ (z : List Hook). z ++ left) (events_both (made_by b d) (made (after b d) ds))
    ∙ append_assoc first later left
    ∙ ap (λ (z : List Hook). first ++ z) (events_of_all (after b d) ds)
    ∙ sym (append_assoc first (after b d).uncut (accepted ds))
    ∙ ap (λ (z : List Hook). z ++ accepted ds) (events_of_one b d)
    ∙ append_assoc b.uncut (accepted_by d) (accepted ds)

-- ---- the numbers

next_of_one : (b : Batching) (d : Deed) → (map (λ c. c.number) (made_by b d) ≡ range_with_len b.next (length (made_by b d))) × ((after b d).next ≡ b.next + length (made_by b d))
next_of_one b (accepts events) = (refl, omega arith)
next_of_one b (cuts now) =
    by_cut b now (λ xs c. (map (λ x. x.number) xs ≡ range_with_len b.next (length xs)) × (c.next ≡ b.next + length xs))
    (contents_numbered now b.next b.uncut, ap (λ n. b.next + n) (sym (length_contents now b.next b.uncut)))
    (refl, omega arith)
next_of_one b (steps answer) = (refl, omega arith)

range-append : (a m n : ℕ) → range_with_len a m ++ range_with_len (a + m) n ≡ range_with_len a (m + n)
range-append a zero n =
    let none : a + 0 ≡ a = omega arith in
    let all : n ≡ 0 + n = omega arith in
    ap₂ range_with_len none all
range-append a (suc m) n =
    let from : a + suc m ≡ a + 1 + m = omega arith in
    let count : suc (m + n) ≡ suc m + n = omega arith in
    ap (λ k. a ∷ (range_with_len (a + 1) m ++ range_with_len k n)) from ∙ ap (λ (ks : List ℕ). a ∷ ks) (range-append (a + 1) m n) ∙ ap (range_with_len a) count

numbers_of_all : (b : Batching) (ds : List Deed) → map (λ c. c.number) (made b ds) ≡ range_with_len b.next (length (made b ds))
numbers_of_all b [] = refl
numbers_of_all b (d ∷ ds) =
    let one = next_of_one b d in
    let first : List Content = made_by b d in
    let later : List Content = made (after b d) ds in
    map-append (λ (c : Content). c.number) first later
    ∙ ap₂ (λ (ks ls : List ℕ). ks ++ ls) one.0 (numbers_of_all (after b d) ds ∙ ap (λ k. range_with_len k (length later)) one.1)
    ∙ range-append b.next (length first) (length later)
    ∙ ap (range_with_len b.next) (sym (length-append first later))

-- ---- the sizes

filled_of_all : (b : Batching) (ds : List Deed) → All IsFilled (made b ds)
filled_of_all b [] = All-nil IsFilled
filled_of_all b (accepts events ∷ ds) = filled_of_all (with_events b events) ds
filled_of_all b (cuts now ∷ ds) =
    All-append IsFilled (cut_now b now) (made (after_cut b now) ds)
    (by_cut b now (λ xs c. All IsFilled xs) (contents_filled now b.next b.uncut) (All-nil IsFilled)) (filled_of_all (after_cut b now) ds)
filled_of_all b (steps answer ∷ ds) = filled_of_all (after b (steps answer)) ds

-- ---- the batches

abbrev batches : List Waiting → List Batch
batches ws = map (λ w. w.batch) ws

new_ones : (sender : Sender) (xs : List Content) → batches (map (λ c. new_batch (batch_of sender c)) xs) ≡ map (batch_of sender) xs
new_ones sender [] = refl
new_ones sender (x ∷ xs) = ap (λ (ys : List Batch). batch_of sender x ∷ ys) (new_ones sender xs)

first_goes : (ws : List Waiting) → batches ws ≡ first_batch ws ++ batches (drop 1 ws)
first_goes [] = refl
first_goes (w ∷ others) = refl

none_goes : (number tries due : ℕ) (ws : List Waiting) → batches ws ≡ batches (left_by (Retry number tries due) ws)
none_goes number tries due [] = refl
none_goes number tries due (w ∷ others) = refl

-- a step takes one batch away, or none
by_step : (answer : Step) (b : Batching) → batches b.waiting ≡ gone_by b (steps answer) ++ batches (left_by answer b.waiting)
by_step (Sent number) b = first_goes b.waiting
by_step (GaveUp number) b = first_goes b.waiting
by_step (Retry number tries due) b = none_goes number tries due b.waiting
by_step (Later due) b = refl
by_step Nothing b = refl

same_sender : (b : Batching) (d : Deed) → (after b d).sender ≡ b.sender
same_sender b (accepts events) = refl
same_sender b (cuts now) = by_cut b now (λ xs c. c.sender ≡ b.sender) refl refl
same_sender b (steps answer) = refl

batches_of_one : (b : Batching) (d : Deed) → batches b.waiting ++ map (batch_of b.sender) (made_by b d) ≡ gone_by b d ++ batches (after b d).waiting
batches_of_one b (accepts events) = append-nil (batches b.waiting)
batches_of_one b (cuts now) =
    by_cut b now (λ xs c. batches b.waiting ++ map (batch_of b.sender) xs ≡ batches c.waiting)
    (ap (λ (ys : List Batch). batches b.waiting ++ ys) (sym (new_ones b.sender (contents now b.next b.uncut)))
    ∙ sym (map-append (λ (w : Waiting). w.batch) b.waiting (map (λ c. new_batch (batch_of b.sender c)) (contents now b.next b.uncut))))
    (append-nil (batches b.waiting))
batches_of_one b (steps answer) = append-nil (batches b.waiting) ∙ by_step answer b

batches_of_all : (b : Batching) (ds : List Deed) → batches b.waiting ++ map (batch_of b.sender) (made b ds) ≡ gone b ds ++ batches (after_all b ds).waiting
batches_of_all b [] = append-nil (batches b.waiting)
batches_of_all b (d ∷ ds) =
    let c : Batching = after b d in
    let waits : List Batch = batches b.waiting in
    let first : List Batch = map (batch_of b.sender) (made_by b d) in
    let later : List Batch = map (batch_of b.sender) (made c ds) in
    let end : List Batch = batches (after_all c ds).waiting in
    ap (λ (z : List Batch). waits ++ z) (map-append (batch_of b.sender) (made_by b d) (made c ds))
    ∙ sym (append_assoc waits first later)
    ∙ ap₂ (λ (y z : List Batch). y ++ z) (batches_of_one b d) (ap (λ (sender : Sender). map (batch_of sender) (made c ds)) (sym (same_sender b d)))
    ∙ append_assoc (gone_by b d) (batches c.waiting) (map (batch_of c.sender) (made c ds))
    ∙ ap (λ (z : List Batch). gone_by b d ++ z) (batches_of_all c ds)
    ∙ sym (append_assoc (gone_by b d) (gone c ds) end)

-- ---- the law

pub batches_law : BatchesLaw
batches_law sender ds = record {
  events = events_of_all (nothing_yet sender) ds;
  numbers = numbers_of_all (nothing_yet sender) ds;
  filled = filled_of_all (nothing_yet sender) ds;
  batches = batches_of_all (nothing_yet sender) ds;
}
