-- What a cut makes.
use Rattle.std.proofs.Common.{◌≡◌, ℕ, ◌+◌, ◌≤◌, ◌^◌, Bool, true, cond, length, map, All, List, [], ◌∷◌, ◌++◌, arith, ap, ap₂, sym, subst, ◌∙◌, append-nil, le-leb, nat_le}
use Rattle.std.specs.List.{flat_map}
use Rattle.std.proofs.lemmas.List.Elements.{All-append, All-cons, All-nil}
use Rattle.std.proofs.lemmas.List.FromFn.{length-map-range_with_len}
use Rattle.ch_base.specs.declared.webhook.Hook.{Hook}
use Rattle.ch_webhooks.specs.declared.batch.Sender.{Sender}
use Rattle.ch_webhooks.specs.declared.batch.Waiting.{Waiting}
use Rattle.ch_webhooks.specs.Batches.{Content, batch_of, contents, piece, piece_count}
use Rattle.ch_webhooks.specs.Batching.{Batching, after_cut, cut_now, new_batch}
use Rattle.ch_batch.proofs.Retries.{IsOpen}

-- no number is above the greatest
abbrev pub has_numbers : Batching → Bool
has_numbers b = nat_le (b.next + piece_count b.uncut) (2 ^ 62 + 1)

new_are_open : (sender : Sender) (xs : List Content) → All IsOpen (map (λ c. new_batch (batch_of sender c)) xs)
new_are_open sender [] = All-nil IsOpen
new_are_open sender (c ∷ xs) = All-cons IsOpen (new_batch (batch_of sender c)) (map (λ c. new_batch (batch_of sender c)) xs) (omega arith) (new_are_open sender xs)

pub open_with_new : (sender : Sender) (xs : List Content) (old made new : List Waiting) → made ≡ map (λ c. new_batch (batch_of sender c)) xs → new ≡ old ++ made → All IsOpen old → All IsOpen new
open_with_new sender xs old made new are is all =
    subst (All IsOpen) (sym (is ∙ ap (λ (ys : List Waiting). old ++ ys) are)) (All-append IsOpen old (map (λ c. new_batch (batch_of sender c)) xs) all (new_are_open sender xs))

pub length_contents : (moment next : ℕ) (events : List Hook) → length (contents moment next events) ≡ piece_count events
length_contents moment next events = length-map-range_with_len (λ k. record { number = next + k; moment = moment; events = piece events k }) 0 (piece_count events)

fits : (b : Batching) (count : ℕ) (events : List Hook) → b.uncut ≡ events → count ≡ piece_count events → b.next + count ≤ 2 ^ 62 + 1 → has_numbers b ≡ true
fits b count events are counted below = le-leb (b.next + piece_count b.uncut) (2 ^ 62 + 1)
    (subst (λ n. b.next + n ≤ 2 ^ 62 + 1) (counted ∙ ap (λ (xs : List Hook). piece_count xs) (sym are)) below)

pub cut_counts : (b : Batching) (now count : ℕ) (events : List Hook) → b.uncut ≡ events → count ≡ piece_count events → b.next + count ≤ 2 ^ 62 + 1
    → count ≡ length (cut_now b now)
cut_counts b now count events are counted below =
    counted ∙ ap (λ (xs : List Hook). piece_count xs) (sym are) ∙ sym (length_contents now b.next b.uncut)
    ∙ ap (λ t. length (cond t (contents now b.next b.uncut) [])) (sym (fits b count events are counted below))

pub cut_is_made : (b : Batching) (now count : ℕ) (events : List Hook) (made waiting : List Waiting) → b.uncut ≡ events → count ≡ piece_count events → b.next + count ≤ 2 ^ 62 + 1
    → made ≡ map (λ c. new_batch (batch_of b.sender c)) (contents now b.next events) → waiting ≡ b.waiting ++ made
    → record { sender = b.sender; uncut = []; waiting = waiting; next = b.next + count } ≡ after_cut b now
cut_is_made b now count events made waiting are counted below are_made is =
    ap₂ (λ (ws : List Waiting) (n : ℕ). record { sender = b.sender; uncut = []; waiting = ws; next = b.next + n })
    (is ∙ ap (λ (ys : List Waiting). b.waiting ++ ys) (are_made ∙ ap (λ (xs : List Hook). map (λ c. new_batch (batch_of b.sender c)) (contents now b.next xs)) (sym are)))
    (counted ∙ ap (λ (xs : List Hook). piece_count xs) (sym are))
    ∙ ap (λ t. cond t (record {
      sender = b.sender;
      uncut = [];
      waiting = b.waiting ++ map (λ c. new_batch (batch_of b.sender c)) (contents now b.next b.uncut);
      next = b.next + piece_count b.uncut;
    }) b) (sym (fits b count events are counted below))

-- all lists were merged
pub merged_all : (before merged : List Hook) (lists : List (List Hook)) → lists ≡ [] → merged ++ flat_map (λ l. l) lists ≡ before → before ≡ merged
merged_all before merged lists none all = sym all ∙ ap (λ (ls : List (List Hook)). merged ++ flat_map (λ l. l) ls) none ∙ append-nil merged

pub nothing_left : (merged : List Hook) (lists : List (List Hook)) → merged ≡ [] → lists ≡ [] → merged ++ flat_map (λ l. l) lists ≡ []
nothing_left merged lists none no_lists = ap₂ (λ (xs : List Hook) (ls : List (List Hook)). xs ++ flat_map (λ l. l) ls) none no_lists
