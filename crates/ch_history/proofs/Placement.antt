-- Legal histories of a shard at its place: their fronts, their last entry, and one entry more.
use Rattle.std.proofs.Common.{List, [], ◌∷◌, ◌++◌, ℕ, All}
use Rattle.std.proofs.lemmas.List.Elements.{All-nil, All-cons, All-head, All-tail, All-push}
use Rattle.ch_history.specs.Entries.{ChanEntry, ChanHistory, UserEntry, UserHistory}
use Rattle.ch_history.specs.Legal.{Follows}
use Rattle.ch_history.specs.UserLegal.{UserFollows}
use Rattle.ch_history.specs.Placement.{BelongsTo, UserBelongsTo, IsLegalAt, IsUserLegalAt}
use Rattle.ch_history.proofs.Legal.{IsLegal-push, IsLegal-front}
use Rattle.ch_history.proofs.UserLegal.{IsUserLegal-push, IsUserLegal-front}

-- what is true of all is true of the front, and of the element after it
All-front : {X : Type 0} (P : X → Type 0) (xs ys : List X) → All P (xs ++ ys) → All P xs
All-front P [] ys all = All-nil P
All-front P (x ∷ xs) ys all = All-cons P x xs (All-head P x (xs ++ ys) all) (All-front P xs ys (All-tail P x (xs ++ ys) all))

All-next : {X : Type 0} (P : X → Type 0) (xs : List X) (y : X) (ys : List X) → All P (xs ++ y ∷ ys) → P y
All-next P [] y ys all = All-head P y ys all
All-next P (x ∷ xs) y ys all = All-next P xs y ys (All-tail P x (xs ++ y ∷ ys) all)

-- Channel shards

pub IsLegalAt-push : (shard : ℕ × ℕ) (h : ChanHistory) (e : ChanEntry) → IsLegalAt shard h → Follows h e → BelongsTo shard e.call → IsLegalAt shard (h ++ e ∷ [])
IsLegalAt-push shard h e legal follows belongs = record {
  legal = IsLegal-push h e legal.legal follows;
  placed = All-push (λ d. BelongsTo shard d.call) h e legal.placed belongs;
}

pub IsLegalAt-front : (shard : ℕ × ℕ) (h more : ChanHistory) → IsLegalAt shard (h ++ more) → IsLegalAt shard h
IsLegalAt-front shard h more legal = record {
  legal = IsLegal-front h more legal.legal;
  placed = All-front (λ d. BelongsTo shard d.call) h more legal.placed;
}

pub IsLegalAt-last : (shard : ℕ × ℕ) (h : ChanHistory) (e : ChanEntry) → IsLegalAt shard (h ++ e ∷ []) → BelongsTo shard e.call
IsLegalAt-last shard h e legal = All-next (λ d. BelongsTo shard d.call) h e [] legal.placed

-- User shards

pub IsUserLegalAt-push : (shard : ℕ × ℕ) (h : UserHistory) (e : UserEntry) → IsUserLegalAt shard h → UserFollows h e → UserBelongsTo shard e.call → IsUserLegalAt shard (h ++ e ∷ [])
IsUserLegalAt-push shard h e legal follows belongs = record {
  legal = IsUserLegal-push h e legal.legal follows;
  placed = All-push (λ d. UserBelongsTo shard d.call) h e legal.placed belongs;
}

pub IsUserLegalAt-front : (shard : ℕ × ℕ) (h more : UserHistory) → IsUserLegalAt shard (h ++ more) → IsUserLegalAt shard h
IsUserLegalAt-front shard h more legal = record {
  legal = IsUserLegal-front h more legal.legal;
  placed = All-front (λ d. UserBelongsTo shard d.call) h more legal.placed;
}

pub IsUserLegalAt-last : (shard : ℕ × ℕ) (h : UserHistory) (e : UserEntry) → IsUserLegalAt shard (h ++ e ∷ []) → UserBelongsTo shard e.call
IsUserLegalAt-last shard h e legal = All-next (λ d. UserBelongsTo shard d.call) h e [] legal.placed
