-- The seats of a new house.
use Rattle.std.proofs.Common.{◌≡◌, ℕ, ◌+◌, ◌<◌, List, [], ◌∷◌, ◌++◌, length, length-append, map, All, get_or, ap, ◌∙◌, arith}
use Rattle.std.proofs.lemmas.List.{map_push, length-map}
use Rattle.std.proofs.lemmas.List.Elements.{All-nil, All-push}
use Rattle.ch_history.specs.Placement.{BelongsTo, IsLegalAt, UserBelongsTo, IsUserLegalAt}
use Rattle.ch_house.proofs.Places.{push_each}

-- the empty history is legal at each place
pub nothing_legal : (at : ℕ × ℕ) → IsLegalAt at []
nothing_legal at = record { legal = tt; placed = All-nil (λ e. BelongsTo at e.call) }

pub nothing_user_legal : (at : ℕ × ℕ) → IsUserLegalAt at []
nothing_user_legal at = record { legal = tt; placed = All-nil (λ e. UserBelongsTo at e.call) }

module _ {S : Type 0} (place : S → ℕ × ℕ) (Empty : S → Type 0) (n : ℕ) where
  -- so many seats, each at its place and empty
  pub record AreSeats (k : ℕ) (seats : List S) : Type 0 where
    pub count : length seats ≡ k
    pub places : (j : ℕ) → j < k → ◌≡◌ {A = ℕ × ℕ} (get_or (map place seats) j (0, 0)) (j, n)
    pub empty : All Empty seats

  -- one more
  pub AreSeats-push : (k : ℕ) (seats now : List S) (s : S) → AreSeats k seats → now ≡ seats ++ s ∷ [] → ◌≡◌ {A = ℕ × ℕ} (place s) (k, n) → Empty s → AreSeats (k + 1) now
  AreSeats-push k seats now s are is at none = let count = are.count in record {
    count = omega (arith, ap length is, length-append {A = S});
    places = push_each {X = ℕ × ℕ} (λ j. (j, n)) (0, 0) (map place seats) (map place now) (place s) k (ap (map place) is ∙ map_push place seats s) (length-map seats place ∙ count) are.places at;
    empty = rw is (All-push Empty seats s are.empty none);
  }
