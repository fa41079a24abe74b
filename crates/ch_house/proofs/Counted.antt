-- The counts of what was closed.
use Rattle.std.proofs.Common.{◌≡◌, ℕ, ◌+◌, ◌<◌, List, [], ◌∷◌, ◌++◌, length, length-append, get_or, refl, sym, ap, ◌∙◌, arith, Some}
use Rattle.std.specs.Prelude.{slice_get}
use Rattle.std.proofs.lemmas.Option.{same_Some, slice_get_read}
use Rattle.ch_turn.specs.declared.closing.Closed.{Closed}
use Rattle.ch_house.specs.declared.counts.ShardCount.{ShardCount}
use Rattle.ch_house.proofs.Places.{each_more}

module _ {S : Type 0} (P : S → ℕ → Type 0) where
  -- so many counts are those of the closed seats
  pub record AreCounts (closed : List (Closed S)) (i : ℕ) (counts : List ShardCount) : Type 0 where
    pub count : length counts ≡ i
    pub entries : (k : ℕ) (c : Closed S) (n : ShardCount) → slice_get closed k ≡ Some c → slice_get counts k ≡ Some n → n.entries ≡ c.entries
    pub left : (k : ℕ) (c : Closed S) (n : ShardCount) → slice_get closed k ≡ Some c → slice_get counts k ≡ Some n → P c.value n.left

  -- one more
  pub AreCounts-push : (closed : List (Closed S)) (i : ℕ) (counts now : List ShardCount) (c : Closed S) (n : ShardCount) → AreCounts closed i counts → now ≡ counts ++ n ∷ [] → i < length closed → c ≡ get_or closed i c
      → n.entries ≡ c.entries → P c.value n.left → AreCounts closed (i + 1) now
  AreCounts-push closed i counts now c n are is within read entries left =
      let count = are.count in
      let at : slice_get closed i ≡ Some c = slice_get_read closed (length closed) i c refl within read in
      record {
        count = omega (arith, ap length is, length-append {A = ShardCount});
        entries = λ k d m here there. each_more (λ j z. (w : Closed S) → slice_get closed j ≡ Some w → z.entries ≡ w.entries) counts now n is (λ j z e w f. are.entries j w z f e)
            (λ w f. entries ∙ ap (λ (v : Closed S). v.entries) (same_Some c w (sym at ∙ (ap (slice_get closed) (sym count) ∙ f)))) k m there d here;
        left = λ k d m here there. each_more (λ j z. (w : Closed S) → slice_get closed j ≡ Some w → P w.value z.left) counts now n is (λ j z e w f. are.left j w z f e)
            (λ w f. let same : c ≡ w = same_Some c w (sym at ∙ (ap (slice_get closed) (sym count) ∙ f)) in rw (← same) left) k m there d here;
      }
