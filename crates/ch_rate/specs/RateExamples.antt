-- Client events that are allowed, and some that aren't.
use Rattle.std.specs.Prelude.{◌≡◌, ℕ, true, false, List, [], ◌∷◌}
use Rattle.ch_rate.specs.Rate.{rate_allows, last_ten}

-- ten events at the moment 0
abbrev pub ten_at_once : List ℕ
ten_at_once = 0 ∷ 0 ∷ 0 ∷ 0 ∷ 0 ∷ 0 ∷ 0 ∷ 0 ∷ 0 ∷ 0 ∷ []

-- eleven events, of which the first is older than the last ten
abbrev pub eleven : List ℕ
eleven = 0 ∷ 500 ∷ 600 ∷ 700 ∷ 800 ∷ 900 ∷ 1000 ∷ 1000 ∷ 1000 ∷ 1000 ∷ 1000 ∷ []

pub record RateExamples : Type 0 where
  pub none_before : rate_allows [] 0 ≡ true
  pub nine_before : rate_allows (0 ∷ 0 ∷ 0 ∷ 0 ∷ 0 ∷ 0 ∷ 0 ∷ 0 ∷ 0 ∷ []) 0 ≡ true
  pub ten_before : rate_allows ten_at_once 0 ≡ false
  pub too_soon : rate_allows ten_at_once 999 ≡ false
  pub a_second_later : rate_allows ten_at_once 1000 ≡ true
  pub tenth_last_counts : rate_allows eleven 1499 ≡ false
  pub first_does_not : rate_allows eleven 1500 ≡ true
  pub kept : last_ten eleven ≡ 500 ∷ 600 ∷ 700 ∷ 800 ∷ 900 ∷ 1000 ∷ 1000 ∷ 1000 ∷ 1000 ∷ 1000 ∷ []
