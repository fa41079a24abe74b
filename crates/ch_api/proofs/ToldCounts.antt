-- Counts that are told for each channel with its answer.
use Rattle.std.proofs.Common.{◌≡◌, List, [], ◌∷◌, refl, inl, inr}
use Rattle.std.specs.Prelude.{◌⊎◌}
use Rattle.ch_protocol.specs.declared.ask.Made.{Made}
use Rattle.ch_requests.specs.Replies.{named_counts, each_counts}
use Rattle.ch_requests.specs.declared.plan.Counted.{Counted}

-- where no channel or no answer is left, nothing is told
pub no_named_counts : (cs : List Counted) (mades : List Made) → (cs ≡ []) ⊎ (mades ≡ []) → named_counts cs mades ≡ []
no_named_counts [] mades none = refl
no_named_counts (c ∷ cs) [] none = refl
no_named_counts (c ∷ cs) (made ∷ mades) (inl none) = cc
no_named_counts (c ∷ cs) (made ∷ mades) (inr none) = cc

pub no_each_counts : (cs : List Counted) (mades : List Made) → (cs ≡ []) ⊎ (mades ≡ []) → each_counts cs mades ≡ []
no_each_counts [] mades none = refl
no_each_counts (c ∷ cs) [] none = refl
no_each_counts (c ∷ cs) (made ∷ mades) (inl none) = cc
no_each_counts (c ∷ cs) (made ∷ mades) (inr none) = cc
