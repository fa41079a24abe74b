-- A front of a legal history is legal, and each call of a legal history fits the place.
use Rattle.std.specs.Prelude.{ℕ, [], ◌∷◌, ◌++◌}
use Rattle.ch_history.specs.Entries.{ChanEntry, ChanHistory}
use Rattle.ch_history.specs.Placement.{IsLegalAt}
use Rattle.ch_history.proofs.Legal.{IsLegal-last}
use Rattle.ch_history.proofs.Placement.{IsLegalAt-front, IsLegalAt-last}
use Rattle.ch_shard.specs.Seats.{Fits}

pub legal_prefix : (at : ℕ × ℕ) (h more : ChanHistory) → IsLegalAt at (h ++ more) → IsLegalAt at h
legal_prefix at h more legal = IsLegalAt-front at h more legal

pub legal_fits : (at : ℕ × ℕ) (h : ChanHistory) (e : ChanEntry) → IsLegalAt at (h ++ e ∷ []) → Fits at e.call
legal_fits at h e legal = ((IsLegal-last h e legal.legal).formed, IsLegalAt-last at h e legal)
