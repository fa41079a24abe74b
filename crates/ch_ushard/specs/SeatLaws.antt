-- A front of a legal history is legal, and each call of a legal history fits the place.
use Rattle.std.specs.Prelude.{ℕ, [], ◌∷◌, ◌++◌}
use Rattle.ch_history.specs.Entries.{UserEntry, UserHistory}
use Rattle.ch_history.specs.Placement.{IsUserLegalAt}
use Rattle.ch_history.proofs.Placement.{IsUserLegalAt-front, IsUserLegalAt-last}
use Rattle.ch_history.proofs.UserLegal.{IsUserLegal-last}
use Rattle.ch_ushard.specs.Seats.{Fits}

pub legal_prefix : (at : ℕ × ℕ) (h more : UserHistory) → IsUserLegalAt at (h ++ more) → IsUserLegalAt at h
legal_prefix at h more legal = IsUserLegalAt-front at h more legal

pub legal_fits : (at : ℕ × ℕ) (h : UserHistory) (e : UserEntry) → IsUserLegalAt at (h ++ e ∷ []) → Fits at e.call
legal_fits at h e legal = ((IsUserLegal-last h e legal.legal).formed, IsUserLegalAt-last at h e legal)
