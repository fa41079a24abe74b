-- A seat stands for its history, at its place.
use Rattle.std.proofs.Common.{ℕ, [], ◌∷◌, ◌++◌}
use Rattle.std.specs.Prelude.{Result, MatchResult, IfOk, Ok, Err}
use Rattle.std.proofs.lemmas.List.Elements.{All-nil, All-push}
use Rattle.ch_base.specs.declared.memory.Memory.{Memory}
use Rattle.ch_base.specs.declared.user.UserCall.{UserCall}
use Rattle.ch_base.specs.declared.user.UserAnswer.{UserAnswer}
use Rattle.ch_base.specs.Growth.{entry}
use Rattle.ch_history.specs.Entries.{UserHistory}
use Rattle.ch_history.specs.Placement.{UserBelongsTo, IsUserLegalAt}
use Rattle.ch_ushard.specs.UserShardState.{UserShardState}
use Rattle.ch_ushard.specs.Stands.{Stands}
use Rattle.ch_ushard.specs.Seats.{StandsAt}

-- the empty history is legal at each place
pub nothing_legal : (place : ℕ × ℕ) → IsUserLegalAt place []
nothing_legal place = record { legal = tt; placed = All-nil (λ e. UserBelongsTo place e.call) }

-- a served call is one entry more of what the seat stands for
pub served : (old new : UserShardState) (place : ℕ × ℕ) (caller : ℕ) (call : UserCall) (r : Result UserAnswer Memory) → UserBelongsTo place call
    → ((h : UserHistory) → Stands old h → MatchResult r (λ answer. Stands new (h ++ entry caller call answer ∷ [])) (λ m. Stands new h))
    → IfOk r (λ answer. (h : UserHistory) → StandsAt old place h → StandsAt new place (h ++ entry caller call answer ∷ []))
served old new place caller call (Ok answer) belongs stands = λ h was. let now = stands h was.0 in (
  now,
  record {
    legal = now.legal;
    placed = All-push (λ e. UserBelongsTo place e.call) h (entry caller call answer) was.1.placed belongs;
  },
)
served old new place caller call (Err m) belongs stands = tt
