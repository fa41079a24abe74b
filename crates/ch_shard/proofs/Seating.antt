-- A seat stands for its history, at its place.
use Rattle.std.proofs.Common.{ℕ, [], ◌∷◌, ◌++◌}
use Rattle.std.specs.Prelude.{Result, MatchResult, IfOk, Ok, Err}
use Rattle.std.proofs.lemmas.List.Elements.{All-nil, All-push}
use Rattle.ch_base.specs.declared.memory.Memory.{Memory}
use Rattle.ch_base.specs.declared.channel.ChanCall.{ChanCall}
use Rattle.ch_base.specs.declared.channel.ChanAnswer.{ChanAnswer}
use Rattle.ch_base.specs.Growth.{entry}
use Rattle.ch_history.specs.Entries.{ChanHistory}
use Rattle.ch_history.specs.Placement.{BelongsTo, IsLegalAt}
use Rattle.ch_shard.specs.ShardState.{ShardState}
use Rattle.ch_shard.specs.Stands.{Stands}
use Rattle.ch_shard.specs.Seats.{StandsAt}

-- the empty history is legal at each place
pub nothing_legal : (place : ℕ × ℕ) → IsLegalAt place []
nothing_legal place = record { legal = tt; placed = All-nil (λ e. BelongsTo place e.call) }

-- a served call is one entry more of what the seat stands for
pub served : (old new : ShardState) (place : ℕ × ℕ) (caller : ℕ) (call : ChanCall) (r : Result ChanAnswer Memory) → BelongsTo place call
    → ((h : ChanHistory) → Stands old h → MatchResult r (λ answer. Stands new (h ++ entry caller call answer ∷ [])) (λ m. Stands new h))
    → IfOk r (λ answer. (h : ChanHistory) → StandsAt old place h → StandsAt new place (h ++ entry caller call answer ∷ []))
served old new place caller call (Ok answer) belongs stands = λ h was. let now = stands h was.0 in (
  now,
  record {
    legal = now.legal;
    placed = All-push (λ e. BelongsTo place e.call) h (entry caller call answer) was.1.placed belongs;
  },
)
served old new place caller call (Err m) belongs stands = tt
