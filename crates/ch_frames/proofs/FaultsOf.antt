-- The faults of a message's names and lengths.
use Rattle.std.proofs.Common.{◌≡◌, ℕ, List, true, false, refl, Some}
use Rattle.std.specs.Prelude.{Option, None, Ok, Err, if◌then◌else◌}
use Rattle.ch_base.specs.declared.error_codes.TheConstants.{INVALID_CHANNEL_NAME}
use Rattle.ch_history.specs.UserChannels.{is_subscribable}
use Rattle.ch_protocol.specs.ClientMessages.{checked}
use Rattle.ch_protocol.specs.declared.client_message.ClientMessage.TheVariants.{Subscribe, Unsubscribe}
use Rattle.ch_frames.specs.Verdicts.{verdict_of, subscribable_fault}

pub subscribe_verdict : (c : List ℕ) (a d : Option (List ℕ)) → verdict_of (Subscribe c a d) (subscribable_fault c) ≡ checked (Subscribe c a d)
subscribe_verdict c a d = elim (is_subscribable c) as (λ b. verdict_of (Subscribe c a d) (if b then None else Some INVALID_CHANNEL_NAME) ≡ (if b then Ok (Subscribe c a d) else Err INVALID_CHANNEL_NAME)) [ true ↦ refl | false ↦ refl ]

pub unsubscribe_verdict : (c : List ℕ) → verdict_of (Unsubscribe c) (subscribable_fault c) ≡ checked (Unsubscribe c)
unsubscribe_verdict c = elim (is_subscribable c) as (λ b. verdict_of (Unsubscribe c) (if b then None else Some INVALID_CHANNEL_NAME) ≡ (if b then Ok (Unsubscribe c) else Err INVALID_CHANNEL_NAME)) [ true ↦ refl | false ↦ refl ]
