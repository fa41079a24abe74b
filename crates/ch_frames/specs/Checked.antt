-- What holds of all that is read.
use Rattle.std.specs.Prelude.{◌≡◌, ◌⊎◌, ℕ, IsTrue}
use Rattle.std.specs.List.{list_all}
use Rattle.ch_base.specs.JsonText.{IsJsonText}
use Rattle.ch_history.specs.ChannelName.{is_good_name}
use Rattle.ch_history.specs.Limits.{is_event_name, is_user_id}
use Rattle.ch_history.specs.UserChannels.{is_subscribable}
use Rattle.ch_protocol.specs.declared.client_message.ClientMessage.{ClientMessage}
use Rattle.ch_protocol.specs.declared.client_message.ClientMessage.TheVariants.{Subscribe, Unsubscribe, Say}
use Rattle.ch_protocol.specs.declared.client_message.UserData.{UserData}
use Rattle.ch_base.specs.declared.error_codes.TheConstants.{INVALID_CHANNEL_NAME, MALFORMED_MESSAGE, MESSAGE_TOO_LONG, UNKNOWN_EVENT}
use Rattle.ch_frames.specs.declared.refused.Refused.{Refused}
use Rattle.ch_frames.specs.declared.refused.Refused.TheVariants.{Code, Memory}

-- the names in the message are good, and a body is a JSON text
abbrev pub IsGoodMessage : ClientMessage → Type 0
IsGoodMessage (Subscribe channel auth channel_data) = IsTrue (is_subscribable channel)
IsGoodMessage (Unsubscribe channel) = IsTrue (is_subscribable channel)
IsGoodMessage (Say channel event body) = IsTrue (is_good_name channel) × IsTrue (is_event_name event) × IsJsonText body
IsGoodMessage _ = Unit {0}

-- malformed, an unknown event, an invalid channel name, or over a limit
abbrev pub IsCode : ℕ → Type 0
IsCode c = (c ≡ MALFORMED_MESSAGE) ⊎ (c ≡ UNKNOWN_EVENT) ⊎ (c ≡ INVALID_CHANNEL_NAME) ⊎ (c ≡ MESSAGE_TOO_LONG)

abbrev pub IsRefusal : Refused → Type 0
IsRefusal (Code c) = IsCode c
IsRefusal Memory = Unit {0}

-- the user's id and those of whom it watches are good
pub record IsGoodUser (user : UserData) : Type 0 where
  pub id : IsTrue (is_user_id user.id)
  pub watchlist : IsTrue (list_all is_user_id user.watchlist)
