-- What `parse` answers, as a verdict.
use Rattle.std.specs.Prelude.{ℕ, List, length, not, ◌||◌, nat_lt, Option, Some, None, Result, Ok, Err, if◌then◌else◌}
use Rattle.ch_history.specs.ChannelName.{is_good_name}
use Rattle.ch_history.specs.UserChannels.{is_subscribable}
use Rattle.ch_protocol.specs.ClientMessages.{Verdict, ClientEvent, checked}
use Rattle.ch_protocol.specs.ClientMessages as event
use Rattle.ch_protocol.specs.declared.client_message.ClientMessage.{ClientMessage}
use Rattle.ch_base.specs.declared.error_codes.TheConstants.{INVALID_CHANNEL_NAME, MALFORMED_MESSAGE, MESSAGE_TOO_LONG}
use Rattle.ch_protocol.specs.declared.limits.TheConstants.{LONGEST_EVENT, LONGEST_BODY}
use Rattle.ch_frames.specs.declared.refused.Refused.{Refused}
use Rattle.ch_frames.specs.declared.refused.Refused.TheVariants.{Code, Memory}
use Rattle.ch_frames.specs.declared.client_event.Event.{Event}
use Rattle.ch_frames.specs.declared.client_event.Event.TheVariants as coded_event

-- the answer is such a verdict, unless memory ran out
abbrev pub HasVerdict : (Verdict → Type 0) → Result ClientMessage Refused → Type 0
HasVerdict P (Ok m) = P (Ok m)
HasVerdict P (Err (Code c)) = P (Err c)
HasVerdict P (Err Memory) = Unit {0}

-- the verdict as an answer
abbrev pub answer_of : Verdict → Result ClientMessage Refused
answer_of (Ok m) = Ok m
answer_of (Err c) = Err (Code c)

-- the answer where this is the message of the shape, or there is none
abbrev pub answer_of_shape : Option ClientMessage → Result ClientMessage Refused
answer_of_shape None = Err (Code MALFORMED_MESSAGE)
answer_of_shape (Some m) = answer_of (checked m)

-- a message's verdict, where this is the code of its fault, or none
abbrev pub verdict_of : ClientMessage → Option ℕ → Verdict
verdict_of m None = Ok m
verdict_of m (Some c) = Err c

-- the code of the fault of a channel's name to which sockets can't subscribe
abbrev pub subscribable_fault : List ℕ → Option ℕ
subscribable_fault channel = if is_subscribable channel then None else Some INVALID_CHANNEL_NAME

-- the code of the first fault of a client event
abbrev pub say_fault : List ℕ → List ℕ → List ℕ → Option ℕ
say_fault channel event body =
    if not (is_good_name channel) then Some INVALID_CHANNEL_NAME
    else if nat_lt LONGEST_EVENT (length event) || nat_lt LONGEST_BODY (length body) then Some MESSAGE_TOO_LONG
    else None

-- the event that an `Event` stands for
abbrev pub as_client_event : Event → ClientEvent
as_client_event coded_event.Ping = event.ping
as_client_event coded_event.Pong = event.pong
as_client_event coded_event.Subscribe = event.subscribe
as_client_event coded_event.Unsubscribe = event.unsubscribe
as_client_event coded_event.SignIn = event.sign_in
as_client_event coded_event.Client = event.client
as_client_event coded_event.Unknown = event.unknown
