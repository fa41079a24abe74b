-- What the codes of errors mean, in words (Pusher Channels protocol, "Error codes"). The codes from 4310 on are
-- this server's own, in the protocol's range 4300 to 4399 of other errors.
use Rattle.std.specs.Prelude.{ℕ, ◌==◌, List, [], codes, if◌then◌else◌}
use Rattle.ch_base.specs.declared.error_codes.TheConstants.{ALREADY_SIGNED_IN, ALREADY_SUBSCRIBED, CHANNEL_FULL, CLIENT_EVENT_REFUSED, INVALID_CHANNEL_DATA, INVALID_CHANNEL_NAME, INVALID_SIGNATURE, INVALID_USER_DATA, INVALID_VERSION, MALFORMED_MESSAGE, MESSAGE_TOO_LONG, NOT_SUBSCRIBED, NO_PONG, NO_VERSION, OUT_OF_MEMORY, OVER_CAPACITY, RATE_LIMIT_REACHED, RECONNECT, TOO_MANY_SUBSCRIPTIONS, UNAUTHORIZED, UNKNOWN_APP, UNKNOWN_EVENT, UNKNOWN_PATH, UNSUPPORTED_VERSION}

-- the text of a code; empty for a code that isn't sent
unfoldable pub error_text : ℕ → List ℕ
error_text code =
    if code == UNKNOWN_APP then codes "application does not exist"
    else if code == UNKNOWN_PATH then codes "path not found"
    else if code == INVALID_VERSION then codes "invalid version string format"
    else if code == UNSUPPORTED_VERSION then codes "unsupported protocol version"
    else if code == NO_VERSION then codes "no protocol version supplied"
    else if code == UNAUTHORIZED then codes "connection is unauthorized"
    else if code == OVER_CAPACITY then codes "over capacity"
    else if code == RECONNECT then codes "reconnect immediately"
    else if code == NO_PONG then codes "pong reply not received"
    else if code == RATE_LIMIT_REACHED then codes "client event rate limit reached"
    else if code == MALFORMED_MESSAGE then codes "malformed message"
    else if code == UNKNOWN_EVENT then codes "unknown event"
    else if code == INVALID_CHANNEL_NAME then codes "invalid channel name"
    else if code == ALREADY_SUBSCRIBED then codes "already subscribed"
    else if code == NOT_SUBSCRIBED then codes "not subscribed"
    else if code == INVALID_SIGNATURE then codes "invalid signature"
    else if code == INVALID_CHANNEL_DATA then codes "invalid channel data"
    else if code == CLIENT_EVENT_REFUSED then codes "client events are not allowed here"
    else if code == MESSAGE_TOO_LONG then codes "message over a limit"
    else if code == TOO_MANY_SUBSCRIPTIONS then codes "too many subscriptions"
    else if code == CHANNEL_FULL then codes "presence channel is full"
    else if code == INVALID_USER_DATA then codes "invalid user data"
    else if code == ALREADY_SIGNED_IN then codes "already signed in"
    else if code == OUT_OF_MEMORY then codes "out of memory"
    else []
