-- The end of a line: the frames that wait are taken and told, until a round in which no connection ended.
use Rattle.std.specs.Prelude.{ℕ, zero, suc, ◌+◌, ◌&&◌, ◌||◌, not, Bool, false, List, [], ◌∷◌, ◌++◌, length, flat_map, Option, Some, None, if◌then◌else◌}
use Rattle.std.specs.List.{range_with_len}
use Rattle.ch_base.specs.declared.channel.ChanCall.TheVariants.{Take}
use Rattle.ch_base.specs.declared.frame.Frame.{Frame}
use Rattle.ch_base.specs.declared.user.UserCall.TheVariants as user
use Rattle.ch_base.specs.declared.frame.Frame.TheVariants as frame
use Rattle.ch_base.specs.declared.frame.FrameFor.{FrameFor}
use Rattle.ch_base.specs.declared.error_codes.TheConstants.{UNAUTHORIZED}
use Rattle.ch_config.specs.declared.config.Config.{Config}
use Rattle.ch_history.specs.Alone.{with_call, with_user_call}
use Rattle.ch_history.specs.Frames.{waiting}
use Rattle.ch_history.specs.UserFrames.{user_waiting}
use Rattle.ch_protocol.specs.Shards.{Shards, loses}
use Rattle.ch_transcript.specs.Printing.{frame_line, end_lines}
use Rattle.ch_transcript.specs.Progress.{Socket, Played, closed, socket_of, is_live, with_socket}

-- what frames that were taken tell, and how the sockets are then
pub record Telling : Type 0 where
  pub text : List ℕ
  pub sockets : List Socket

-- an open socket is told a frame; a Kill ends its connection
abbrev pub tells_as : List Socket → ℕ → Frame → Telling
tells_as sockets number frame.Kill =
    record { text = end_lines number UNAUTHORIZED; sockets = with_socket sockets number (closed (socket_of sockets number)) }
tells_as sockets number frame = record { text = frame_line number frame; sockets = sockets }

-- a frame for a connection that ended is dropped
abbrev pub tells : List Socket → FrameFor → Telling
tells sockets x =
    if is_live sockets x.socket then tells_as sockets x.socket x.frame else record { text = []; sockets = sockets }

-- the frames are told one after another
abbrev pub tells_all : List Socket → List FrameFor → Telling
tells_all sockets [] = record { text = []; sockets = sockets }
tells_all sockets (x ∷ xs) = record {
  text = (tells sockets x).text ++ (tells_all (tells sockets x).sockets xs).text;
  sockets = (tells_all (tells sockets x).sockets xs).sockets;
}

-- the frames that wait for caller 0: those of the channel shards, ascending, and then those of the user shards
abbrev pub all_waiting : Config → Shards → List FrameFor
all_waiting config shards =
    flat_map (λ k. waiting (shards.chans k) 0) (range_with_len 0 config.chan_shards)
    ++ flat_map (λ k. user_waiting (shards.users k) 0) (range_with_len 0 config.user_shards)

-- a Take is made on each shard
abbrev pub taken : Shards → Shards
taken shards = record {
  chans = λ k. with_call (shards.chans k) Take;
  users = λ k. with_user_call (shards.users k) user.Take;
}

-- whether the connection ended between the two states of a socket
abbrev pub has_ended : Socket → Socket → Bool
has_ended before after = before.is_open && not after.is_open

-- whether a connection ended between the two states of the sockets
abbrev pub any_ended : List Socket → List Socket → Bool
any_ended [] after = false
any_ended (x ∷ before) [] = false
any_ended (x ∷ before) (y ∷ after) = has_ended x y || any_ended before after

-- the losses of those that ended, ascending; the first of the sockets has this number
abbrev pub loses_ended : ℕ → ℕ → List Socket → List Socket → Shards → Shards
loses_ended at number [] after shards = shards
loses_ended at number (x ∷ before) [] shards = shards
loses_ended at number (x ∷ before) (y ∷ after) shards =
    loses_ended at (number + 1) before after (if has_ended x y then loses number at y.asks shards else shards)

-- what rounds write, and how sockets and shards are then
pub record Rounds : Type 0 where
  pub text : List ℕ
  pub sockets : List Socket
  pub shards : Shards

abbrev pub after_round : List ℕ → Rounds → Rounds
after_round text r = record { text = text ++ r.text; sockets = r.sockets; shards = r.shards }

-- Rounds until one in which no connection ended: each takes the frames that wait, tells them, and makes the losses of those
-- that ended. Each round but the last ends one, so one more than there are sockets is enough.
abbrev pub rounds : ℕ → Config → ℕ → List Socket → Shards → Rounds
rounds zero config at sockets shards = record { text = []; sockets = sockets; shards = shards }
rounds (suc n) config at sockets shards =
    let t = tells_all sockets (all_waiting config shards) in
    if any_ended sockets t.sockets
    then after_round t.text (rounds n config at t.sockets (loses_ended at 1 sockets t.sockets (taken shards)))
    else record { text = t.text; sockets = t.sockets; shards = taken shards }

-- the end of a line
abbrev pub with_rounds : Config → Played → Played
with_rounds config x =
    let r = rounds (length x.next.sockets + 1) config x.next.at x.next.sockets x.next.shards in
    record { text = x.text ++ r.text; next = record { at = x.next.at; sockets = r.sockets; shards = r.shards; webhooks = x.next.webhooks } }

abbrev pub rounded : Config → Option Played → Option Played
rounded config None = None
rounded config (Some x) = Some (with_rounds config x)
