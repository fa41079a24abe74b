-- The end of a line: the frames that wait are told, and connections that end make their losses; and a connection that is silent.
use Rattle.std.specs.Prelude.{◌≡◌, ℕ, true, false, List, [], ◌∷◌, ◌++◌, map, codes, Bool, Option, Some, None}
use Rattle.ch_base.specs.declared.channel.ChanAnswer.TheVariants.{Joined}
use Rattle.ch_base.specs.declared.channel.ChanCall.TheVariants.{Join}
use Rattle.ch_base.specs.declared.user.UserAnswer.TheVariants.{SignedIn, Watching}
use Rattle.ch_base.specs.declared.user.UserCall.TheVariants.{SignIn, Watch, Terminate}
use Rattle.ch_config.specs.Config.{built_in}
use Rattle.ch_rate.specs.Quiet.{quiet_from}
use Rattle.ch_protocol.specs.Settling.{SettledAsk}
use Rattle.ch_protocol.specs.declared.ask.Ask.TheVariants.{Chan, User}
use Rattle.ch_protocol.specs.declared.ask.Made.TheVariants as made
use Rattle.ch_transcript.specs.Printing.{line_end}
use Rattle.ch_protocol.specs.Shards.{Shards, after_ask, after_asks}
use Rattle.ch_transcript.specs.Obeying.{opens, tails}
use Rattle.ch_transcript.specs.Progress.{Progress, Played, Socket, no_webhooks}
use Rattle.ch_transcript.specs.Rounds.{Rounds, taken, rounds}
use Rattle.ch_transcript.specs.Turns.{Turn, ticks}

-- ---- a connection that is ended from the server's side

-- on the one shard of its kind
abbrev pub on_chan : List ℕ → ℕ → SettledAsk
on_chan user_id number = record {
  ask = Chan 0 (Join number (codes "presence-r") (Some (record { user_id = user_id; info = codes "null" })) 0);
  answer = made.Chan Joined;
  at = 0;
}

abbrev pub signs_in : SettledAsk
signs_in = record { ask = User 0 (SignIn 1 (codes "w") 0); answer = made.User SignedIn; at = 0 }

abbrev pub watches : SettledAsk
watches = record { ask = User 0 (Watch 2 (codes "w") 0); answer = made.User Watching; at = 0 }

abbrev pub after : List SettledAsk → Socket
after asks = record { is_open = true; quiet = quiet_from 0; asks = asks }

-- socket 1 is that of the user `w`, whom socket 2 watches; both are on a presence channel
abbrev pub two_sockets : List Socket
two_sockets = after (signs_in ∷ on_chan (codes "w") 1 ∷ []) ∷ after (watches ∷ on_chan (codes "v") 2 ∷ []) ∷ []

abbrev pub no_shards : Shards
no_shards = record { chans = λ k. []; users = λ k. [] }

-- nothing waits, and then the connections of `w` are to end
abbrev pub to_end : Shards
to_end =
    after_ask (taken (after_asks no_shards (signs_in.ask ∷ watches.ask ∷ (on_chan (codes "w") 1).ask ∷ (on_chan (codes "v") 2).ask ∷ [])))
    (User 0 (Terminate (codes "w") 7))

abbrev pub ended : Rounds
ended = rounds 3 built_in 7 two_sockets to_end

-- In the first round socket 1 is told and ends. In the second, socket 2 is told what its losses mean: first by the channel
-- shard, then by the user shard.
pub record Killed : Type 0 where
  pub text : ended.text
      ≡ codes "1 {\"event\":\"pusher:error\",\"data\":{\"message\":\"connection is unauthorized\",\"code\":4009}}" ++ line_end
      ++ codes "1 close 4009" ++ line_end
      ++ codes "2 {\"event\":\"pusher_internal:member_removed\",\"channel\":\"presence-r\",\"data\":\"{\\\"user_id\\\":\\\"w\\\"}\"}" ++ line_end
      ++ codes "2 {\"event\":\"pusher_internal:watchlist_events\",\"data\":{\"events\":[{\"name\":\"offline\",\"user_ids\":[\"w\"]}]}}" ++ line_end
  pub sockets : map (λ s. s.is_open) ended.sockets ≡ false ∷ true ∷ []

-- ---- silence

-- socket 1 heard at the moment 0, with a ping out since then or none
abbrev pub silent : Option ℕ → Socket
silent pinged = record { is_open = true; quiet = record { heard = 0; pinged = pinged }; asks = [] }

abbrev pub ticks_at : ℕ → Socket → Turn
ticks_at at s = ticks 1 at s no_shards

pub record Ticks : Type 0 where
  pub early : (ticks_at 119999 (silent None)).text ≡ []
  pub ping : (ticks_at 120000 (silent None)).text ≡ codes "1 {\"event\":\"pusher:ping\",\"data\":{}}" ++ line_end
  pub is_out : (ticks_at 120000 (silent None)).socket ≡ silent (Some 120000)
  pub waits : (ticks_at 149999 (silent (Some 120000))).text ≡ []
  pub ends : (ticks_at 150000 (silent (Some 120000))).text
      ≡ codes "1 {\"event\":\"pusher:error\",\"data\":{\"message\":\"pong reply not received\",\"code\":4201}}" ++ line_end
      ++ codes "1 close 4201" ++ line_end
  pub is_ended : (ticks_at 150000 (silent (Some 120000))).socket.is_open ≡ false

-- ---- connections, and tails

abbrev pub nothing_yet : Progress
nothing_yet = record { at = 0; sockets = []; shards = no_shards; webhooks = no_webhooks }

abbrev pub text_of : Option Played → List ℕ
text_of None = codes "refused"
text_of (Some x) = x.text

-- the text, and whether each connection is open then
abbrev pub open_after : Option Played → List Bool
open_after None = []
open_after (Some x) = map (λ s. s.is_open) x.next.sockets

-- a channel shard on which one took its frames, before and after a Join
abbrev pub one_join : Progress
one_join = record { at = 0; sockets = []; shards = taken (after_ask (taken no_shards) (on_chan (codes "w") 1).ask); webhooks = no_webhooks }

pub record Others : Type 0 where
  pub opened : text_of (opens nothing_yet 0 None)
      ≡ codes "1 {\"event\":\"pusher:connection_established\",\"data\":\"{\\\"socket_id\\\":\\\"1.1\\\",\\\"activity_timeout\\\":120}\"}" ++ line_end
  pub is_open : open_after (opens nothing_yet 0 None) ≡ true ∷ []
  pub refused : text_of (opens nothing_yet 0 (Some 4007))
      ≡ codes "1 {\"event\":\"pusher:error\",\"data\":{\"message\":\"unsupported protocol version\",\"code\":4007}}" ++ line_end
      ++ codes "1 close 4007" ++ line_end
  pub refused_counts : open_after (opens nothing_yet 0 (Some 4007)) ≡ false ∷ []
  pub tail : text_of (tails built_in one_join 0) ≡ codes "tail TJT" ++ line_end
  pub no_shard : text_of (tails built_in one_join 1) ≡ codes "refused"
