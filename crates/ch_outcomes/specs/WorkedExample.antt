-- A whole transcript and its outcome: two connections that subscribe to a channel, and one event that is published there.
use Rattle.std.specs.Prelude.{ℕ, List, ◌++◌, codes}
use Rattle.ch_config.specs.Config.{built_in}
use Rattle.ch_transcript.specs.Printing.{line_end}
use Rattle.ch_transcript.specs.Outcomes.{HasOutcome, ends}

-- the bytes of the transcript
abbrev pub one_publish : List ℕ
one_publish =
    codes "0 open /app/k?protocol=7" ++ line_end
    ++ codes "0 open /app/k?protocol=7" ++ line_end
    ++ codes "1 say 1 {\"event\":\"pusher:subscribe\",\"data\":{\"auth\":\"\",\"channel\":\"a\"}}" ++ line_end
    ++ codes "1 say 2 {\"event\":\"pusher:subscribe\",\"data\":{\"channel\":\"a\"}}" ++ line_end
    ++ codes "2 publish a e \"hi\"" ++ line_end

-- what is written for them
abbrev pub what_is_sent : List ℕ
what_is_sent =
    codes "1 {\"event\":\"pusher:connection_established\",\"data\":\"{\\\"socket_id\\\":\\\"1.1\\\",\\\"activity_timeout\\\":120}\"}" ++ line_end
    ++ codes "2 {\"event\":\"pusher:connection_established\",\"data\":\"{\\\"socket_id\\\":\\\"1.2\\\",\\\"activity_timeout\\\":120}\"}" ++ line_end
    ++ codes "1 {\"event\":\"pusher_internal:subscription_succeeded\",\"channel\":\"a\",\"data\":\"{}\"}" ++ line_end
    ++ codes "2 {\"event\":\"pusher_internal:subscription_succeeded\",\"channel\":\"a\",\"data\":\"{}\"}" ++ line_end
    ++ codes "sent 2 0" ++ line_end
    ++ codes "1 {\"event\":\"e\",\"channel\":\"a\",\"data\":\"hi\"}" ++ line_end
    ++ codes "2 {\"event\":\"e\",\"channel\":\"a\",\"data\":\"hi\"}" ++ line_end

abbrev pub WorkedExample : Type 0
WorkedExample = HasOutcome built_in one_publish (ends 0 what_is_sent)
