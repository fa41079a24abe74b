-- The worked example computes.
use Rattle.std.proofs.Common.{◌≡◌, List, [], ◌∷◌, true, refl, subst}
use Rattle.std.specs.Prelude.{None, Ok, codes}
use Rattle.std.specs.Str.{is_utf8, chars}
use Rattle.std.specs.Char.{encode_utf8}
use Rattle.std.specs.Fmt.{digits}
use Rattle.std.specs.Str.Lossy.{utf8_lossy, utf8_valid_len}
use Rattle.form_urlencoded.specs.Form.{raw_pairs, split}
use Rattle.percent_encoding.specs.Percent.{percent_decode}
use Rattle.ch_base.specs.Escape.{escaped_byte, quoted}
use Rattle.ch_config.specs.Config.{built_in}
use Rattle.ch_protocol.specs.Readings.{Reading}
use Rattle.ch_protocol.specs.declared.client_message.ClientMessage.TheVariants.{Ping}
use Rattle.ch_requests.specs.declared.request.Look.TheVariants.{Need}
use Rattle.ch_transcript.specs.Lines.{lines_of}
use Rattle.ch_transcript.specs.Obeying.{Sense}
use Rattle.ch_transcript.specs.Outcomes.{Outcome, ends, OutcomeFrom}
use Rattle.ch_transcript.specs.Progress.{beginning}
use Rattle.ch_outcomes.specs.WorkedExample.{one_publish, what_is_sent, WorkedExample}
use Rattle.ch_outcomes.proofs.ComputedOutcomes.{ran, run, MeanAfter, AllMean, outcome_run}
use Rattle.ch_outcomes.proofs.PlainTexts.{string_from}
use Rattle.ch_outcomes.proofs.SubscribeTexts.{with_auth_reading, with_auth_reads, without_auth_reading, without_auth_reads}

abbrev reads_as : Reading → Sense
reads_as r = record { reading = r; is_string = true; look = Need; events = None }

-- a line without a text of a socket
abbrev other : Sense
other = reads_as (record { verdict = Ok Ping; member = None; user = None })

abbrev senses : List Sense
senses = other ∷ other ∷ reads_as with_auth_reading ∷ reads_as without_auth_reading ∷ other ∷ []

all_mean : AllMean built_in beginning (lines_of one_publish) senses
unfolding AllMean MeanAfter is_utf8 chars encode_utf8 digits raw_pairs split utf8_lossy utf8_valid_len percent_decode escaped_byte quoted
all_mean = (refl, tt, (refl, tt, (refl, with_auth_reads, (refl, without_auth_reads, (refl, string_from (codes "hi") [] refl, tt)))))

computed : run built_in 1 beginning (lines_of one_publish) senses ≡ ends 0 what_is_sent
unfolding run ran is_utf8 chars encode_utf8 digits raw_pairs split utf8_lossy utf8_valid_len percent_decode escaped_byte quoted
computed = refl

pub worked_example : WorkedExample
worked_example =
    let P : Outcome → Type 0 = λ o. OutcomeFrom built_in 1 beginning (lines_of one_publish) o in
    subst P computed (outcome_run built_in 1 beginning (lines_of one_publish) senses all_mean)
