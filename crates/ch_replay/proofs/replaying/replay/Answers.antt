use Rattle.std.proofs.Common.{ap, ◌∙◌, sym}
use Rattle.ch_config_text.specs.Config.{config_in}
use Rattle.ch_transcript.specs.declared.ending.Ending.TheVariants as ending
use Rattle.ch_replay.proofs.GivenLemmas.{of_config, of_no_config}
use Rattle.ch_replay.proofs.ExactLemmas.{ran_exact, memory_exact}
use Rattle.ch_replay.proofs.Naming.{named_four, named_eight}
use Rattle.ch_replay.proofs.PlayableLemmas.{ran_complete}
use Rattle.ch_replay.proofs.Running.{nothing_ran_on}
use Rattle.ch_replay.proofs.replaying.replay.Goals as goal

pub returns-in-Ok-clause-complete : goal.returns-in-Ok-clause-complete
returns-in-Ok-clause-complete g c =
    λ words. rw c.in-Some.is (of_config (config_in c.in-Some.bytes.now) c.in-Ok.config _ c.in-Ok.ensures.judged
    (rw c.status_of.ensures (ran_complete c.in-Ok.config _ _ _ _ _ _ _ c.replay_lines.result c.replay_lines.ensures.ran c.replay_lines.ensures.read_fault c.replay_lines.ensures.write_fault)))

pub returns-in-Err-clause-ran : goal.returns-in-Err-clause-ran
returns-in-Err-clause-ran g c =
    λ words. rw c.in-Some.is (of_no_config (config_in c.in-Some.bytes.now) c.in-Err.fault _ c.in-Err.ensures.judged
    (λ memory config. (ending.Memory, (c.decline.ensures.memory memory).0, nothing_ran_on config _ _ _ _ (ap g.K.Sink.told (c.decline.ensures.memory memory).1))))

pub returns-in-Ok-clause-exact : goal.returns-in-Ok-clause-exact
returns-in-Ok-clause-exact g c =
    λ words. rw c.in-Some.is (of_config (config_in c.in-Some.bytes.now) c.in-Ok.config _ c.in-Ok.ensures.judged
    (rw c.status_of.ensures (ran_exact c.in-Ok.config _ _ _ _ _ c.replay_lines.result c.replay_lines.ensures.ran)))

pub returns-in-Ok-clause-not_a_line : goal.returns-in-Ok-clause-not_a_line
returns-in-Ok-clause-not_a_line g c =
    λ is. rw c.in-Some.is (of_config (config_in c.in-Some.bytes.now) c.in-Ok.config _ c.in-Ok.ensures.judged
    (named_four c.in-Ok.config _ _ g.K.Sink.told g.K.Sink.faults _ _ c.replay_lines.result c.replay_lines.ensures.named (sym c.status_of.ensures ∙ is)))

pub returns-in-Ok-clause-long_line : goal.returns-in-Ok-clause-long_line
returns-in-Ok-clause-long_line g c =
    λ is. rw c.in-Some.is (of_config (config_in c.in-Some.bytes.now) c.in-Ok.config _ c.in-Ok.ensures.judged
    (named_eight c.in-Ok.config _ _ g.K.Sink.told g.K.Sink.faults _ _ c.replay_lines.result c.replay_lines.ensures.named (sym c.status_of.ensures ∙ is)))

pub returns-in-Err-clause-exact : goal.returns-in-Err-clause-exact
returns-in-Err-clause-exact g c =
    λ words. rw c.in-Some.is (of_no_config (config_in c.in-Some.bytes.now) c.in-Err.fault _ c.in-Err.ensures.judged
    (λ memory config. memory_exact config c.decline.result _ _ _ _ (c.decline.ensures.memory memory).0))
