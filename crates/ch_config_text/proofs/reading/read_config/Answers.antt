use Rattle.std.proofs.Common.{inr}
use Rattle.std.proofs.lemmas.Bool.{iff_false}
use Rattle.serde_json.specs.View.{view}
use Rattle.ch_config_text.proofs.ReadLemmas.{answers-read, config_in-unread}
use Rattle.ch_config_text.proofs.reading.read_config.Goals as goal

pub returns-in-Ok-clause-judged : goal.returns-in-Ok-clause-judged
returns-in-Ok-clause-judged c =
    answers-read c.args.bytes.now (view c.in-Ok.value) c.judge.result c.in-Ok.ensures.ok.0 c.in-Ok.ensures.ok.1 c.judge.ensures.judged

pub returns-in-Err-2-clause-judged : goal.returns-in-Err-2-clause-judged
returns-in-Err-2-clause-judged c =
    inr (config_in-unread c.args.bytes.now (c.in-Err.ensures.err (iff_false c.is_memory.ensures c.if-is_memory.false)))
