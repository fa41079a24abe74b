use Rattle.std.proofs.Common.{subst}
use Rattle.ch_protocol.specs.Readings.{Reads}
use Rattle.ch_session.specs.Judging.{known}
use Rattle.ch_session.specs.ReadTexts.{reading_of}
use Rattle.ch_session.proofs.HearingLemmas.{hears_by}
use Rattle.ch_session.proofs.session.Session.judge_text.Goals as goal

pub returns-clause-hears : goal.returns-clause-hears
returns-clause-hears c = λ start number asks stands.
    let reads = subst (λ t. Reads t (reading_of c.in_ok-read.read)) c.as_str.ensures.same c.in_ok-read.ensures.reads in
    hears_by (known c.args.config.now start number asks c.args.now) c.args.self.now c.args.config.now c.args.text.now (reading_of c.in_ok-read.read) c.judge.result
    reads (c.judge.ensures.judged start number asks stands) c.judge.ensures.ready
