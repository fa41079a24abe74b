use Rattle.std.proofs.Common.{subst, drop}
use Rattle.ch_requests.specs.Handshakes.{shaken}
use Rattle.ch_requests.specs.Replies.{refusal}
use Rattle.ch_requests.specs.Verdict.{IsVerdict}
use Rattle.ch_exchange.specs.Answers.{is_late, shake_reply}
use Rattle.ch_exchange.specs.Pending.{closing}
use Rattle.ch_exchange.proofs.Coming.{needed, upgraded, served, refused, either}
use Rattle.ch_exchange.proofs.serving.Serving.reply_to.Goals as goal

pub shaken-reply-requires : goal.shaken-reply-requires
shaken-reply-requires g c =
    let s = c.args.self.now in
    let f = c.args.reader.now in
    c.head_within.ensures s.config.app_id f.bytes (is_late f.since s.now) c.in-Upgrade.head
    (subst (λ x. IsVerdict s.config.app_id f.bytes (is_late f.since s.now) x) c.in-Upgrade.is c.requires.verdict)

pub returns-in-Need-clause-answers : goal.returns-in-Need-clause-answers
returns-in-Need-clause-answers g c =
    needed c.args.self.now c.args.reader.now (g.D.Desk.view c.args.desk.now) c.args.look.now c.requires.verdict c.in-Need.is

pub returns-in-Upgrade-clause-answers : goal.returns-in-Upgrade-clause-answers
returns-in-Upgrade-clause-answers g c =
    let f = c.args.reader.now in
    let head = c.in-Upgrade.head in
    upgraded c.args.self.now f (g.D.Desk.view c.args.desk.now) c.args.look.now head c.or_out_of_memory.result c.requires.verdict c.in-Upgrade.is
    (either c.shaken-reply.result (shake_reply (drop head.used f.bytes) (shaken head)) c.or_out_of_memory.result c.shaken-reply.ensures c.or_out_of_memory.ensures)

pub returns-in-Ready-clause-answers : goal.returns-in-Ready-clause-answers
returns-in-Ready-clause-answers g c =
    served c.args.self.now c.args.reader.now (g.D.Desk.view c.args.desk.now) (g.D.Desk.view c.serve.new.desk) c.args.look.now c.in-Ready.request c.serve.result
    c.requires.verdict c.in-Ready.is c.serve.ensures.serves

pub returns-in-Refuse-clause-answers : goal.returns-in-Refuse-clause-answers
returns-in-Refuse-clause-answers g c =
    let r = c.or_out_of_memory-in-Refuse in
    let status = c.in-Refuse.status in
    refused c.args.self.now c.args.reader.now (g.D.Desk.view c.args.desk.now) c.args.look.now status r.result c.requires.verdict c.in-Refuse.is
    (either c.refused-reply.result (closing (refusal status)) r.result c.refused-reply.ensures r.ensures)
