use Rattle.ch_live.proofs.Listenings.{heard_text, heard_binary}
use Rattle.ch_live.proofs.receiving.hear_message.Goals as goal

pub returns-in-Text-clause-heard : goal.returns-in-Text-clause-heard
returns-in-Text-clause-heard g c =
    let a = c.args in
    heard_text a.config.now a.now a.message c.in-Text.text a.session.now c.hear-response.new.session a.backlog.now c.tell.new.backlog (g.D.Desk.view a.desk.now) (g.D.Desk.view c.hear-response.new.desk)
    c.hear-response.result c.tell.result c.in-Text.is c.requires.idle c.hear-response.ensures.hears c.tell.ensures.tells c.tell.ensures.ends

pub returns-in-Binary-clause-heard : goal.returns-in-Binary-clause-heard
returns-in-Binary-clause-heard g c =
    let a = c.args in
    heard_binary a.config.now a.now a.message a.session.now c.hear_binary-response.new.session a.backlog.now c.tell-in-Binary.new.backlog (g.D.Desk.view a.desk.now)
    c.hear_binary-response.result c.tell-in-Binary.result c.in-Binary.is c.hear_binary-response.ensures.refused c.hear_binary-response.ensures.stands c.hear_binary-response.ensures.same
    c.tell-in-Binary.ensures.tells c.tell-in-Binary.ensures.ends
