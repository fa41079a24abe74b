use Rattle.std.proofs.Common.{subst, sym}
use Rattle.ch_edge.specs.Ends.{IsNewLink}
use Rattle.ch_post.specs.Posts.{Answers, Talks}
use Rattle.ch_post.specs.Requests.{request_text}
use Rattle.ch_post.specs.Talks.{TalkView}
use Rattle.ch_post.proofs.TalkedOver.{talks}
use Rattle.ch_post.proofs.link_post.talk_over.Goals as goal

pub returns : goal.returns
returns g c =
    let a = c.args in
    let told = g.L.Link.told in
    let request = request_text a.front.now (record { body = a.body.now; key = a.key.now; signature = a.signature.now }) in
    let seen = c.read_line.new.seen in
    let posted = c.answer_in-posted.result in
    let mid : TalkView = record { link = told c.write_request.new.talk.link; goes_on = c.write_request.new.talk.goes_on } in
    let new : TalkView = record { link = told c.read_line.new.self.link; goes_on = c.read_line.new.self.goes_on } in
    subst (λ l. Talks request (told l) seen posted) (sym c.into_link.ensures)
    (talks c.link_calls_chain.ensures request seen (told c.new-talk.result.link) mid new posted
    (subst (λ l. IsNewLink (told l)) (sym c.new-talk.ensures.link) c.requires.new)
    c.write_request.ensures.written c.read_line.ensures (subst (λ s. Answers s posted) c.as_slice.ensures c.answer_in-posted.ensures))
