use Rattle.std.proofs.Common.{◌∙◌, ap, refl}
use Rattle.std.specs.Fmt.{decimal}
use Rattle.ch_post.specs.Talks.{TalkView}
use Rattle.ch_post.proofs.Writing.{written_none, written_as}
use Rattle.ch_post.proofs.link_post.write_request.Goals as goal

pub returns-clause-written : goal.returns-clause-written
returns-clause-written g c =
    let law = c.link_calls_chain.ensures in
    let start : TalkView = record { link = g.L.Link.told c.args.talk.now.link; goes_on = c.args.talk.now.goes_on } in
    let first = written_as law start.link _ c.args.front.now _ _ _ (c.as_bytes.ensures.value ∙ c.as_str.ensures.same) (written_none law start c.requires.goes_on) c.write.ensures.writes in
    let second = written_as law start.link _ c.args.key.now _ _ _ (c.as_bytes-2.ensures.value ∙ c.as_str-2.ensures.same) first c.write-2.ensures.writes in
    let third = written_as law start.link _ _ _ _ _ refl second c.write-3.ensures.writes in
    let fourth = written_as law start.link _ c.args.signature.now _ _ _ refl third c.write-4.ensures.writes in
    let fifth = written_as law start.link _ _ _ _ _ refl fourth c.write-5.ensures.writes in
    let sixth = written_as law start.link _ _ _ _ _ (c.as_bytes-3.ensures.value ∙ c.format.ensures.text ∙ ap decimal c.len.ensures) fifth c.write-6.ensures.writes in
    let seventh = written_as law start.link _ _ _ _ _ refl sixth c.write-7.ensures.writes in
    written_as law start.link _ c.args.body.now _ _ _ c.as_slice.ensures seventh c.write-8.ensures.writes
