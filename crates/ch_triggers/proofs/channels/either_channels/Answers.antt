use Rattle.std.proofs.Common.{inl, subst}
use Rattle.ch_members.specs.Readings.{Gives}
use Rattle.ch_members.proofs.Gives.{gives_some, on_ok}
use Rattle.ch_requests.specs.Triggers.{HasChannel, HasChannels, HasEither}
use Rattle.ch_triggers.proofs.ChannelsOf.{gives_either}
use Rattle.ch_triggers.proofs.channels.either_channels.Goals as goal

pub returns-in-Some : goal.returns-in-Some
returns-in-Some c = λ ms object.
    inl (gives_some (HasChannel c.args.text.now ms) c.in_ok-channels.field-0 c.in-Some.channels (c.in_ok-channels.ensures ms object) c.in-Some.is)

pub returns-in-None : goal.returns-in-None
returns-in-None c = λ ms object.
    let text = c.args.text.now in
    let no_one = subst (Gives (HasChannel text ms)) c.in-None.is (c.in_ok-channels.ensures ms object) in
    on_ok (Gives (HasChannels text ms)) (Gives (HasEither text ms)) c.listed_channels.result (gives_either text ms no_one) (c.listed_channels.ensures ms object)
