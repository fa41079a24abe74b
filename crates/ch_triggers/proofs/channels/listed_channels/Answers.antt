use Rattle.std.proofs.Common.{◌≡◌, true}
use Rattle.ch_members.specs.Readings.{Gives}
use Rattle.ch_members.proofs.Gives.{on_ok}
use Rattle.ch_requests.specs.Triggers.{HasChannels, IsChannelList}
use Rattle.ch_triggers.proofs.ChannelsOf.{gives_listed}
use Rattle.ch_triggers.proofs.channels.listed_channels.Goals as goal

pub returns-then-not-is_absent : goal.returns-then-not-is_absent
returns-then-not-is_absent c = λ ms object channels k.
    let absent : c.is_absent.result ≡ true = (c.is_absent.ensures ms object).1 k.1 in absurd (cc (absent, c.if-not-is_absent.true))

pub channels_of-requires : goal.channels_of-requires
channels_of-requires c = let list = c.in-Some.ensures c.requires.0 (c.requires.1, c.requires.2) in (list.0, list.2)

pub returns-in-Some : goal.returns-in-Some
returns-in-Some c = λ ms object.
    let text = c.args.text.now in
    let list = c.in-Some.ensures ms object in
    on_ok (Gives (IsChannelList text list.0)) (Gives (HasChannels text ms)) c.channels_of.result
    (gives_listed text ms list.0 list.1.0 list.1.1 ((c.is_absent.ensures ms object).0 c.if-not-is_absent.false))
    (c.channels_of.ensures list.0 list.2)

pub returns-in-None : goal.returns-in-None
returns-in-None c = λ ms object channels k. c.in-None.ensures ms object k.0.0 (k.0.1, k.0.2)
