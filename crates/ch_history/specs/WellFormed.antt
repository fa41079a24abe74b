-- Which calls on a channel shard are well formed.
use Rattle.std.specs.Prelude.{Bool, true, false, Option, Some, None, IsTrue}
use Rattle.ch_base.specs.JsonText.{IsJsonText, IsJsonString}
use Rattle.ch_base.specs.declared.channel.Member.{Member}
use Rattle.ch_base.specs.declared.channel.ChanCall.{ChanCall}
use Rattle.ch_base.specs.declared.channel.ChanCall.TheVariants.{Join, Leave, Lost, Publish, Say, Take, TakeHooks, Names, Look, Users}
use Rattle.ch_history.specs.ChannelName.{is_good_name, is_presence, kind_of, may_say}
use Rattle.ch_history.specs.Limits.{IsSocket, IsMoment, is_event_name, is_user_id}

-- a member has a good user id, and its info is a JSON text
abbrev pub IsMember : Member → Type 0
IsMember m = IsTrue (is_user_id m.user_id) × IsJsonText m.info

-- a member is there exactly where the channel has members
abbrev pub IsMemberOf : Bool → Option Member → Type 0
IsMemberOf true (Some m) = IsMember m
IsMemberOf false None = Unit {0}
IsMemberOf _ _ = ⊥

-- The bounds of all that the call carries. An excepted socket may be any number, and a prefix any text.
abbrev pub IsWellFormed : ChanCall → Type 0
IsWellFormed (Join socket c member at) = IsSocket socket × IsMoment at × IsTrue (is_good_name c) × IsMemberOf (is_presence c) member
IsWellFormed (Leave socket c at) = IsSocket socket × IsMoment at × IsTrue (is_good_name c)
IsWellFormed (Lost socket at) = IsSocket socket × IsMoment at
IsWellFormed (Publish c event body except at) = IsMoment at × IsTrue (is_good_name c) × IsTrue (is_event_name event) × IsJsonString body
IsWellFormed (Say socket c event body at) =
    IsSocket socket × IsMoment at × IsTrue (is_good_name c) × IsTrue (may_say (kind_of c)) × IsTrue (is_event_name event) × IsJsonText body
IsWellFormed Take = Unit {0}
IsWellFormed (TakeHooks at) = IsMoment at
IsWellFormed (Names prefix) = Unit {0}
IsWellFormed (Look c at) = IsMoment at × IsTrue (is_good_name c)
IsWellFormed (Users c) = IsTrue (is_good_name c) × IsTrue (is_presence c)
