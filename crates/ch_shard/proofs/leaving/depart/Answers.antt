use Rattle.std.proofs.Common.{◌∙◌, ap, sym}
use Rattle.ch_presence.specs.Members.{user_of}
use Rattle.ch_presence.proofs.SameUsers.{same_users}
use Rattle.ch_shard.proofs.Partings.{user_there}
use Rattle.ch_shard.proofs.Sounds.{none_leaves}
use Rattle.ch_shard.proofs.leaving.depart.Goals as goal

pub leave-requires : goal.leave-requires
leave-requires c =
    let d = c.args.channel.now in
    let socket = c.args.socket in
    let xs = c.args.subs.now in
    let there = user_there d socket xs c.in-Some.user_id.now c.requires.members (sym c.in-Some.ensures) in
    ap (λ rs. user_of rs d socket) c.requires.present ∙ (same_users xs d).user socket there.0 c.requires.members ∙ sym c.in-Some.ensures

pub returns-in-None : goal.returns-in-None
returns-in-None c = sym (none_leaves c.args.subs.now c.args.presence.now.rows c.args.channel.now c.args.socket c.requires (sym c.in-None.ensures))
