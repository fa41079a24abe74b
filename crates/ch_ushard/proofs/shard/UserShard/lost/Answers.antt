use Rattle.ch_ushard.proofs.Told.{HasOwners-without}
use Rattle.ch_ushard.proofs.shard.UserShard.lost.Goals as goal

pub invariant_of-self-2 : goal.invariant_of-self-2
invariant_of-self-2 c =
    HasOwners-without c.self.inside.watches c.lost-signs.new.self c.args.socket c.lost-signs.ensures.signs c.lost-signs.ensures.watches c.self.invariant
