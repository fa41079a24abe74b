use Rattle.std.proofs.Common.{◌+◌, ◌-◌, length, cond}
use Rattle.ch_post.specs.declared.talk.TheConstants.{MOST_STALLS}
use Rattle.ch_post.specs.Talks.{IsPatient}
use Rattle.ch_post.proofs.Writing.{Wrote}
use Rattle.ch_post.proofs.talk.Talk.write.Given as goal

abbrev pub invariant-loop-self : goal.invariant-loop-self
invariant-loop-self g l =
    Wrote l.fn.bytes l.left (record { link = g.L.Link.told l.fn.self.link; goes_on = l.fn.self.goes_on }) (record { link = g.L.Link.told l.self.link; goes_on = l.self.goes_on })
    × IsPatient (g.L.Link.told l.self.link) l.self.goes_on l.self.stalls

abbrev pub decreases-loop-self : goal.decreases-loop-self
decreases-loop-self g l = length l.left + ((MOST_STALLS - l.self.stalls) + cond l.self.goes_on 1 0)
