use Rattle.std.proofs.Common.{List, refl, subst}
use Rattle.ch_base.specs.declared.frame.FrameFor.{FrameFor}
use Rattle.ch_transcript.specs.Rounds.{tells_all}
use Rattle.ch_player.proofs.Tellings.{TellsOn, TellsOn-first, TellsOn-next, TellsOn-last, SameSessions-refl, SameSessions-then}
use Rattle.ch_player.proofs.telling.tell_all.Goals as goal

pub loop-item-init : goal.loop-item-init
loop-item-init c = record {
  sessions = SameSessions-refl c.args.seats.now.items;
  told = λ sockets are. TellsOn-first c.args.seats.now.items c.args.out.now.items sockets c.args.frames are;
}

pub loop-item-preserved : goal.loop-item-preserved
loop-item-preserved c = record {
  sessions = SameSessions-then _ _ _ c.loop-item.invariant.sessions c.in_ok-tell.ensures.sessions;
  told = λ sockets are.
      let all = tells_all sockets c.args.frames in
      let before = c.loop-item.seats.items in
      let old = c.args.out.now.items in
      let mid = c.loop-item.out.items in
      let P : List FrameFor → Type 0 = λ xs. TellsOn before old mid all xs in
      let on = subst P c.in-Some.ensures.front (c.loop-item.invariant.told sockets are) in
      TellsOn-next before c.tell.new.seats.items old mid c.tell.new.out.items all c.in-Some.item c.take_front.new.self on
      (c.in_ok-tell.ensures.tells on.so_far.sockets on.tells.seats);
}

pub returns-clause-tells : goal.returns-clause-tells
returns-clause-tells c = λ sockets are.
    let all = tells_all sockets c.args.frames in
    let now = c.loop-item.seats.items in
    let P : List FrameFor → Type 0 = λ xs. TellsOn now c.args.out.now.items c.loop-item.out.items all xs in
    TellsOn-last now c.args.out.now.items c.loop-item.out.items all (subst P (c.in_default.ensures.none.0 refl) (c.loop-item.invariant.told sockets are))
