-- What holds of every turn.
use Rattle.std.proofs.Common.{◌≡◌, [], subst, refl, append-nil, inl, inr}
use Rattle.ch_net.proofs.Moving.{LinkMoves-then}
use Rattle.ch_net.specs.Links.{LinkMoves}
use Rattle.ch_exchange.specs.Laws.{LinksMove, IdleTurns}
use Rattle.ch_exchange.specs.Turns.{Course, Scene, IsAnswer, HasMoved, HasMore, HasRested}
use Rattle.ch_exchange.specs.declared.stage.Stage.{Stage}
use Rattle.ch_exchange.specs.declared.turn.ExTurn.{ExTurn}
use Rattle.ch_exchange.specs.declared.turn.ExTurn.TheVariants.{Moved, Idle, Upgrade, Done, Peer, Fault}

pub links_move : LinksMove
links_move s c old new result t =
    subst (λ z. LinkMoves old.link new.link z c.written) (append-nil c.read)
    (LinkMoves-then old.link c.link new.link c.read [] [] c.written t.gives t.takes)

-- a turn that moved didn't rest
not_both : (old : Stage) (c : Course) → HasMoved old c → HasRested old c → ⊥
not_both old c (inl read) (none, nothing, same) = read none
not_both old c (inr (inl written)) (none, nothing, same) = written nothing
not_both old c (inr (inr made)) (none, nothing, same) = made same

rests : (c : Course) (old new : Scene) (result : ExTurn) → result ≡ Idle → IsAnswer c old new result → HasMore result × HasRested old.stage c
rests c old new Idle is (un, rested) = (tt, rested)
rests c old new Moved is a = cc
rests c old new (Upgrade target) is a = cc
rests c old new Done is a = cc
rests c old new Peer is a = cc
rests c old new Fault is a = cc

idle : (c : Course) (old new : Scene) (result : ExTurn) → HasMore result × HasRested old.stage c → IsAnswer c old new result → result ≡ Idle
idle c old new Moved (more, rest) (un, moved, stalls) = absurd (not_both old.stage c moved rest)
idle c old new Idle (more, rest) a = refl
idle c old new (Upgrade target) (more, rest) a = absurd more
idle c old new Done (more, rest) a = absurd more
idle c old new Peer (more, rest) a = absurd more
idle c old new Fault (more, rest) a = absurd more

pub idle_turns : IdleTurns
idle_turns s c old new result t = (λ is. rests c old new result is t.answer, λ both. idle c old new result both t.answer)
