use Rattle.std.proofs.Common.{◌∙◌, ◌++◌, ap, sym}
use Rattle.ch_history.specs.SignIns.{users_of}
use Rattle.ch_ushard.specs.Effects.{farewell}
use Rattle.ch_ushard.proofs.Told.{flat_map_next}
use Rattle.ch_ushard.proofs.parting.farewells.Goals as goal

pub loop-i-preserved : goal.loop-i-preserved
loop-i-preserved c =
    let f = farewell c.args.watches.now c.args.socket in
    c.in_ok-part.ensures
    ∙ ap (λ ds. ds ++ f c.user_of-user.result.now) c.loop-i.invariant
    ∙ sym (flat_map_next f (users_of c.args.watches.now.signs c.args.socket) c.loop-i.i _ c.user_of-user.ensures)
