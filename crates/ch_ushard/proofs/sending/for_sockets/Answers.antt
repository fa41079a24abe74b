use Rattle.std.proofs.Common.{◌∙◌, ◌++◌, None, All, ap, ap₂, sym, subst}
use Rattle.ch_outbox.specs.Handed.{handed}
use Rattle.ch_ushard.proofs.Told.{IsCaller, owners_below, handed_all}
use Rattle.ch_ushard.proofs.sending.for_sockets.Goals as goal

pub tell-requires : goal.tell-requires
tell-requires c = subst (All IsCaller) (sym c.signed_in.ensures) (owners_below c.args.watches.now.signs c.args.user.now c.requires.owners.signs)

pub returns : goal.returns
returns c =
    c.in_ok-tell.ensures
    ∙ ap₂ (λ ds f. ds ++ handed f None c.signed_in.result) c.new-made.ensures c.in_ok-printed.ensures
    ∙ ap (handed c.args.frame None) c.signed_in.ensures
    ∙ handed_all c.args.frame c.args.watches.now.signs c.args.user.now
