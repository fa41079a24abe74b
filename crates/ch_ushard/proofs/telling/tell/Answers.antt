use Rattle.std.proofs.Common.{◌≡◌, ◌∙◌, ◌++◌, All, ap, sym, subst}
use Rattle.std.specs.Arc.{arc_value}
use Rattle.std.specs.Result.{OnOk}
use Rattle.ch_base.specs.declared.frame.Frame.{Frame}
use Rattle.ch_outbox.specs.Handed.{handed}
use Rattle.ch_ushard.proofs.Told.{IsCaller, owners_below, handed_told}
use Rattle.ch_ushard.proofs.telling.tell.Goals as goal

pub tell-requires : goal.tell-requires
tell-requires c = subst (All IsCaller) (sym c.watching.ensures) (owners_below c.args.watches.now.watches c.args.user.now c.requires.watches)

pub returns : goal.returns
returns c =
    let frame : Frame = arc_value c.args.printed.now in
    let all = ap (handed frame c.args.except) c.watching.ensures ∙ handed_told frame c.args.except c.args.watches.now.watches c.args.user.now in
    subst (λ ds. OnOk c.tell.result (c.tell.new.self ≡ c.args.made.now ++ ds)) all c.tell.ensures
